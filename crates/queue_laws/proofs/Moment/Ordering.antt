-- An order of whole calls whose effects are a history of moments is a run of the table of one owner.
use Rattle.std.proofs.Common.{◌≡◌, ℕ, List, [], ◌∷◌, ◌++◌, Option, refl, ap, sym, ◌∙◌, subst, inl, inr, append-nil}
use Rattle.queue_steps.specs.{State.State, State.start, Effect.made, Effect.Runs, Effect.IsHistory, Effect.after_from, Effect.after, Legal.IsShown, Sequential.Owned, Sequential.fresh, Sequential.SequentialRun}
use Rattle.queue_laws.specs.{Common.Vocabulary.Effect, Moment.Moments.RunsAtOnce, Moment.Moments.IsAtOnce, Moment.Moments.OneMoment, Moment.Moments.others, Moment.Moments.settled, Moment.Moments.arrived, Common.Effects.FrontOpen}
use Rattle.queue_laws.specs.Moment.Orders.{Whole, calls_of, replies_of, effects_of, IsOrder, RunsAsOne, OrdersAreRuns, one_by_one, SettledIsRun}
use Rattle.queue_laws.proofs.{Moment.Answering.displaces_at_once, Moment.Owning.IsFew, Moment.Owning.is_few, Common.Runs.after_rest, Moment.Table.Agrees, Moment.Table.Done, Moment.Table.finish}

module _ {T : Type 0} where
  -- the effects of the first call run alone, and leave a history of moments
  record FirstRuns (Q : State T) (es more : List (Effect T)) : Type 0 where
    runs : Runs Q es
    first : FrontOpen Q es
    next : RunsAtOnce (after_from Q es) more

  one_runs : (Q : State T) (e : Effect T) (more : List (Effect T)) → others (e ∷ []) ≡ e ∷ [] → RunsAtOnce Q (e ∷ more) → FirstRuns Q (e ∷ []) more
  one_runs Q (Effect.Front old v) more plain r = absurd (let no : [] ≡ Effect.Front old v ∷ [] = plain in cc)
  one_runs Q Effect.Arrive more plain r = absurd r
  one_runs Q e more plain r = record { runs = (r.0, tt); first = tt; next = r.1 }

  none_runs : (Q : State T) (more : List (Effect T)) → RunsAtOnce Q more → FirstRuns Q [] more
  none_runs Q more r = record { runs = tt; first = tt; next = r }

  both_run : (Q : State T) (old v : T) (more : List (Effect T)) → RunsAtOnce Q (Effect.Front old v ∷ Effect.Arrive ∷ more) → FirstRuns Q (Effect.Front old v ∷ Effect.Arrive ∷ []) more
  both_run Q old v more r = record { runs = (r.1, ((v, refl), tt)); first = r.0; next = r.2 }

  first_runs : (Q : State T) (es more : List (Effect T)) → IsFew es → RunsAtOnce Q (es ++ more) → FirstRuns Q es more
  first_runs Q es more few r =
      elim few [
        | inl none ↦ subst (λ (l : List (Effect T)). FirstRuns Q l more) (sym none) (none_runs Q more (subst (λ (l : List (Effect T)). RunsAtOnce Q (l ++ more)) none r))
        | inr (inl f) ↦ subst (λ (l : List (Effect T)). FirstRuns Q l more) (sym f.1) (one_runs Q f.0 more f.3 (subst (λ (l : List (Effect T)). RunsAtOnce Q (l ++ more)) f.1 r))
        | inr (inr f) ↦ subst (λ (l : List (Effect T)). FirstRuns Q l more) (sym f.2) (both_run Q f.0 f.1 more (subst (λ (l : List (Effect T)). RunsAtOnce Q (l ++ more)) f.2 r))
      ]

  -- from where the one owner's queue is S
  record RunsOn (S : Owned T) (Q : State T) (order : List (Whole T)) : Type 0 where
    last : Owned T
    run : SequentialRun S (calls_of order) (replies_of order) last
    shown : IsShown last.queue (after_from Q (effects_of order))

  runs_on : (S : Owned T) (Q : State T) (order : List (Whole T)) → Agrees S Q → RunsAtOnce Q (effects_of order) → IsOrder Q order → RunsOn S Q order
  runs_on S Q [] agrees r is = record { last = S; run = refl; shown = agrees.shown }
  runs_on S Q (x ∷ xs) agrees r is =
      let R : State T = after_from Q x.effects in
      let f = first_runs Q x.effects (effects_of xs) (is_few x.call x.reply x.effects is.0) r in
      let done : Done S R x.call x.reply = finish S Q R x.call x.reply x.effects agrees is.0 f.runs refl is.1 f.first in
      let more = runs_on done.0 R xs done.2 f.next is.2 in
      record { last = more.last; run = (done.0, (done.1, more.run)); shown = subst (IsShown more.last.queue) (sym (after_rest Q x.effects (effects_of xs))) more.shown }

  opens : (cap : Option ℕ) → Agrees (fresh {T = T} cap) (start cap 0)
  opens cap = record { shown = record { items = refl; cap = refl; closed = refl; coming = refl; accepted = inr refl }; idle = refl; blocks = λ e. refl }

  order_runs : (cap : Option ℕ) (order : List (Whole T)) → IsAtOnce cap (effects_of order) → IsOrder (start cap 0) order → RunsAsOne cap order (after cap (effects_of order))
  order_runs cap order r is = let all = runs_on (fresh cap) (start cap 0) order (opens cap) r is in record { last = all.last; run = all.run; shown = all.shown }

  -- a call for each moment
  record OneByOne (Q : State T) (v : T) (es : List (Effect T)) : Type 0 where
    effects : effects_of (one_by_one v es) ≡ es
    is : IsOrder Q (one_by_one v es)

  one_by_one_is : (Q : State T) (v : T) (es : List (Effect T)) → RunsAtOnce Q es → OneByOne Q v es
  one_by_one_is Q v [] r = record { effects = refl; is = tt }
  one_by_one_is Q v (Effect.Append w ∷ es) r =
      let more = one_by_one_is (made (Effect.Append w) Q) v es r.1 in
      record { effects = ap (λ (l : List (Effect T)). Effect.Append w ∷ l) more.effects; is = (refl, λ none. absurd (cc), more.is) }
  one_by_one_is Q v (Effect.Take w ∷ es) r =
      let more = one_by_one_is (made (Effect.Take w) Q) v es r.1 in
      record { effects = ap (λ (l : List (Effect T)). Effect.Take w ∷ l) more.effects; is = (refl, λ none. absurd (cc), more.is) }
  one_by_one_is Q v (Effect.Replace old w ∷ es) r =
      let more = one_by_one_is (made (Effect.Replace old w) Q) v es r.1 in
      record { effects = ap (λ (l : List (Effect T)). Effect.Replace old w ∷ l) more.effects; is = (inl refl, λ none. absurd (cc), more.is) }
  one_by_one_is Q v (Effect.Front old w ∷ Effect.Arrive ∷ es) r =
      let more = one_by_one_is (made Effect.Arrive (made (Effect.Front old w) Q)) v es r.2 in
      record { effects = ap (λ (l : List (Effect T)). Effect.Front old w ∷ Effect.Arrive ∷ l) more.effects; is = (inr refl, λ none. absurd (cc), more.is) }
  one_by_one_is Q v (Effect.Close ∷ es) r =
      let more = one_by_one_is (made Effect.Close Q) v es r.1 in
      record { effects = ap (λ (l : List (Effect T)). Effect.Close ∷ l) more.effects; is = (refl, λ none. absurd (cc), more.is) }
  one_by_one_is Q v (Effect.SelfClose ∷ es) r =
      let more = one_by_one_is (made Effect.SelfClose Q) v es r.1 in
      record { effects = ap (λ (l : List (Effect T)). Effect.SelfClose ∷ l) more.effects; is = ((refl, inl refl), λ none. absurd (cc), more.is) }
  one_by_one_is Q v (x ∷ es) r = absurd r

pub orders_are_runs : {T : Type 0} → OrdersAreRuns T
orders_are_runs cap order r is = order_runs cap order r is

pub settled_is_run : {T : Type 0} → SettledIsRun T
settled_is_run {T} cap h v legal =
    let s : List (Effect T) = settled h [] in
    let one : OneMoment cap h [] = displaces_at_once cap h [] (subst (IsHistory cap) (sym (append-nil h)) legal) in
    let order = one_by_one_is (start cap 0) v s one.legal in
    let all : RunsAsOne cap (one_by_one v s) (after cap (effects_of (one_by_one v s))) = order_runs cap (one_by_one v s) (subst (IsAtOnce cap) (sym order.effects) one.legal) order.is in
    let left : after cap (effects_of (one_by_one v s)) ≡ arrived (after cap h) = ap (after cap) order.effects ∙ one.same (inl refl) in
    (order.effects, subst (RunsAsOne cap (one_by_one v s)) left all)
