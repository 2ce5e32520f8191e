-- Where each call stands after an event.
use Rattle.std.proofs.Common.{◌≡◌, ◌≢◌, ◌⊎◌, ◌∙◌, ℕ, zero, suc, ◌+◌, ◌<◌, ◌≤◌, ◌||◌, not, Bool, true, Option, Some, None, List, [], ◌∷◌, ◌++◌, length, refl, sym, ap, subst, arith, inl, inr, get_or, append-nil, is_some, Contains}
use Rattle.std.{specs.List.AllByRecursion, specs.List.Any, proofs.lemmas.Bool.Decides.eqb_tells}
use Rattle.queue_laws.proofs.Common.Tests.{or_true, not_true}
use Rattle.queue_steps.specs.{State.State, State.start, Effect.after_from}
use Rattle.machine_replay.specs.{Vocabulary.Reply, Vocabulary.Effect, Vocabulary.Event, Vocabulary.EffectKind, Vocabulary.Step, Vocabulary.Ran, Conforms.effect_entry, InCall.IsStepOf}
use Rattle.machine_replay.specs.Book.{Open, Allows, MayEnd, GoesOn, IsBegun, Moves, MayMake, kind_of, put, at_open, watched, joined, after_own, seen_by}
use Rattle.machine_replay.specs.Meaning.{Entry, effects_in, kinds_in, state_after, own_effects, IsMoment, SawOpen, EndsCall, IsOwn, IsArrivalOf}
use Rattle.machine_replay.proofs.{Engine.Calls.with_reply, Engine.Calls.unanswered-since, Engine.Calls.in-call-late, Engine.Calls.in-call-on, Traces.Displacing.pending, Traces.Displacing.pending-append, Traces.Displacing.begun-by-front, Traces.Displacing.coming-pending}
use Rattle.machine_replay.proofs.Engine.Entries.{each-all, event-last, own-last, own-mine, own-others}
use Rattle.machine_replay.proofs.Traces.Trace.{IsDisplacing, Since, added, extends-added, FitsIf, made_if, moment-more, opened-more, EntryOwes, ReplyOwes}

-- whose call changes where one party's does
pub put-cases : {T : Type 0} (f : ℕ → Option (Open T)) (p j : ℕ) (y : Option (Open T)) (o : Open T) → put f p y j ≡ Some o → ((j ≡ p) × (y ≡ Some o)) ⊎ ((j ≢ p) × (f j ≡ Some o))
put-cases f p j y o e = elim (eqb_tells j p) [ inl t ↦ inl (t.1, rw t.0 at e) | inr t ↦ inr (t.1, rw t.0 at e) ]

pub at_open-cases : {T : Type 0} (f : Open T → Open T) (y : Option (Open T)) (o : Open T) → at_open f y ≡ Some o → (x : Open T) × (y ≡ Some x) × (f x ≡ o)
at_open-cases f None o e = cc
at_open-cases f (Some x) o e = (x, refl, cc)

-- an element of which both are so
find-at : {X : Type 0} (P Q : X → Type 0) (xs : List X) (k : ℕ) (y : X) → AllByRecursion P xs → k < length xs → get_or xs k y ≡ y → Q y → (x : X) × P x × Q x
find-at P Q [] k y all lt e q = absurd (omega arith)
find-at P Q (x ∷ xs) zero y all lt e q = (x, all.0, subst Q (sym e) q)
find-at P Q (x ∷ xs) (suc k) y all lt e q = find-at P Q xs k y all.1 (omega arith) e q

each-find : {X : Type 0} (P Q : X → Type 0) (xs : List X) → AllByRecursion P xs → Any Q xs → (x : X) × P x × Q x
each-find P Q xs all any = find-at P Q xs any.0 any.1 all any.2 any.3 any.4

own-other : {T : Type 0} (n p q first : ℕ) (e : Option (Effect T)) (H : List (Entry T)) → AllByRecursion (λ x. x.event < n) H → (e ≡ None) ⊎ (q ≢ p) → own_effects q first (n + 1) (added n p e H) ≡ own_effects q first n H
own-other n p q first None H early other = own-last q first n (n + 1) n H early (omega arith) (omega arith)
own-other n p q first (Some e) H early (inl none) = cc
own-other n p q first (Some e) H early (inr ne) = own-others p q first (n + 1) n e H ne ∙ own-last q first n (n + 1) n H early (omega arith) (omega arith)

-- the front of another party's call still waits for its arrive
abbrev pub StillWaits : {T : Type 0} → ℕ → List (Entry T) → List (Entry T) → Type 0
StillWaits {T} q H H' = (f : Entry T) → f.party ≡ q → pending None H ≡ Some f → pending None H' ≡ Some f

displacing-more : {T : Type 0} (H H' : List (Entry T)) (q first : ℕ) → StillWaits q H H' → IsDisplacing H q first → IsDisplacing H' q first
displacing-more H H' q first still d = record { front = d.front; waits = still d.front d.party d.waits; party = d.party; later = d.later }

-- a call that neither takes an effect nor is answered at this event
pub since-other : {T : Type 0} (cap : Option ℕ) (S : List ℕ) (past ys : List (Event T)) (H : List (Entry T)) (R : List (ℕ × ℕ × Reply T)) (n p q : ℕ) (e : Option (Effect T)) (r : Option (Reply T)) (o : Open T) → AllByRecursion (λ x. x.event < n) H → AllByRecursion (λ y. y.0 < n) R
    → (e ≡ None) ⊎ (q ≢ p) → (r ≡ None) ⊎ (q ≢ p) → StillWaits q H (added n p e H) → Since cap S past H R q n o → Since cap S (past ++ ys) (added n p e H) (with_reply n p r R) q (n + 1) o
since-other cap S past ys H R n p q e r o early early_replies no_effect no_reply still s = record {
  in_call = in-call-on past ys S R n p q r no_reply early_replies s.in_call;
  same_call = s.same_call;
  own = own-other n p q s.in_call.first e H early no_effect ∙ s.own;
  moments = each-all _ _ o.moments (λ Q m. moment-more cap past ys S H (added n p e H) q s.in_call.first n (n + 1) n Q (extends-added n p e H) (omega arith) (omega arith) m) s.moments;
  opened = λ was. opened-more cap past ys S H (added n p e H) q s.in_call.first n (n + 1) n (extends-added n p e H) (omega arith) (omega arith) (s.opened was);
  begun = s.begun;
  displaces = λ old v is. displacing-more H (added n p e H) q s.in_call.first still (s.displaces old v is);
}

pub since-joined : {T : Type 0} (cap : Option ℕ) (S : List ℕ) (past : List (Event T)) (H : List (Entry T)) (R : List (ℕ × ℕ × Reply T)) (q n : ℕ) (o : Open T) → Since cap S past H R q n o → Since cap S past H R q n (joined o)
since-joined cap S past H R q n o s = record { in_call = s.in_call; same_call = s.same_call; own = s.own; moments = s.moments; opened = s.opened; begun = s.begun; displaces = s.displaces }

-- another party's step is a moment of a call that has taken its first step
pub since-watched : {T : Type 0} (cap : Option ℕ) (S : List ℕ) (past : List (Event T)) (H : List (Entry T)) (R : List (ℕ × ℕ × Reply T)) (q n : ℕ) (Q : State T) (o : Open T) → Q ≡ state_after cap H n → Since cap S past H R q (n + 1) o → Since cap S past H R q (n + 1) (watched Q o)
since-watched cap S past H R q n Q o is s = record { in_call = s.in_call; same_call = s.same_call; own = s.own; moments = seen-here o.moments s.moments; opened = s.opened; begun = s.begun; displaces = s.displaces }
  where
    seen-here : (ms : List (State _)) → AllByRecursion (IsMoment cap past S H q s.in_call.first (n + 1)) ms → AllByRecursion (IsMoment cap past S H q s.in_call.first (n + 1)) (seen_by Q ms)
    seen-here [] all = tt
    seen-here (m ∷ ms) all =
        let head = all.0 in
        let from = head.from in
        let upto = head.upto in
        (record { step = head.step; at = n; own = head.own; later = head.later; from = omega arith; upto = omega arith; state = is }, all)

abbrev pub effects_added : {T : Type 0} → List (Effect T) → Option (Effect T) → List (Effect T)
effects_added es None = es
effects_added es (Some e) = es ++ e ∷ []

abbrev pub MayIf : {T : Type 0} → Option (Effect T) → Open T → Type 0
MayIf None o = Unit {0}
MayIf (Some e) o = MayMake (kind_of e) o

-- what an own step did
pub record Does {T : Type 0} (Q : State T) (o : Open T) (k : Option EffectKind) (R : State T) (es : List (Effect T)) : Type 0 where
  pub e : Option (Effect T)
  pub entry : (n p : ℕ) (r : Option (Reply T)) → effect_entry n p (Ran k r) ≡ kinds_in (added n p e [])
  pub fits : FitsIf e Q
  pub leads : R ≡ made_if e Q
  pub effects : es ≡ effects_added o.effects e
  pub may : MayIf e o

pub moves-does : {T : Type 0} (Q : State T) (o : Open T) (k : Option EffectKind) (R : State T) (es : List (Effect T)) → Moves Q o k R es → Does Q o k R es
moves-does Q o None R es m = record { e = None; entry = λ n p r. refl; fits = tt; leads = m.0; effects = m.1; may = tt }
moves-does Q o (Some k) R es m = record { e = Some m.0; entry = λ n p r. ap (λ x. (n, p, x) ∷ []) (sym m.1); fits = m.3; leads = m.4; effects = m.5; may = rw m.1 m.2 }

own-step : {T : Type 0} (n p first last : ℕ) (e : Option (Effect T)) (H : List (Entry T)) (es : List (Effect T)) → AllByRecursion (λ x. x.event < n) H → first < n → n ≤ last → own_effects p first n H ≡ es → own_effects p first last (added n p e H) ≡ effects_added es e
own-step n p first last None H es early after upto own = own-last p first n last n H early (omega arith) (omega arith) ∙ own
own-step n p first last (Some e) H es early after upto own =
    own-mine p first last n e H after upto ∙ ap (λ l. l ++ e ∷ []) (own-last p first n last n H early (omega arith) (omega arith) ∙ own)

-- no other effect comes last in a list that is a front alone
no-other : {T : Type 0} (e : Effect T) (es : List (Effect T)) {old v : T} → es ++ e ∷ [] ≡ Effect.Front old v ∷ [] → ((old v : T) → e ≡ Effect.Front old v → ⊥) → ⊥
no-other e [] {old} {v} all other = other old v (cc)
no-other e (x ∷ []) all other = cc
no-other e (x ∷ y ∷ es) all other = cc

some-is : {X : Type 0} (x y : X) → Some x ≡ Some y → x ≡ y
some-is x y e = cc

-- where nothing is on its way in, no front waits
nothing-comes : {X Y : Type 0} (coming : Option X) (waiting : Option Y) (f : Y) → coming ≡ None → waiting ≡ Some f → is_some coming ≡ is_some waiting → ⊥
nothing-comes coming waiting f none some same = cc

-- the effects of the call after its step begin those of a reply, which the step may be
pub begun-now : {T : Type 0} (o : Open T) (r : Option (Reply T)) → GoesOn o r → IsBegun o.call o.effects
begun-now o None stays = stays.is_begun
begun-now o (Some x) ends = (x, [], rw (append-nil o.effects) ends.0)

module _ (T : Type 0) (cap : Option ℕ) (S : List ℕ) (past : List (Event T)) (H : List (Entry T)) (R : List (ℕ × ℕ × Reply T)) (n p : ℕ) (granted : Bool) (len : n ≡ length past) (ran : Contains S n → ⊥)
    (early : AllByRecursion (λ x. x.event < n) H) (early_replies : AllByRecursion (λ y. y.0 < n) R)
    (o : Open T) (s : Since cap S past H R p n o) (e : Option (Effect T)) (r : Option (Reply T)) (busy : ℕ) (Q : State T) (es : List (Effect T)) (is : Q ≡ state_after cap (added n p e H) n) (effects : es ≡ effects_added o.effects e)
    (goes : GoesOn (after_own busy o Q es) r) where
  abbrev now : List (Event T)
  now = past ++ Step p granted ∷ []

  abbrev mine : Open T
  mine = after_own busy o Q es

  abbrev first : ℕ
  first = s.in_call.first

  here : IsStepOf now S p n
  here = (granted, (event-last past n (Step p granted) len, ran))

  own-now : (last : ℕ) → n ≤ last → own_effects p first last (added n p e H) ≡ es
  own-now last upto = own-step n p first last e H o.effects early s.in_call.before upto s.own ∙ sym effects

  moments-now : AllByRecursion (IsMoment cap now S (added n p e H) p first (n + 1)) (Q ∷ o.moments)
  moments-now =
      let after = s.in_call.before in (
        record { step = n; at = n; own = here; later = after; from = omega arith; upto = omega arith; state = is },
        each-all _ _ o.moments (λ q m. moment-more cap past (Step p granted ∷ []) S H (added n p e H) p first n (n + 1) n q (extends-added n p e H) (omega arith) (omega arith) m) s.moments,
      )

  opened-now : (o.was_open || not Q.closed) ≡ true → SawOpen cap now S (added n p e H) p first (n + 1)
  opened-now was =
      elim (or_true o.was_open (not Q.closed) was) [
        | inl old ↦ opened-more cap past (Step p granted ∷ []) S H (added n p e H) p first n (n + 1) n (extends-added n p e H) (omega arith) (omega arith) (s.opened old)
        | inr new ↦ let after = s.in_call.before in record { step = n; own = here; later = after; upto = omega arith; was_open = sym (ap (λ q. q.closed) is) ∙ not_true Q.closed new }
      ]

  -- a call that has an arrive has a front, which waits for it
  arrives-from : e ≡ Some Effect.Arrive → IsDisplacing H p first
  arrives-from some =
      let begun = begun-now mine r goes in
      let same : es ≡ o.effects ++ Effect.Arrive ∷ [] = effects ∙ ap (effects_added o.effects) some in
      let front = begun-by-front o.call o.effects (subst (IsBegun o.call) same begun) in
      s.displaces front.0 front.1 front.2

  front-now : (f : Option (Effect T)) → e ≡ f → (old v : T) → effects_added o.effects f ≡ Effect.Front old v ∷ [] → IsDisplacing (added n p f H) p first
  front-now None none old v all = s.displaces old v all
  front-now (Some (Effect.Front x y)) some old v all =
      let after = s.in_call.before in
      record { front = record { event = n; party = p; effect = Effect.Front x y }; waits = pending-append None H (record { event = n; party = p; effect = Effect.Front x y }); party = refl; later = after }
  front-now (Some x) some old v all = absurd (no-other x o.effects all (λ old v e. cc))

  -- the call goes on
  pub since-own : r ≡ None → Since cap S now (added n p e H) (with_reply n p r R) p (n + 1) mine
  since-own none = record {
    in_call = in-call-on past (Step p granted ∷ []) S R n p p r (inl none) early_replies s.in_call;
    same_call = s.same_call;
    own = own-now (n + 1) (omega arith);
    moments = moments-now;
    opened = opened-now;
    begun = begun-now mine r goes;
    displaces = λ old v all. front-now e refl old v (sym effects ∙ all);
  }

  -- the call ends with this reply
  pub answer-own : (x : Reply T) → MayEnd mine x → r ≡ Some x → ReplyOwes cap S now (added n p e H) (with_reply n p r R) n p r
  answer-own x ends some = rw some (inl answer)
    where
      answer : EndsCall cap now S (added n p e H) (with_reply n p (Some x) R) n p x
      answer = record {
        step = here;
        in_call = in-call-late past (Step p granted ∷ []) S R n p p n (Some x) (omega arith) s.in_call;
        tells = rw (s.same_call, own-now n (omega arith)) ends.0;
        right = λ none.
            let found = each-find (IsMoment cap now S (added n p e H) p first (n + 1)) (Allows o.call x) (Q ∷ o.moments) moments-now (ends.1 (sym (own-now n (omega arith)) ∙ none)) in
            (found.0, found.1, subst (λ k. Allows k x found.0) (sym s.same_call) found.2);
      }

  own-owes : (f : Effect T) → MayMake (kind_of f) o → IsOwn cap now S (added n p e H) (with_reply n p r R) (record { event = n; party = p; effect = f })
  own-owes f may = record {
    step = here;
    in_call = in-call-late past (Step p granted ∷ []) S R n p p n r (omega arith) s.in_call;
    saw_open = λ old v front. opened-more cap past (Step p granted ∷ []) S H (added n p e H) p first n n n (extends-added n p e H) (omega arith) (omega arith) (s.opened (saw f may old v front));
  }
    where
      saw : (f : Effect T) → MayMake (kind_of f) o → (old v : T) → f ≡ Effect.Front old v → o.was_open ≡ true
      saw f may old v front = subst (λ g. MayMake (kind_of g) o) front may

  arrival-owes : (f : Effect T) → e ≡ Some f → IsArrivalOf (with_reply n p r R) (pending None H) (record { event = n; party = p; effect = f }) f
  arrival-owes Effect.Arrive some =
      let d = arrives-from some in
      let after = d.later in
      rw d.waits (sym d.party, rw d.party (unanswered-since n p first d.front.event r R (omega arith) s.in_call.unanswered))
  arrival-owes f some = tt

  pub entry-owes : MayIf e o → EntryOwes cap S now (added n p e H) (with_reply n p r R) n p e (pending None H)
  entry-owes may = owes e refl may
    where
      owes : (f : Option (Effect T)) → e ≡ f → MayIf f o → EntryOwes cap S now (added n p e H) (with_reply n p r R) n p f (pending None H)
      owes None none m = tt
      owes (Some f) some m = (own-owes f m, arrival-owes f some)

  -- the fronts of other calls still wait
  pub others-wait : FitsIf e (after_from (start cap 0) (effects_in H)) → (q : ℕ) → q ≢ p → StillWaits q H (added n p e H)
  others-wait fits q ne = waits e refl fits
    where
      waits : (f : Option (Effect T)) → e ≡ f → FitsIf f (after_from (start cap 0) (effects_in H)) → StillWaits q H (added n p f H)
      waits None none fits f is waiting = waiting
      waits (Some Effect.Arrive) some fits f is waiting =
          let d = arrives-from some in
          let same : d.front ≡ f = some-is d.front f (sym d.waits ∙ waiting) in
          absurd (ne (sym is ∙ ap (λ x. x.party) (sym same) ∙ d.party))
      waits (Some (Effect.Front old v)) some fits f is waiting = absurd (nothing-comes (after_from (start cap 0) (effects_in H)).coming (pending None H) f fits.2 waiting (coming-pending (start cap 0) None H refl))
      waits (Some (Effect.Append v)) some fits f is waiting = pending-append None H (record { event = n; party = p; effect = Effect.Append v }) ∙ waiting
      waits (Some (Effect.Take v)) some fits f is waiting = pending-append None H (record { event = n; party = p; effect = Effect.Take v }) ∙ waiting
      waits (Some (Effect.Replace old v)) some fits f is waiting = pending-append None H (record { event = n; party = p; effect = Effect.Replace old v }) ∙ waiting
      waits (Some x) some fits f is waiting = pending-append None H (record { event = n; party = p; effect = x }) ∙ waiting
