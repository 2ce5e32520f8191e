-- What is known of a run so far: its history, with the event and the party of each effect, and where each call stands in it.
use Rattle.std.proofs.Common.{◌≡◌, ◌∙◌, ℕ, ◌+◌, ◌<◌, ◌≤◌, true, Option, Some, None, List, [], ◌∷◌, ◌++◌, length, refl, sym, ap, arith, inl, inr, append-nil}
use Rattle.std.{specs.List.AllByRecursion, specs.List.AllPairs, proofs.lemmas.List.Elements.All-from_recursion, proofs.lemmas.List.Quantifiers.all_pairs_push}
use Rattle.queue_steps.specs.{State.State, State.start, Effect.Fits, Effect.made, Effect.Runs, Effect.after_from}
use Rattle.queue_laws.proofs.Common.Runs.{after_snoc, runs_snoc}
use Rattle.machine_replay.specs.{Vocabulary.Reply, Vocabulary.Effect, Vocabulary.Event, Vocabulary.Told, Vocabulary.Begin, Book.Book, Book.Open, Book.IsBegun, Book.kind_of, Conforms.party_of, Conforms.entries_from, Conforms.reply_entry, Conforms.effect_entry, InCall.IsInCall}
use Rattle.machine_replay.specs.Meaning.{Entry, effects_in, kinds_in, own_effects, IsMoment, SawOpen, EndsCall, RepliesAtOnce, IsAnswer, IsOwn, IsArrivalOf, FrontsArrive}
use Rattle.machine_replay.proofs.{Engine.Calls.with_reply, Engine.Calls.early-with_reply, Engine.Calls.ran-more, Engine.Calls.step-more, Engine.Calls.in-call-late, Traces.Displacing.pending, Traces.Displacing.arrivals-late, Traces.Displacing.arrivals-append, Engine.SoFar.entries-more}
use Rattle.machine_replay.proofs.Engine.Entries.{each-more, each-all, each-both, length-one, Extends, quiet, loud, state-late, own-late, effects-append}

-- the item of this front of party p is on its way in; the front was taken off after the event `first`
pub record IsDisplacing {T : Type 0} (H : List (Entry T)) (p first : ℕ) : Type 0 where
  pub front : Entry T
  pub waits : pending None H ≡ Some front
  pub party : front.party ≡ p
  pub later : first < front.event

-- where a call in progress stands in the history
pub record Since {T : Type 0} (cap : Option ℕ) (S : List ℕ) (past : List (Event T)) (H : List (Entry T)) (R : List (ℕ × ℕ × Reply T)) (p n : ℕ) (o : Open T) : Type 0 where
  pub in_call : IsInCall past S R p n
  pub same_call : in_call.call ≡ o.call
  pub own : own_effects p in_call.first n H ≡ o.effects
  pub moments : AllByRecursion (IsMoment cap past S H p in_call.first n) o.moments
  pub opened : o.was_open ≡ true → SawOpen cap past S H p in_call.first n
  pub begun : IsBegun o.call o.effects
  pub displaces : (old v : T) → o.effects ≡ Effect.Front old v ∷ [] → IsDisplacing H p in_call.first

pub record Trace {T : Type 0} (cap : Option ℕ) (S : List ℕ) (past : List (Event T)) (told : List (Told T)) (n : ℕ) (H : List (Entry T)) (R : List (ℕ × ℕ × Reply T)) (b : Book T) : Type 0 where
  pub len : n ≡ length past
  pub same : length past ≡ length told
  pub early : AllByRecursion (λ x. x.event < n) H
  pub in_order : AllPairs (λ x y. x.event < y.event) H
  pub legal : Runs (start cap 0) (effects_in H)
  pub leads : after_from (start cap 0) (effects_in H) ≡ b.queue
  pub kinds : kinds_in H ≡ entries_from effect_entry 0 past told
  pub replies : R ≡ entries_from reply_entry 0 past told
  pub own : AllByRecursion (IsOwn cap past S H R) H
  pub arrivals : FrontsArrive R None H
  pub answers : AllByRecursion (IsAnswer cap past S H R) R
  pub early_replies : AllByRecursion (λ y. y.0 < n) R
  pub open_calls : (p : ℕ) (o : Open T) → b.open_call p ≡ Some o → Since cap S past H R p n o

-- the history after the event n of party p, which has this effect or none
abbrev pub added : {T : Type 0} → ℕ → ℕ → Option (Effect T) → List (Entry T) → List (Entry T)
added n p None H = H
added n p (Some e) H = H ++ record { event = n; party = p; effect = e } ∷ []

pub extends-added : {T : Type 0} (n p : ℕ) (e : Option (Effect T)) (H : List (Entry T)) → Extends n H (added n p e H)
extends-added n p None H = quiet n H
extends-added n p (Some e) H = loud n p e H

abbrev pub FitsIf : {T : Type 0} → Option (Effect T) → State T → Type 0
FitsIf None Q = Unit {0}
FitsIf (Some e) Q = Fits e Q

abbrev pub made_if : {T : Type 0} → Option (Effect T) → State T → State T
made_if None Q = Q
made_if (Some e) Q = made e Q

early-added : {T : Type 0} (n p : ℕ) (e : Option (Effect T)) (H : List (Entry T)) → AllByRecursion (λ x. x.event < n) H → AllByRecursion (λ x. x.event < n + 1) (added n p e H)
early-added n p None H all = each-all _ _ H (λ x lt. omega arith) all
early-added n p (Some e) H all = each-more _ H _ (each-all _ _ H (λ x lt. omega arith) all) (omega arith)

in-order-added : {T : Type 0} (n p : ℕ) (e : Option (Effect T)) (H : List (Entry T)) → AllByRecursion (λ x. x.event < n) H → AllPairs (λ x y. x.event < y.event) H → AllPairs (λ x y. x.event < y.event) (added n p e H)
in-order-added n p None H early all = all
in-order-added n p (Some e) H early all = all_pairs_push (λ x y. x.event < y.event) H (record { event = n; party = p; effect = e }) all (All-from_recursion (λ x. x.event < n) H early)

legal-added : {T : Type 0} (cap : Option ℕ) (n p : ℕ) (e : Option (Effect T)) (H : List (Entry T)) (Q : State T) → Runs (start cap 0) (effects_in H) → after_from (start cap 0) (effects_in H) ≡ Q → FitsIf e Q → Runs (start cap 0) (effects_in (added n p e H))
legal-added cap n p None H Q run leads fits = run
legal-added cap n p (Some e) H Q run leads fits = rw (effects-append H (record { event = n; party = p; effect = e })) (runs_snoc (start cap 0) (effects_in H) e run (rw leads fits))

pub leads-added : {T : Type 0} (cap : Option ℕ) (n p : ℕ) (e : Option (Effect T)) (H : List (Entry T)) (Q : State T) → after_from (start cap 0) (effects_in H) ≡ Q → after_from (start cap 0) (effects_in (added n p e H)) ≡ made_if e Q
leads-added cap n p None H Q leads = leads
leads-added cap n p (Some e) H Q leads = ap (λ l. after_from (start cap 0) l) (effects-append H (record { event = n; party = p; effect = e })) ∙ after_snoc (start cap 0) (effects_in H) e ∙ ap (made e) leads

kinds-append : {T : Type 0} (H : List (Entry T)) (x : Entry T) → kinds_in (H ++ x ∷ []) ≡ kinds_in H ++ (x.event, x.party, kind_of x.effect) ∷ []
kinds-append [] x = refl
kinds-append (y ∷ H) x = ap (λ l. (y.event, y.party, kind_of y.effect) ∷ l) (kinds-append H x)

kinds-added : {T : Type 0} (n p : ℕ) (e : Option (Effect T)) (H : List (Entry T)) → kinds_in (added n p e H) ≡ kinds_in H ++ kinds_in (added n p e [])
kinds-added n p None H = sym (append-nil (kinds_in H))
kinds-added n p (Some e) H = kinds-append H (record { event = n; party = p; effect = e })

answered-append : {T : Type 0} (n p : ℕ) (r : Option (Reply T)) (R : List (ℕ × ℕ × Reply T)) → with_reply n p r R ≡ R ++ with_reply n p r []
answered-append n p None R = sym (append-nil R)
answered-append n p (Some r) R = refl

pub moment-more : {T : Type 0} (cap : Option ℕ) (past ys : List (Event T)) (S : List ℕ) (H H' : List (Entry T)) (p first end end' n : ℕ) (Q : State T) → Extends n H H' → end ≤ n → end ≤ end' → IsMoment cap past S H p first end Q → IsMoment cap (past ++ ys) S H' p first end' Q
moment-more cap past ys S H H' p first end end' n Q ext le on m =
    let lt = m.upto in
    record { step = m.step; at = m.at; own = step-more past ys S p m.step m.own; later = m.later; from = m.from; upto = omega arith; state = m.state ∙ sym (state-late cap n m.at H H' ext (omega arith)) }

pub opened-more : {T : Type 0} (cap : Option ℕ) (past ys : List (Event T)) (S : List ℕ) (H H' : List (Entry T)) (p first end end' n : ℕ) → Extends n H H' → end ≤ n → end ≤ end' → SawOpen cap past S H p first end → SawOpen cap (past ++ ys) S H' p first end'
opened-more cap past ys S H H' p first end end' n ext le on s =
    let lt = s.upto in
    record { step = s.step; own = step-more past ys S p s.step s.own; later = s.later; upto = omega arith; was_open = ap (λ q. q.closed) (state-late cap n s.step H H' ext (omega arith)) ∙ s.was_open }

-- what is so of a reply or an effect stays so after more events
module _ {T : Type 0} (cap : Option ℕ) (S : List ℕ) where
  ends-more : (past ys : List (Event T)) (H H' : List (Entry T)) (R : List (ℕ × ℕ × Reply T)) (n p last q : ℕ) (r : Option (Reply T)) (x : Reply T) → Extends n H H' → last < n → EndsCall cap past S H R last q x → EndsCall cap (past ++ ys) S H' (with_reply n p r R) last q x
  ends-more past ys H H' R n p last q r x ext lt a =
      let own = own-late q a.in_call.first last n H H' ext lt in
      record {
        step = step-more past ys S q last a.step;
        in_call = in-call-late past ys S R n p q last r (omega arith) a.in_call;
        tells = rw own a.tells;
        right = λ none. let m = a.right (sym own ∙ none) in (m.0, moment-more cap past ys S H H' q a.in_call.first (last + 1) (last + 1) n m.0 ext (omega arith) (omega arith) m.1, m.2);
      }

  at-once-more : (past ys : List (Event T)) (H H' : List (Entry T)) (n last q : ℕ) (x : Reply T) → Extends n H H' → last < n → RepliesAtOnce cap past S H last q x → RepliesAtOnce cap (past ++ ys) S H' last q x
  at-once-more past ys H H' n last q x ext lt a = record { call = a.call; begins = ran-more past ys S last (Begin q a.call) a.begins; no_steps = a.no_steps; right = rw (state-late cap n last H H' ext lt) a.right }

  answer-more : (past ys : List (Event T)) (H H' : List (Entry T)) (R : List (ℕ × ℕ × Reply T)) (n p : ℕ) (r : Option (Reply T)) (y : ℕ × ℕ × Reply T) → Extends n H H' → y.0 < n → IsAnswer cap past S H R y → IsAnswer cap (past ++ ys) S H' (with_reply n p r R) y
  answer-more past ys H H' R n p r y ext lt (inl a) = inl (ends-more past ys H H' R n p y.0 y.1 r y.2 ext lt a)
  answer-more past ys H H' R n p r y ext lt (inr a) = inr (at-once-more past ys H H' n y.0 y.1 y.2 ext lt a)

  own-more : (past ys : List (Event T)) (H H' : List (Entry T)) (R : List (ℕ × ℕ × Reply T)) (n p : ℕ) (r : Option (Reply T)) (x : Entry T) → Extends n H H' → x.event < n → IsOwn cap past S H R x → IsOwn cap (past ++ ys) S H' (with_reply n p r R) x
  own-more past ys H H' R n p r x ext lt o = record {
    step = step-more past ys S x.party x.event o.step;
    in_call = in-call-late past ys S R n p x.party x.event r (omega arith) o.in_call;
    saw_open = λ old v is. opened-more cap past ys S H H' x.party o.in_call.first x.event x.event n ext (omega arith) (omega arith) (o.saw_open old v is);
  }

-- what a new effect and a new reply owe
abbrev pub EntryOwes : {T : Type 0} → Option ℕ → List ℕ → List (Event T) → List (Entry T) → List (ℕ × ℕ × Reply T) → ℕ → ℕ → Option (Effect T) → Option (Entry T) → Type 0
EntryOwes cap S events H R n p None f = Unit {0}
EntryOwes cap S events H R n p (Some e) f = IsOwn cap events S H R (record { event = n; party = p; effect = e }) × IsArrivalOf R f (record { event = n; party = p; effect = e }) e

abbrev pub ReplyOwes : {T : Type 0} → Option ℕ → List ℕ → List (Event T) → List (Entry T) → List (ℕ × ℕ × Reply T) → ℕ → ℕ → Option (Reply T) → Type 0
ReplyOwes cap S events H R n p None = Unit {0}
ReplyOwes cap S events H R n p (Some r) = IsAnswer cap events S H R (n, p, r)

module _ {T : Type 0} (cap : Option ℕ) (S : List ℕ) where
  own-added : (past ys : List (Event T)) (H : List (Entry T)) (R : List (ℕ × ℕ × Reply T)) (n p : ℕ) (e : Option (Effect T)) (r : Option (Reply T)) (f : Option (Entry T)) → AllByRecursion (λ x. x.event < n) H → AllByRecursion (IsOwn cap past S H R) H
      → EntryOwes cap S (past ++ ys) (added n p e H) (with_reply n p r R) n p e f → AllByRecursion (IsOwn cap (past ++ ys) S (added n p e H) (with_reply n p r R)) (added n p e H)
  own-added past ys H R n p None r f early all owes = each-both _ _ _ H (λ x lt o. own-more cap S past ys H H R n p r x (quiet n H) lt o) early all
  own-added past ys H R n p (Some e) r f early all owes = each-more _ H _ (each-both _ _ _ H (λ x lt o. own-more cap S past ys H (added n p (Some e) H) R n p r x (loud n p e H) lt o) early all) owes.0

  arrivals-added : (events : List (Event T)) (H : List (Entry T)) (R : List (ℕ × ℕ × Reply T)) (n p : ℕ) (e : Option (Effect T)) (r : Option (Reply T)) → AllByRecursion (λ x. x.event < n) H → FrontsArrive R None H
      → EntryOwes cap S events (added n p e H) (with_reply n p r R) n p e (pending None H) → FrontsArrive (with_reply n p r R) None (added n p e H)
  arrivals-added events H R n p None r early all owes = arrivals-late n p r R None H early all
  arrivals-added events H R n p (Some e) r early all owes = arrivals-append (with_reply n p r R) None H (record { event = n; party = p; effect = e }) (arrivals-late n p r R None H early all) owes.1

  answers-added : (past ys : List (Event T)) (H H' : List (Entry T)) (R : List (ℕ × ℕ × Reply T)) (n p : ℕ) (r : Option (Reply T)) → Extends n H H' → AllByRecursion (λ y. y.0 < n) R → AllByRecursion (IsAnswer cap past S H R) R
      → ReplyOwes cap S (past ++ ys) H' (with_reply n p r R) n p r → AllByRecursion (IsAnswer cap (past ++ ys) S H' (with_reply n p r R)) (with_reply n p r R)
  answers-added past ys H H' R n p None ext early all owes = each-both _ _ _ R (λ y lt a. answer-more cap S past ys H H' R n p None y ext lt a) early all
  answers-added past ys H H' R n p (Some r) ext early all owes =
      each-more _ R _ (each-both _ _ _ R (λ y lt a. answer-more cap S past ys H H' R n p (Some r) y ext lt a) early all) owes

  -- after one event more
  pub trace-more : (past : List (Event T)) (told : List (Told T)) (n : ℕ) (H : List (Entry T)) (R : List (ℕ × ℕ × Reply T)) (b c : Book T) (x : Event T) (t : Told T) (e : Option (Effect T)) (r : Option (Reply T))
      → Trace cap S past told n H R b → effect_entry n (party_of x) t ≡ kinds_in (added n (party_of x) e []) → reply_entry n (party_of x) t ≡ with_reply n (party_of x) r []
      → FitsIf e b.queue → c.queue ≡ made_if e b.queue
      → EntryOwes cap S (past ++ x ∷ []) (added n (party_of x) e H) (with_reply n (party_of x) r R) n (party_of x) e (pending None H)
      → ReplyOwes cap S (past ++ x ∷ []) (added n (party_of x) e H) (with_reply n (party_of x) r R) n (party_of x) r
      → ((p : ℕ) (o : Open T) → c.open_call p ≡ Some o → Since cap S (past ++ x ∷ []) (added n (party_of x) e H) (with_reply n (party_of x) r R) p (n + 1) o)
      → Trace cap S (past ++ x ∷ []) (told ++ t ∷ []) (n + 1) (added n (party_of x) e H) (with_reply n (party_of x) r R) c
  trace-more past told n H R b c x t e r tr kinds replies fits leads entry reply opens =
      let p = party_of x in
      record {
        len = omega (arith, tr.len, length-one past x);
        same = omega (arith, tr.same, length-one past x, length-one told t);
        early = early-added n p e H tr.early;
        in_order = in-order-added n p e H tr.early tr.in_order;
        legal = legal-added cap n p e H b.queue tr.legal tr.leads fits;
        leads = leads-added cap n p e H b.queue tr.leads ∙ sym leads;
        kinds = kinds-added n p e H ∙ ap (λ l. kinds_in H ++ l) (sym kinds) ∙ ap (λ l. l ++ effect_entry n p t) tr.kinds ∙ sym (entries-more effect_entry 0 n past told x t tr.same (omega (arith, tr.len)));
        replies = answered-append n p r R ∙ ap (λ l. R ++ l) (sym replies) ∙ ap (λ l. l ++ reply_entry n p t) tr.replies ∙ sym (entries-more reply_entry 0 n past told x t tr.same (omega (arith, tr.len)));
        own = own-added past (x ∷ []) H R n p e r (pending None H) tr.early tr.own entry;
        arrivals = arrivals-added (past ++ x ∷ []) H R n p e r tr.early tr.arrivals entry;
        answers = answers-added past (x ∷ []) H (added n p e H) R n p r (extends-added n p e H) tr.early_replies tr.answers reply;
        early_replies = early-with_reply n p r R tr.early_replies;
        open_calls = opens;
      }
