-- What one event more leaves of the calls that parties are in.
use Rattle.std.proofs.Common.{◌≡◌, ◌≢◌, ◌⊎◌, ℕ, ◌+◌, ◌<◌, ◌≤◌, Option, Some, None, List, [], ◌∷◌, ◌++◌, sym, arith, inl, inr}
use Rattle.std.specs.List.{AllByRecursion}
use Rattle.machine_replay.specs.{Vocabulary.Reply, Vocabulary.Event, Vocabulary.Begin, Vocabulary.Step, InCall.HasRun, InCall.IsStepOf, InCall.IsUnanswered, InCall.IsInCall}
use Rattle.machine_replay.proofs.Engine.Entries.{each-more, each-both, each-all, event-more}

-- the replies after the event n of party p, which ends a call with this reply or with none
abbrev pub with_reply : {T : Type 0} → ℕ → ℕ → Option (Reply T) → List (ℕ × ℕ × Reply T) → List (ℕ × ℕ × Reply T)
with_reply n p None R = R
with_reply n p (Some r) R = R ++ (n, p, r) ∷ []

pub early-with_reply : {T : Type 0} (n p : ℕ) (r : Option (Reply T)) (R : List (ℕ × ℕ × Reply T)) → AllByRecursion (λ y. y.0 < n) R → AllByRecursion (λ y. y.0 < n + 1) (with_reply n p r R)
early-with_reply n p None R all = each-all _ _ R (λ y lt. omega arith) all
early-with_reply n p (Some r) R all = each-more _ R _ (each-all _ _ R (λ y lt. omega arith) all) (omega arith)

pub ran-more : {T : Type 0} (past ys : List (Event T)) (S : List ℕ) (m : ℕ) (e : Event T) → HasRun past S m e → HasRun (past ++ ys) S m e
ran-more past ys S m e h = (event-more past ys m e h.0, h.1)

pub step-more : {T : Type 0} (past ys : List (Event T)) (S : List ℕ) (p m : ℕ) → IsStepOf past S p m → IsStepOf (past ++ ys) S p m
step-more past ys S p m s = (s.0, ran-more past ys S m (Step p s.0) s.1)

pub unanswered-late : {T : Type 0} (n p q first last : ℕ) (r : Option (Reply T)) (R : List (ℕ × ℕ × Reply T)) → last ≤ n → IsUnanswered R q first last → IsUnanswered (with_reply n p r R) q first last
unanswered-late n p q first last None R le all = all
unanswered-late n p q first last (Some r) R le all = each-more _ R _ all (λ e. inr le)

-- a call of another party, or of one that has no reply here, has no reply yet
pub unanswered-on : {T : Type 0} (n p q first : ℕ) (r : Option (Reply T)) (R : List (ℕ × ℕ × Reply T)) → (r ≡ None) ⊎ (q ≢ p) → AllByRecursion (λ y. y.0 < n) R → IsUnanswered R q first n → IsUnanswered (with_reply n p r R) q first (n + 1)
unanswered-on {T} n p q first r R other early all = later r other
  where
    old : IsUnanswered R q first (n + 1)
    old = each-both _ _ _ R (λ y lt before same. elim (before same) [ inl less ↦ inl less | inr le ↦ absurd (omega arith) ]) early all

    later : (y : Option (Reply T)) → (y ≡ None) ⊎ (q ≢ p) → IsUnanswered (with_reply n p y R) q first (n + 1)
    later None other = old
    later (Some z) (inl none) = cc
    later (Some z) (inr ne) = each-more _ R (n, p, z) old (λ e. absurd (ne (sym e)))

-- a call has no reply since a later event than its beginning, up to the event n, at which it may have its reply
pub unanswered-since : {T : Type 0} (n p first since : ℕ) (r : Option (Reply T)) (R : List (ℕ × ℕ × Reply T)) → first ≤ since → IsUnanswered R p first n → IsUnanswered (with_reply n p r R) p since n
unanswered-since {T} n p first since r R le all =
    unanswered-late n p p since n r R (omega arith) (each-all _ _ R (λ y before same. elim (before same) [ inl less ↦ inl (omega arith) | inr later ↦ inr later ]) all)

-- before an earlier event, and before this one, a party is in its call as it was
abbrev pub in-call-late : {T : Type 0} (past ys : List (Event T)) (S : List ℕ) (R : List (ℕ × ℕ × Reply T)) (n p q m : ℕ) (r : Option (Reply T)) → m ≤ n → IsInCall past S R q m → IsInCall (past ++ ys) S (with_reply n p r R) q m
in-call-late past ys S R n p q m r le c = record {
  first = c.first;
  call = c.call;
  begins = ran-more past ys S c.first (Begin q c.call) c.begins;
  before = c.before;
  unanswered = unanswered-late n p q c.first m r R le c.unanswered;
}

-- after this event, too
abbrev pub in-call-on : {T : Type 0} (past ys : List (Event T)) (S : List ℕ) (R : List (ℕ × ℕ × Reply T)) (n p q : ℕ) (r : Option (Reply T)) → (r ≡ None) ⊎ (q ≢ p) → AllByRecursion (λ y. y.0 < n) R → IsInCall past S R q n → IsInCall (past ++ ys) S (with_reply n p r R) q (n + 1)
in-call-on past ys S R n p q r other early c =
    let lt = c.before in
    record {
      first = c.first;
      call = c.call;
      begins = ran-more past ys S c.first (Begin q c.call) c.begins;
      before = omega arith;
      unanswered = unanswered-on n p q c.first r R other early c.unanswered;
    }
