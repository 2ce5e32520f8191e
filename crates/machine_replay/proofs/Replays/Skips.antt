-- Exactly the events that do not fit are skipped.
use Rattle.std.proofs.Common.{◌≡◌, ◌≢◌, ◌⊎◌, ℕ, zero, suc, ◌+◌, ◌<◌, ◌≤◌, Bool, true, false, Option, Some, None, List, [], ◌∷◌, ◌++◌, length, refl, subst, arith, inl, inr, slice_get, Contains}
use Rattle.std.specs.List.{AllByRecursion}
use Rattle.std.proofs.lemmas.List.Elements.{All-contains, All-from_recursion, Contains-append_left, Contains-push_cases}
use Rattle.machine_replay.specs.{Vocabulary.Reply, Vocabulary.Event, Vocabulary.Begin, Vocabulary.Step, InCall.HasRun, InCall.IsUnanswered, InCall.IsInCall, Skips.IsExact}
use Rattle.machine_replay.proofs.Engine.{Calls.with_reply, Calls.in-call-late, Calls.in-call-on, Entries.each-all}

pub last-or-earlier : (m n : ℕ) → m < n + 1 → (m ≡ n) ⊎ (m < n)
last-or-earlier m n lt = grind arith

-- the skipped events after the event n, which was skipped or not
abbrev pub noted : ℕ → Bool → List ℕ → List ℕ
noted n true S = S ++ n ∷ []
noted n false S = S

each-front : {X : Type 0} (P : X → Type 0) (xs ys : List X) → AllByRecursion P (xs ++ ys) → AllByRecursion P xs
each-front P [] ys all = tt
each-front P (x ∷ xs) ys all = (all.0, each-front P xs ys all.1)

each-end : {X : Type 0} (P : X → Type 0) (xs : List X) (x : X) → AllByRecursion P (xs ++ x ∷ []) → P x
each-end P [] x all = all.0
each-end P (y ∷ xs) x all = each-end P xs x all.1

pub event-less : {X : Type 0} (xs ys : List X) (n : ℕ) (x : X) → n < length xs → slice_get (xs ++ ys) n ≡ Some x → slice_get xs n ≡ Some x
event-less [] ys n x lt e = absurd (omega arith)
event-less (y ∷ xs) ys zero x lt e = e
event-less (y ∷ xs) ys (suc n) x lt e = event-less xs ys n x (omega arith) e

-- the numbers of earlier events are other numbers
pub not-in-later : (n : ℕ) (S : List ℕ) → AllByRecursion (λ m. m < n) S → Contains S n → ⊥
not-in-later n S all is = let lt = All-contains (λ m. m < n) S n (All-from_recursion (λ m. m < n) S all) is in absurd (omega arith)

not-in-noted : (n m : ℕ) (b : Bool) (S : List ℕ) → m < n → (Contains S m → ⊥) → Contains (noted n b S) m → ⊥
not-in-noted n m true S lt absent is = elim (Contains-push_cases S n m is) [ inl old ↦ absent old | inr e ↦ absurd (omega arith) ]
not-in-noted n m false S lt absent is = absent is

in-noted : (n m : ℕ) (b : Bool) (S : List ℕ) → Contains S m → Contains (noted n b S) m
in-noted n m true S is = Contains-append_left S (n ∷ []) m is
in-noted n m false S is = is

ran-noted : {T : Type 0} (events : List (Event T)) (S : List ℕ) (n m : ℕ) (b : Bool) (e : Event T) → m < n → HasRun events S m e → HasRun events (noted n b S) m e
ran-noted events S n m b e lt h = (h.0, not-in-noted n m b S lt h.1)

abbrev in-call-noted : {T : Type 0} (events : List (Event T)) (S : List ℕ) (R : List (ℕ × ℕ × Reply T)) (n q m : ℕ) (b : Bool) (c : IsInCall events S R q m) → c.first < n → IsInCall events (noted n b S) R q m
in-call-noted events S R n q m b c lt = record { first = c.first; call = c.call; begins = ran-noted events S n c.first b (Begin q c.call) lt c.begins; before = c.before; unanswered = c.unanswered }

module _ (T : Type 0) (past : List (Event T)) (x : Event T) (S : List ℕ) (R : List (ℕ × ℕ × Reply T)) (n p : ℕ) (b : Bool) (r : Option (Reply T)) (len : n ≡ length past) (early : AllByRecursion (λ y. y.0 < n) R) where
  abbrev now : List (Event T)
  now = past ++ x ∷ []

  pub unanswered-before : (q first m : ℕ) → (y : Option (Reply T)) → IsUnanswered (with_reply n p y R) q first m → IsUnanswered R q first m
  unanswered-before q first m None all = all
  unanswered-before q first m (Some z) all = each-front _ R ((n, p, z) ∷ []) all

  -- what had run before this event had run
  pub ran-before : (m : ℕ) (e : Event T) → m < n → HasRun now (noted n b S) m e → HasRun past S m e
  ran-before m e lt h = (event-less past (x ∷ []) m e (omega arith) h.0, λ is. h.1 (in-noted n m b S is))

  -- before an earlier event, and before this one, a party is in a call as it was
  pub earlier-now : (q m : ℕ) → m ≤ n → IsInCall past S R q m → IsInCall now (noted n b S) (with_reply n p r R) q m
  earlier-now q m le c = let lt = c.before in in-call-noted now S (with_reply n p r R) n q m b (in-call-late past (x ∷ []) S R n p q m r le c) (omega arith)

  abbrev pub earlier-before : (q m : ℕ) → m ≤ n → IsInCall now (noted n b S) (with_reply n p r R) q m → IsInCall past S R q m
  earlier-before q m le c =
      let lt = c.before in
      record { first = c.first; call = c.call; begins = ran-before c.first (Begin q c.call) (omega arith) c.begins; before = c.before; unanswered = unanswered-before q c.first m r c.unanswered }

  -- an earlier event is exact as it was
  pub exact-now : (m : ℕ) (y : Event T) (parties : ℕ) → m < n → IsExact parties past S R m y → IsExact parties now (noted n b S) (with_reply n p r R) m y
  exact-now m (Begin q c) parties lt (inl h) = inl ((h.0.0, λ in_call. h.0.1 (earlier-before q m (omega arith) in_call)), not-in-noted n m b S lt h.1)
  exact-now m (Begin q c) parties lt (inr h) = inr ((λ should. h.0 (should.0, λ in_call. should.1 (earlier-now q m (omega arith) in_call))), in-noted n m b S h.1)
  exact-now m (Step q g) parties lt (inl h) = inl ((h.0.0, earlier-now q m (omega arith) h.0.1), not-in-noted n m b S lt h.1)
  exact-now m (Step q g) parties lt (inr h) = inr ((λ should. h.0 (should.0, earlier-before q m (omega arith) should.1)), in-noted n m b S h.1)

  -- after this event a call goes on
  pub goes-on : (q : ℕ) → (r ≡ None) ⊎ (q ≢ p) → IsInCall past S R q n → IsInCall now (noted n b S) (with_reply n p r R) q (n + 1)
  goes-on q other c = let lt = c.before in in-call-noted now S (with_reply n p r R) n q (n + 1) b (in-call-on past (x ∷ []) S R n p q r other early c) (omega arith)

  pub nearer : (q first : ℕ) (xs : List (ℕ × ℕ × Reply T)) → IsUnanswered xs q first (n + 1) → IsUnanswered xs q first n
  nearer q first xs all = each-all _ _ xs (λ y before same. elim (before same) [ inl less ↦ inl less | inr le ↦ inr (omega arith) ]) all

  -- a call after this event that began before it was there before it
  abbrev pub there-before : (q : ℕ) (c : IsInCall now (noted n b S) (with_reply n p r R) q (n + 1)) → c.first < n → IsInCall past S R q n
  there-before q c lt = record { first = c.first; call = c.call; begins = ran-before c.first (Begin q c.call) lt c.begins; before = lt; unanswered = nearer q c.first R (unanswered-before q c.first (n + 1) r c.unanswered) }

  -- or it began at it
  pub was-there : (q : ℕ) → (c : IsInCall now (noted n b S) (with_reply n p r R) q (n + 1)) → (c.first ≡ n) ⊎ (c.first < n)
  was-there q c = last-or-earlier c.first n c.before

  -- a call that this event answered is over
  pub is-over : (z : Reply T) → r ≡ Some z → IsInCall now (noted n b S) (with_reply n p r R) p (n + 1) → ⊥
  is-over z some c =
      let all : IsUnanswered (R ++ (n, p, z) ∷ []) p c.first (n + 1) = subst (λ y. IsUnanswered (with_reply n p y R) p c.first (n + 1)) some c.unanswered in
      let before = c.before in
      elim (each-end _ R (n, p, z) all refl) [ inl lt ↦ absurd (omega arith) | inr le ↦ absurd (omega arith) ]
