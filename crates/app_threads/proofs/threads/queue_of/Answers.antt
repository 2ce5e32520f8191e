use Rattle.std.proofs.Common.{ℕ, ◌≤◌, ◌<◌, Result, Ok, Err, IsErr, IfOk, inl, inr}
use Rattle.std.proofs.lemmas.Bool.Decides.{leb_tells}
use Rattle.queue_steps.specs.declared.sizes.TheConstants.{MAX_CAPACITY}
use Rattle.app_threads.proofs.threads.queue_of.Goals as goal

-- what was made has no more slots than a queue may have
within : {T E : Type 0} (n : ℕ) (r : Result T E) → (MAX_CAPACITY < n → IsErr r) → IfOk r (λ _. n ≤ MAX_CAPACITY)
within {T} {E} n (Ok x) limited = elim (leb_tells n MAX_CAPACITY) [ inl h ↦ h.1 | inr h ↦ (let no : IsErr {T = T} {E = E} (Ok x) = limited h.1 in cc) ]
within n (Err e) limited = tt

pub returns-in-Bounded-clause-first : goal.returns-in-Bounded-clause-first
returns-in-Bounded-clause-first c = rw c.in-Bounded.is c.bounded-in-Bounded.ensures.first

pub returns-in-Bounded-clause-within : goal.returns-in-Bounded-clause-within
returns-in-Bounded-clause-within c = rw c.in-Bounded.is (within c.in-Bounded.cap c.bounded-in-Bounded.result c.bounded-in-Bounded.ensures.limited)

pub returns-in-Unbounded-clause-first : goal.returns-in-Unbounded-clause-first
returns-in-Unbounded-clause-first c = rw c.in-Unbounded.is c.unbounded.ensures
