-- What holds of each line of the table at which a push may end holds of what the push answers and leaves.
use Rattle.std.specs.Prelude.{◌≡◌, Bool, true, false, if◌then◌else◌}
use Rattle.std.proofs.Common.{refl}
use Rattle.queue_steps.specs.{declared.model.Reply.Reply, State.State, State.is_full, Sequential.is_spent}

branch : {A : Type 0} (P : A → Type 0) (b : Bool) (x y : A) → (b ≡ true → P x) → (b ≡ false → P y) → P (if b then x else y)
branch P true x y hit miss = hit refl
branch P false x y hit miss = miss refl

module _ {T : Type 0} (P : Reply T × State T → Type 0) (Q : State T) (shut spent full room : Reply T × State T) where
  abbrev Holds : Type 0
  Holds = P (if Q.closed then shut else (if is_spent Q then spent else (if is_full Q then full else room)))

  pub table_cases : (Q.closed ≡ true → P shut) → (Q.closed ≡ false → is_spent Q ≡ true → P spent) → (Q.closed ≡ false → is_spent Q ≡ false → is_full Q ≡ true → P full)
      → (Q.closed ≡ false → is_spent Q ≡ false → is_full Q ≡ false → P room) → Holds
  table_cases when_shut when_spent when_full else_room =
      branch P Q.closed shut _ when_shut (λ e1. branch P (is_spent Q) spent _ (when_spent e1) (λ e2. branch P (is_full Q) full room (when_full e1 e2) (else_room e1 e2)))

  -- where the tests are known
  pub at_shut : Q.closed ≡ true → P shut → Holds
  at_shut e1 p = rw e1 p

  pub at_spent : Q.closed ≡ false → is_spent Q ≡ true → P spent → Holds
  at_spent e1 e2 p = rw (e1, e2) p

  pub at_full : Q.closed ≡ false → is_spent Q ≡ false → is_full Q ≡ true → P full → Holds
  at_full e1 e2 e3 p = rw (e1, e2, e3) p

  pub at_room : Q.closed ≡ false → is_spent Q ≡ false → is_full Q ≡ false → P room → Holds
  at_room e1 e2 e3 p = rw (e1, e2, e3) p
