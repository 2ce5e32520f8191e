-- What it is that a call ends by its second step, whatever other parties do in between.
use Rattle.std.specs.Prelude.{ℕ, zero, suc, ◌+◌}
use Rattle.queue_steps.specs.declared.{sizes.TheConstants.WAIT_FREE_STEPS, model.Call.Call, steps.types.Kind.Kind, steps.types.Answer.Answer, steps.types.Answer.Answer as answer, steps.types.Next.Next, steps.types.Next.Next as next}
use Rattle.queue_steps.specs.Next.{CanNext, next_of, first_local}
pub use Rattle.queue_steps.specs.Looks.{is_wait_free}

-- the reply comes before n more steps, whatever they answer
abbrev pub EndsBefore : {B : Type 0} → ℕ → Kind → Next B → Type 0
EndsBefore zero k todo = ⊥
EndsBefore (suc n) k (next.Reply r spare) = Unit {0}
EndsBefore {B} (suc n) k (next.Step l t o) = (a : Answer B) → CanNext k l a → EndsBefore n k (next_of k l a)

abbrev pub EndsWaitFree : (B : Type 0) → Kind → Call Unit → Type 0
EndsWaitFree B k c = EndsBefore {B = B} (WAIT_FREE_STEPS + 1) k (next_of k (first_local c) answer.Start)
