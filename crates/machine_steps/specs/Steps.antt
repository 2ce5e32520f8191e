-- What one step of a call makes of the machine, and how a call begins.
use Rattle.std.specs.Prelude.{ℕ, Bool, Option, Some, None, IsSome}
use Rattle.queue_steps.specs.{declared.model.Call.Call, declared.model.Reply.Reply, Kinds.call_kind, Kinds.call_value, Kinds.filled, Next.CanNext, Next.next_of, Next.first_local, declared.steps.types.Answer.Answer, declared.steps.types.Answer.Answer as answer, declared.steps.types.Kind.Kind}
use Rattle.queue_steps.specs.declared.steps.types.Next.{Next, Next as next}
use Rattle.machine_memory.specs.{declared.calls.Running.Running, Blocks.without, EffectOf.effect_of}
use Rattle.machine_memory.specs.SharedMemory.{MemoryState, CanOperate, answered, operated, block_touched, slots_there, CanTouch, touched, handed}
use Rattle.machine_steps.specs.World.{StepOutcome, Begun}

-- the call that waits for its next step, if it has one, and the reply, if it ends
abbrev pub running_after : {T : Type 0} → Next ℕ → Option T → Option (Running T)
running_after (next.Step l t o) v = Some (record { local = l; touch = t; op = o; carried = v })
running_after (next.Reply k spare) v = None

abbrev pub reply_after : {T : Type 0} → Next ℕ → Option T → Option (Reply T)
reply_after (next.Step l t o) v = None
reply_after (next.Reply k spare) v = filled k v

-- the value that the call carries is the one that its reply tells of
abbrev pub CanReply : {T : Type 0} → Next ℕ → Option T → Type 0
CanReply (next.Step l t o) v = Unit {0}
CanReply (next.Reply k spare) v = IsSome (filled k v)

-- the block that a call gives up where it replies
abbrev pub spare_in : Next ℕ → Option ℕ
spare_in (next.Step l t o) = None
spare_in (next.Reply k spare) = spare

-- what is shared after the touch of the call's next step, and what the call carries then
abbrev pub after_touch : {T : Type 0} → MemoryState T → Running T → MemoryState T
after_touch s r = touched r.touch (block_touched r.op) s r.carried

abbrev pub carried_then : {T : Type 0} → MemoryState T → Running T → Option T
carried_then s r = handed r.touch (block_touched r.op) s r.carried

-- what the operation of the call's next step answers, and what the call does then
abbrev pub answer_to : {T : Type 0} → Bool → MemoryState T → Running T → Answer ℕ
answer_to ok s r = answered ok (after_touch s r) r.op

abbrev pub next_after : {T : Type 0} → Kind → Bool → MemoryState T → Running T → Next ℕ
next_after k ok s r = next_of k r.local (answer_to ok s r)

-- what is shared after the operation of the call's next step, and after the block that it gives up then, if there is one
abbrev pub after_operation : {T : Type 0} → Bool → MemoryState T → Running T → MemoryState T
after_operation ok s r = operated ok (after_touch s r) r.op

abbrev pub shared_then : {T : Type 0} → Kind → Bool → MemoryState T → Running T → MemoryState T
shared_then k ok s r = record (after_operation ok s r) { blocks = without (spare_in (next_after k ok s r)) (after_operation ok s r).blocks }

-- one step of a call. `ok` says whether a block that it asks for is granted
abbrev pub step_of : {T : Type 0} → Kind → Bool → MemoryState T → Running T → StepOutcome (MemoryState T) (Running T) T
step_of k ok s r = record {
  shared = shared_then k ok s r;
  effect = effect_of k r.local (answer_to ok s r);
  call = running_after (next_after k ok s r) (carried_then s r);
  reply = reply_after (next_after k ok s r) (carried_then s r);
}

-- the step can be taken
pub record CanStep {T : Type 0} (k : Kind) (ok : Bool) (s : MemoryState T) (r : Running T) : Type 0 where
  pub touches : CanTouch r.touch (slots_there s (block_touched r.op))
  pub operates : CanOperate (after_touch s r) r.op
  pub goes_on : CanNext k r.local (answer_to ok s r)
  pub replies : CanReply (next_after k ok s r) (carried_then s r)

-- what a call does where it begins
abbrev pub first_next : {T : Type 0} → Kind → Call T → Next ℕ
first_next k c = next_of k (first_local (call_kind c)) answer.Start

-- the beginning of a call
abbrev pub start_of : {T : Type 0} → Kind → Call T → Begun (Running T) T
start_of k c = record { call = running_after (first_next k c) (call_value c); reply = reply_after (first_next k c) (call_value c) }

-- a call can begin
pub record CanStart {T : Type 0} (k : Kind) (c : Call T) : Type 0 where
  pub goes_on : CanNext {B = ℕ} k (first_local (call_kind c)) answer.Start
  pub replies : CanReply (first_next k c) (call_value c)
