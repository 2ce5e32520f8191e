-- The types that calls and steps are told in, and the constants, so that a file names them in one line.
pub use Rattle.queue_steps.specs.declared.model.Call.{Call}
pub use Rattle.queue_steps.specs.declared.model.Reply.{Reply}
pub use Rattle.queue_steps.specs.declared.model.Effect.{Effect}
pub use Rattle.queue_steps.specs.declared.errors.PopError.{PopError}
pub use Rattle.queue_steps.specs.declared.errors.PushError.{PushError}
pub use Rattle.queue_steps.specs.declared.errors.ForcePushError.{ForcePushError}
pub use Rattle.queue_steps.specs.declared.steps.types.Kind.{Kind}
pub use Rattle.queue_steps.specs.declared.steps.types.Word.{Word}
pub use Rattle.queue_steps.specs.declared.steps.types.Link.{Link}
pub use Rattle.queue_steps.specs.declared.steps.types.Op.{Op}
pub use Rattle.queue_steps.specs.declared.steps.types.Touch.{Touch}
pub use Rattle.queue_steps.specs.declared.steps.types.Answer.{Answer}
pub use Rattle.queue_steps.specs.declared.steps.looks.Look.{Look}
pub use Rattle.queue_steps.specs.declared.steps.types.Local.{Local}
pub use Rattle.queue_steps.specs.declared.steps.types.Next.{Next}
pub use Rattle.queue_steps.specs.declared.steps.slot.SlotLocal.{SlotLocal}
pub use Rattle.queue_steps.specs.declared.steps.ring.PushKind.{PushKind}
pub use Rattle.queue_steps.specs.declared.steps.ring.RingLocal.{RingLocal}
pub use Rattle.queue_steps.specs.declared.steps.chain.ChainLocal.{ChainLocal}
pub use Rattle.queue_steps.specs.declared.sizes.TheConstants.{LIMIT, MAX_CAPACITY, BLOCK_SLOTS, BLOCK_POSITIONS, STEPS_ALONE, MAX_PARTIES, WAIT_FREE_STEPS}
pub use Rattle.queue_steps.specs.declared.steps.slot.TheConstants.{LOCKED, PUSHED, CLOSED, UNLOCKED, UNPUSHED}
pub use Rattle.queue_steps.specs.declared.steps.ring.TheConstants.{MARK, TAIL_STEP}
pub use Rattle.queue_steps.specs.declared.steps.chain.TheConstants.{WRITE, READ, DESTROY}
