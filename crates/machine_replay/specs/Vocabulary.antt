-- The types that calls, steps and events are told in, and the constants, so that a file names them in one line.
pub use Rattle.queue_laws.specs.Common.Vocabulary.{Call, Reply, Effect, PopError, PushError, ForcePushError, Kind, Word, Link, Op, Touch, Answer, Look, Local, Next, SlotLocal, PushKind, RingLocal, ChainLocal}
pub use Rattle.queue_laws.specs.Common.Vocabulary.{LIMIT, MAX_CAPACITY, BLOCK_SLOTS, BLOCK_POSITIONS, STEPS_ALONE, MAX_PARTIES, WAIT_FREE_STEPS, LOCKED, PUSHED, CLOSED, UNLOCKED, UNPUSHED, MARK, TAIL_STEP, WRITE, READ, DESTROY}
pub use Rattle.machine_memory.specs.declared.types.Event.{Event}
pub use Rattle.machine_memory.specs.declared.types.Event.TheVariants.{Begin, Step}
pub use Rattle.machine_memory.specs.declared.types.Told.{Told}
pub use Rattle.machine_memory.specs.declared.types.Told.TheVariants.{Skipped, Ran}
pub use Rattle.machine_memory.specs.declared.types.EffectKind.{EffectKind}
pub use Rattle.machine_memory.specs.declared.types.Replay.{Replay}
pub use Rattle.machine_memory.specs.declared.types.Peak.{Peak}
pub use Rattle.machine_memory.specs.declared.calls.Running.{Running}
