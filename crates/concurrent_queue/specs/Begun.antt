-- A call on its way, as contracts see it.
use Rattle.queue_steps.specs.declared.model.Call.{Call}
use Rattle.concurrent_queue.specs.Shared.{PartyView}

-- the party as it was when the call began, and the call
pub record Begun (T : Type 0) : Type 0 where
  pub party : PartyView T
  pub call : Call T
