-- Where a call stands that has had no effect yet, on a queue of any kind, and the spare block that a call has there.
use Rattle.std.specs.Prelude.{Bool, true, Option, Some, None}
use Rattle.queue_laws.specs.Common.Vocabulary.{Local, ChainLocal}
use Rattle.queue_laws.specs.Slot.SlotEarly as slot
use Rattle.queue_laws.specs.Ring.RingEarly as ring
use Rattle.queue_laws.specs.Chain.ChainEarly as chain

module _ {B : Type 0} where
  abbrev pub is_early : Local B → Bool
  is_early (Local.Begin c) = true
  is_early (Local.Slot l) = slot.is_early l
  is_early (Local.Ring l) = ring.is_early l
  is_early (Local.Chain l) = chain.is_early l

  abbrev pub spare_of : ChainLocal B → Option B
  spare_of (ChainLocal.PushTail d spare) = spare
  spare_of (ChainLocal.PushBlock d tail spare) = spare
  spare_of (ChainLocal.Installing d tail block) = Some block
  spare_of (ChainLocal.Claiming d tail block spare) = spare
  spare_of (ChainLocal.Laying d tail block spare) = Some spare
  spare_of (ChainLocal.Writing d spare) = spare
  spare_of (ChainLocal.ClosingAtLimit d spare) = spare
  spare_of _ = None

  abbrev pub spare_at : Local B → Option B
  spare_at (Local.Chain l) = spare_of l
  spare_at _ = None
