-- Where a call on a queue in a table stands that has had no effect yet.
use Rattle.std.specs.Prelude.{ℕ}
use Rattle.queue_laws.specs.Common.Vocabulary.{Local}
use Rattle.queue_laws.specs.Slot.SlotEarly as slot
use Rattle.queue_laws.specs.Ring.RingEarly as ring

-- on one slot, and on a ring
abbrev pub IsEarly : Local ℕ → Type 0
IsEarly l = slot.IsEarly l × ring.IsEarly l
