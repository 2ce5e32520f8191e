use Rattle.std.proofs.Common.{arith}
use Rattle.own_cells.specs.OneRing.Laws.RingParty.{first-slot, next-slot}
use Rattle.own_cells.proofs.ring.own_ring.first_position.Goals as goal

pub returns-then-slot-passed-clause-slot : goal.returns-then-slot-passed-clause-slot
returns-then-slot-passed-clause-slot c = next-slot c.args.accepted c.args.capacity c.args.slot c.requires.slot

pub returns-else-slot-passed-clause-slot : goal.returns-else-slot-passed-clause-slot
returns-else-slot-passed-clause-slot c = first-slot c.args.accepted c.args.capacity c.args.slot c.requires.slot

pub returns-then-slot-passed-clause-within : goal.returns-then-slot-passed-clause-within
returns-then-slot-passed-clause-within c = omega arith
