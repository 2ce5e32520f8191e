use Rattle.std.proofs.Common.{None}
use Rattle.own_cells.proofs.OneRing.Emptying.{fewer_left, rest_replicated}
use Rattle.own_cells.proofs.ring.vacant.discard.Goals as goal

pub loop-slot-init : goal.loop-slot-init
loop-slot-init g c = c.requires

pub loop-slot-smaller : goal.loop-slot-smaller
loop-slot-smaller g c = fewer_left c.loop-slot.slots.items c.pop.new.self.items c.in-Some.slot c.in-Some.ensures.items

pub loop-slot-preserved : goal.loop-slot-preserved
loop-slot-preserved g c = rest_replicated c.loop-slot.slots.items c.pop.new.self.items c.in-Some.slot None c.loop-slot.invariant c.in-Some.ensures.items
