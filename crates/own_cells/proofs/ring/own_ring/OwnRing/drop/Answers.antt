use Rattle.std.proofs.Common.{◌∙◌}
use Rattle.std.specs.Mem.Slots.{slots_len, slots_filled}
use Rattle.own_cells.proofs.OneRing.Emptying.{none_before, itself, counted_below, counted_before, first_empty, others_full}
use Rattle.own_cells.proofs.ring.own_ring.OwnRing.drop.Goals as goal

pub loop-slot-init : goal.loop-slot-init
loop-slot-init g c = let r = c.self.inside in (r.sized.1, λ k lt. absurd (none_before k lt), λ k low lt. r.full.1 k low (counted_below k (slots_len r.memory.slots) r.capacity r.sized.1 lt))

pub take-requires : goal.take-requires
take-requires g c =
    let i = c.loop-slot.invariant in let lt = c.loop-slot-test.true in let slot = c.loop-slot.slot in
    (counted_below slot (slots_len c.loop-slot.memory.slots) c.self.inside.capacity i.0 lt, i.2 slot (itself slot) lt)

pub loop-slot-preserved : goal.loop-slot-preserved
loop-slot-preserved g c =
    let i = c.loop-slot.invariant in let others = c.take.ensures.others in
    let old = slots_filled c.loop-slot.memory.slots in let new = slots_filled c.take.new.self.slots in
    (others.2 ∙ i.0, first_empty old new c.loop-slot.slot others.1 i.1, others_full old new c.loop-slot.slot c.self.inside.capacity others.1 i.2)

pub free-requires : goal.free-requires
free-requires g c = let i = c.loop-slot.invariant in λ k lt. i.1 k (counted_before k (slots_len c.loop-slot.memory.slots) c.self.inside.capacity c.loop-slot.slot i.0 lt c.loop-slot-test.false)
