use Rattle.std.proofs.Common.{set, ap, ◌∙◌, arith}
use Rattle.std.specs.Mem.Slots.{slots_items, slots_counts, slots_small}
use Rattle.own_cells.{specs.OneRing.RingMemory.ring_in, proofs.OneRing.RingLies.stamp_low, proofs.OneRing.RingLies.stamp_there, proofs.OneRing.RingLies.stamp_written}
use Rattle.own_cells.proofs.ring.own_ring.OwnRing.set_stamp.Goals as goal

pub stamp_word-requires : goal.stamp_word-requires
stamp_word-requires g c =
    let m = c.self.inside.memory in
    let lt = stamp_low c.self.inside.capacity (slots_items m.words) (slots_items m.slots) (slots_counts m.words).0 (slots_counts m.slots).0 c.self.inside.sized c.self.view_is c.args.slot c.requires in
    let small = slots_small m.words in omega (arith, lt, c.self.inside.sized.0, small)

pub put-requires : goal.put-requires
put-requires g c =
    let m = c.self.inside.memory in
    let there = stamp_there c.self.inside.capacity (slots_items m.words) (slots_items m.slots) (slots_counts m.words).0 (slots_counts m.slots).0 c.self.inside.sized c.self.view_is c.args.slot c.requires in
    omega (arith, there, c.stamp_word.ensures)

pub returns : goal.returns
returns g c =
    let m = c.self.inside.memory in let cap = c.self.inside.capacity in
    ap (λ l. ring_in cap l (slots_items m.slots)) (c.put.ensures.items ∙ ap (λ k. set (slots_items m.words) k c.args.stamp) c.stamp_word.ensures)
    ∙ stamp_written cap (slots_items m.words) (slots_items m.slots) (slots_counts m.words).0 (slots_counts m.slots).0 c.self.inside.sized c.self.view_is c.args.slot c.args.stamp c.requires
