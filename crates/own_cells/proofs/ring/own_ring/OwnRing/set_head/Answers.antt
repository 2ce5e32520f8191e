use Rattle.std.proofs.Common.{ap, ◌∙◌}
use Rattle.std.specs.Mem.Slots.{slots_items, slots_counts}
use Rattle.own_cells.{specs.OneRing.RingMemory.ring_in, proofs.OneRing.RingLies.head_written}
use Rattle.own_cells.proofs.ring.own_ring.OwnRing.set_head.Goals as goal

pub returns : goal.returns
returns g c =
    let m = c.self.inside.memory in let cap = c.self.inside.capacity in
    ap (λ l. ring_in cap l (slots_items m.slots)) c.put.ensures.items ∙ head_written cap (slots_items m.words) (slots_items m.slots) (slots_counts m.words).0 (slots_counts m.slots).0 c.self.inside.sized c.self.view_is c.args.word
