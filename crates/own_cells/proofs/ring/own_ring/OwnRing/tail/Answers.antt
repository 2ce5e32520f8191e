use Rattle.std.specs.Mem.Slots.{slots_items, slots_counts}
use Rattle.own_cells.proofs.OneRing.RingLies.{tail_read}
use Rattle.own_cells.proofs.ring.own_ring.OwnRing.tail.Goals as goal

pub returns : goal.returns
returns g c = let m = c.self.inside.memory in tail_read c.self.inside.capacity (slots_items m.words) (slots_items m.slots) (slots_counts m.words).0 (slots_counts m.slots).0 c.self.inside.sized c.self.view_is c.word.result c.word.ensures
