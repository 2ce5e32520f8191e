use Rattle.std.proofs.Common.{◌∙◌, arith}
use Rattle.std.specs.Mem.Slots.{slots_items, slots_counts}
use Rattle.own_cells.proofs.OneRing.RingLies.{slot_low, item_read}
use Rattle.own_cells.proofs.ring.own_ring.OwnRing.content.Goals as goal

pub get-requires : goal.get-requires
get-requires g c =
    let m = c.self.inside.memory in let i = c.args.slot in
    let lt = slot_low c.self.inside.capacity (slots_items m.words) (slots_items m.slots) (slots_counts m.words).0 (slots_counts m.slots).0 c.self.inside.sized c.self.view_is i c.requires in
    (omega (arith, c.self.inside.sized.1), c.self.inside.full.1 i (omega arith) (omega (arith, c.self.inside.sized.1)))

pub returns : goal.returns
returns g c =
    let m = c.self.inside.memory in c.get.ensures ∙ item_read c.self.inside.capacity (slots_items m.words) (slots_items m.slots) (slots_counts m.words).0 (slots_counts m.slots).0 c.self.inside.sized c.self.view_is c.args.slot c.get.result.now c.requires
