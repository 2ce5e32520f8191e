use Rattle.std.proofs.Common.{set, ap, ◌∙◌, arith}
use Rattle.std.specs.Mem.Slots.{slots_items, slots_counts}
use Rattle.own_cells.specs.OneRing.RingMemory.{ring_in}
use Rattle.own_cells.proofs.OneRing.RingLies.{slot_low, item_read, item_written}
use Rattle.own_cells.proofs.ring.own_ring.OwnRing.exchange.Goals as goal

pub take-item-requires : goal.take-item-requires
take-item-requires g c =
    let m = c.self.inside.memory in let i = c.args.slot in
    let lt = slot_low c.self.inside.capacity (slots_items m.words) (slots_items m.slots) (slots_counts m.words).0 (slots_counts m.slots).0 c.self.inside.sized c.self.view_is i c.requires in
    (omega (arith, c.self.inside.sized.1), c.self.inside.full.1 i (omega arith) (omega (arith, c.self.inside.sized.1)))

pub put-requires : goal.put-requires
put-requires g c =
    let m = c.self.inside.memory in
    let lt = slot_low c.self.inside.capacity (slots_items m.words) (slots_items m.slots) (slots_counts m.words).0 (slots_counts m.slots).0 c.self.inside.sized c.self.view_is c.args.slot c.requires in
    omega (arith, c.take-item.ensures.places.count, c.self.inside.sized.1)

pub returns-clause-taken : goal.returns-clause-taken
returns-clause-taken g c =
    let m = c.self.inside.memory in c.take-item.ensures.value ∙ item_read c.self.inside.capacity (slots_items m.words) (slots_items m.slots) (slots_counts m.words).0 (slots_counts m.slots).0 c.self.inside.sized c.self.view_is c.args.slot c.take-item.result c.requires

pub returns-clause-put : goal.returns-clause-put
returns-clause-put g c =
    let m = c.self.inside.memory in let cap = c.self.inside.capacity in let i = c.args.slot in
    ap (ring_in cap (slots_items m.words)) (c.put.ensures.items ∙ ap (λ l. set l i c.args.value) c.take-item.ensures.items)
    ∙ item_written cap (slots_items m.words) (slots_items m.slots) (slots_counts m.words).0 (slots_counts m.slots).0 c.self.inside.sized c.self.view_is i c.args.value
