use Rattle.std.proofs.Common.{◌≡◌, ℕ, Some, sym, ◌∙◌, subst}
use Rattle.std.specs.Mem.Slots.{slots_items}
use Rattle.queue_steps.specs.{Effect.after, Legal.IsShown}
use Rattle.own_cells.specs.{OneRing.RingOwned.IsIdle, OneRing.RingOwned.ring_owned, OneRing.RingMemory.ring_in}
use Rattle.shared_tables.proofs.RingFinish.{ring_finishes}
use Rattle.shared_tables.proofs.ring.end_ring.Goals as goal

pub returns : goal.returns
returns g c =
    let t = c.args.ring.table.shared in let d = c.args.seat.me.0 in let k = c.close_with-memory.ensures in
    let ws = slots_items c.close_with-memory.result.words in let xs = slots_items c.close_with-memory.result.slots in
    let slots : t.key ≡ t.table_id.slots = c.args.ring.sized.1 in
    let cap : t.key ≡ c.args.ring.slots = slots ∙ sym c.args.ring.counted in
    let f = ring_finishes t.key c.args.seat.id d ws xs c.requires.alone k.values.2 in
    let shown : IsShown (ring_owned (ring_in c.args.ring.slots ws xs)).queue (after (Some t.table_id.slots) d.known.seen) =
    subst (λ (z : ℕ × ℕ). IsShown (ring_owned (ring_in z.0 ws xs)).queue (after (Some z.1) d.known.seen)) (λ i. (cap i, slots i)) f.1 in
    (subst (λ (z : ℕ). IsIdle (ring_in z ws xs)) cap f.0, shown, f.2)
