-- Between its calls a ring with one owner is sound.
use Rattle.std.proofs.Common.{refl, arith, inl, inr}
use Rattle.queue_steps.specs.Legal.{IsSoundOwned}
use Rattle.own_cells.specs.OneRing.{RingCells.RingState, RingOwned.IsIdle, RingOwned.ring_owned, Laws.RingParty.length-items}

pub ring_sound : {T : Type 0} (r : RingState T) → IsIdle r → IsSoundOwned (ring_owned r)
ring_sound r idle =
    let order = idle.holds.order in
    let within = idle.holds.within in
    let long = length-items r idle in
    (record { none_coming = refl; within = (idle.holds.some, omega arith); counted = inr idle.below }, inl refl)
