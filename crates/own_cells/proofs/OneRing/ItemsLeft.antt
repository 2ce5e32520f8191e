-- Reading goes from slot to slot, and round the end of the ring.
use Rattle.std.proofs.Common.{◌≡◌, ℕ, suc, ◌+◌, ◌-◌, ◌%◌, ◌<◌, ◌≤◌, List, ◌∷◌, length, Some, arith, sym, ap, ◌∙◌, mod-lt}
use Rattle.std.proofs.Math.Nat.{suc-mod, mod-eq_of_lt, mod_self}
use Rattle.queue_steps.specs.Words.{position_of, slot_at}
use Rattle.own_cells.specs.OneRing.{RingCells.RingState, RingCells.item_at, RingOwned.put_in, RingOwned.at_position, RingOwned.items_of, RingOwned.IsIdle, ItemsLeft.next_position, ItemsLeft.items_left, ItemsLeft.Reads}

-- an item that comes leaves one fewer
pub one_fewer : {T : Type 0} (old new : List T) (x : T) → old ≡ x ∷ new → length new < length old
one_fewer old new x is = let long = ap length is in omega arith

module _ {T : Type 0} (r : RingState T) where
  -- at first all items are left
  pub begins : IsIdle r → Reads r (slot_at r.cap r.head) (position_of r.tail - r.head)
  begins i =
      let order = i.holds.order in let first : r.head ≡ next_position r (position_of r.tail - r.head) = omega arith in
      record { idle = i; within = omega arith; in_slot = ap (slot_at r.cap) first }

  module _ (slot left : ℕ) (some : 0 < left) (now : Reads r slot left) where
    abbrev p : ℕ
    p = next_position r left

    next : suc p ≡ next_position r (left - 1)
    next = let few = now.within in omega arith

    within : slot < r.cap
    within = let at = now.in_slot in let low : p % r.cap < r.cap = mod-lt p now.idle.holds.some in omega arith

    pub below : slot < length r.slots
    below = let low = within in let long = now.idle.holds.slotted in omega arith

    pub full : (x : T) × (item_at r slot ≡ Some x)
    full =
        let few = now.within in let order = now.idle.holds.order in let here = now.idle.holds.filled p (omega arith) (omega arith) in
        (here.0, ap (item_at r) now.in_slot ∙ here.2)

    -- the item is the first of those that are left
    pub reads : (x : T) → item_at r slot ≡ Some x → items_left r left ≡ x ∷ items_left r (left - 1)
    reads x is =
        let one : left ≡ suc (left - 1) = omega arith in let on = next in let more : p + 1 ≡ next_position r (left - 1) = omega arith in
        let item : at_position r.cap r.slots p ≡ Some x = sym (ap (item_at r) now.in_slot) ∙ is in
        ap (items_of r.cap r.slots p) one ∙ (ap (λ o. put_in o (items_of r.cap r.slots (p + 1) (left - 1))) item ∙ ap (λ q. x ∷ items_of r.cap r.slots q (left - 1)) more)

    -- the slot of the next position
    turned : suc slot % r.cap ≡ slot_at r.cap (next_position r (left - 1))
    turned = ap (λ s. suc s % r.cap) now.in_slot ∙ (sym (suc-mod p r.cap) ∙ ap (λ q. q % r.cap) next)

    fewer : left - 1 ≤ position_of r.tail - r.head
    fewer = let few = now.within in omega arith

    pub reads-on : ¬ (slot + 1 ≡ r.cap) → Reads r (slot + 1) (left - 1)
    reads-on inner = let low = within in let small : suc slot < r.cap = omega arith in let same : slot + 1 ≡ suc slot = omega arith in
        record { idle = now.idle; within = fewer; in_slot = same ∙ (sym (mod-eq_of_lt small) ∙ turned) }

    pub reads-round : slot + 1 ≡ r.cap → Reads r 0 (left - 1)
    reads-round last = let whole : suc slot ≡ r.cap = omega arith in
        record { idle = now.idle; within = fewer; in_slot = sym (ap (λ s. s % r.cap) whole ∙ mod_self r.cap) ∙ turned }
