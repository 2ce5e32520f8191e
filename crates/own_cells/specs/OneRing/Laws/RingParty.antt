-- A ring with one owner between calls, as a ring of the laws of parties: nobody has a slot, and each is full or free by its position.
use Rattle.std.proofs.Common.{◌≡◌, ℕ, zero, suc, ◌+◌, ◌-◌, ◌*◌, ◌/◌, ◌%◌, ◌<◌, ◌≤◌, List, length, Option, Some, None, refl, arith, sym, ap, ◌∙◌, subst, inl, inr, slice_get}
use Rattle.std.proofs.{Math.Nat.div-add-mod, Math.Nat.add-mod_right, lemmas.Bool.Decides.eqb_tells, lemmas.Nat.mod-mul-add}
use Rattle.queue_steps.specs.Words.{position_of, is_shut, tail_of, slot_at}
use Rattle.queue_laws.specs.Ring.{RingShared.Shared, RingCells.Cell, RingCells.Free, RingCells.Full, RingCells.Ring, RingCells.CellOk, RingCells.RingOk, RingCells.owner, RingWords.Codes, RingWords.stamp_in, RingWords.item_in}
use Rattle.queue_laws.proofs.Ring.RingIdle.{NobodyHolds}
use Rattle.own_cells.specs.OneRing.{RingCells.RingState, RingCells.stamp_at, RingCells.item_at, RingOwned.at_position, RingOwned.items_of, RingOwned.IsIdle, RingOwned.ring_queue, Laws.Numbers.below_or_not}

-- a slot of the lap that n stands in
pub first-slot : (n cap i : ℕ) → i < cap → slot_at cap (n - n % cap + i) ≡ i
first-slot n cap i below =
    let whole = div-add-mod n cap in
    let lap : n - n % cap ≡ (n / cap) * cap = omega arith in
    rw lap (mod-mul-add (n / cap) cap i below)

-- and of the next
pub next-slot : (n cap i : ℕ) → i < cap → slot_at cap (n - n % cap + cap + i) ≡ i
next-slot n cap i below =
    let turned : n - n % cap + cap + i ≡ (n - n % cap + i) + cap = omega arith in
    rw turned (add-mod_right (n - n % cap + i) cap ∙ first-slot n cap i below)

-- the position of a slot in the lap from h on
in_lap : (cap h i : ℕ) → i < cap → (p : ℕ) × (p % cap ≡ i) × (h ≤ p) × (p < h + cap)
in_lap cap h i lt =
    let whole = div-add-mod h cap in
    elim (below_or_not i (h % cap)) [
      | inl less ↦ (h - h % cap + cap + i, next-slot h cap i lt, omega arith, omega arith)
      | inr more ↦ (h - h % cap + i, first-slot h cap i lt, omega arith, omega arith)
    ]

-- a tail is that of its position and its mark
both_of : (t : ℕ) → t ≡ tail_of (position_of t) (is_shut t)
both_of t = elim (eqb_tells (t % 2) 1) [ inl e ↦ (let odd = e.1 in rw e.0 (omega arith)) | inr e ↦ (let even = e.1 in rw e.0 (omega arith)) ]

module _ {T : Type 0} where
  -- the list is as long as there are positions, where each of them is filled
  pub length-items_of : (n p k : ℕ) (slots : List (Option T)) → ((q : ℕ) → p ≤ q → q < p + k → (v : T) × (at_position n slots q ≡ Some v)) → length (items_of n slots p k) ≡ k
  length-items_of n p zero slots all = refl
  length-items_of n p (suc k) slots all =
      let here = all p (omega arith) (omega arith) in
      rw here.1 (ap suc (length-items_of n (p + 1) k slots (λ q low high. all q (omega arith) (omega arith))))

  -- and each item is at its place
  item_of : (n p k j q : ℕ) (slots : List (Option T)) → q ≡ p + j → j < k → ((q : ℕ) → p ≤ q → q < p + k → (v : T) × (at_position n slots q ≡ Some v)) → slice_get (items_of n slots p k) j ≡ at_position n slots q
  item_of n p zero j q slots at lt all = absurd (omega arith)
  item_of n p (suc k) zero q slots at lt all =
      let here = all p (omega arith) (omega arith) in
      let same : p ≡ q = omega arith in
      subst (λ m. slice_get (items_of n slots p (suc k)) 0 ≡ at_position n slots m) same (rw here.1 refl)
  item_of n p (suc k) (suc j) q slots at lt all =
      let here = all p (omega arith) (omega arith) in
      let behind = item_of n (p + 1) k j q slots (omega arith) (omega arith) (λ m low high. all m (omega arith) (omega arith)) in
      rw here.1 behind

  -- its words and slots as values of their own
  abbrev pub part : RingState T → Shared T
  part r = record { head = r.head; tail = r.tail; stamps = r.stamps; slots = r.slots }

  -- what a slot is for
  abbrev pub cell_by : ℕ → Option T → Cell T
  cell_by n None = Free n
  cell_by n (Some x) = Full (n - 1) x

  abbrev pub ring_of : RingState T → Ring T
  ring_of r = record { head = r.head; tail = position_of r.tail; closed = is_shut r.tail; items = (ring_queue r).items; coming = None; cells = λ i. cell_by (stamp_at r i) (item_at r i) }

  none_owns : (n : ℕ) (o : Option T) (who : ℕ) → owner (cell_by n o) ≡ Some who → ⊥
  none_owns n None who e = cc
  none_owns n (Some x) who e = cc

  pub nobody_holds : (r : RingState T) → NobodyHolds (ring_of r)
  nobody_holds r who k e = none_owns (stamp_at r k) (item_at r k) who e

  full_cell : (p : ℕ) (x : T) → cell_by (p + 1) (Some x) ≡ Full p x
  full_cell p x = let back : p + 1 - 1 ≡ p = omega arith in ap (λ q. Full q x) back

  item_stays : (n : ℕ) (o : Option T) → o ≡ item_in (cell_by n o)
  item_stays n None = refl
  item_stays n (Some x) = refl

  module _ (r : RingState T) (i : IsIdle r) where
    item_in_slot : (q : ℕ) → r.head ≤ q → q < r.head + (position_of r.tail - r.head) → (v : T) × (at_position r.cap r.slots q ≡ Some v)
    item_in_slot q low high = let o = i.holds.order in let f = i.holds.filled q low (omega arith) in (f.0, f.2)

    pub length-items : length (ring_queue r).items ≡ position_of r.tail - r.head
    length-items = length-items_of r.cap r.head (position_of r.tail - r.head) r.slots item_in_slot

    -- what is so of the slot of a position of the lap
    record IsSlot (k : ℕ) : Type 0 where
      ok : CellOk r.cap r.head (position_of r.tail) (ring_queue r).items None k ((ring_of r).cells k)
      stamp : stamp_at r k ≡ stamp_in ((ring_of r).cells k)

    is_slot : (p : ℕ) → r.head ≤ p → p < r.head + r.cap → IsSlot (p % r.cap)
    is_slot p low high = elim (below_or_not p (position_of r.tail)) [
      | inl before ↦
          let f = i.holds.filled p low before in
          let o = i.holds.order in
          let is : (ring_of r).cells (p % r.cap) ≡ Full p f.0 = (λ j. cell_by (f.1 j) (f.2 j)) ∙ full_cell p f.0 in
          let item : slice_get (ring_queue r).items (p - r.head) ≡ Some f.0 = item_of r.cap r.head (position_of r.tail - r.head) (p - r.head) p r.slots (omega arith) (omega arith) item_in_slot ∙ f.2 in
          record {
            ok = subst (λ c. CellOk r.cap r.head (position_of r.tail) (ring_queue r).items None (p % r.cap) c) (sym is) (refl, low, before, item);
            stamp = f.1 ∙ sym (ap stamp_in is);
          }
      | inr behind ↦
          let f = i.holds.free p behind high in
          let is : (ring_of r).cells (p % r.cap) ≡ Free p = λ j. cell_by (f.0 j) (f.1 j) in
          record {
            ok = subst (λ c. CellOk r.cap r.head (position_of r.tail) (ring_queue r).items None (p % r.cap) c) (sym is) (refl, behind, high);
            stamp = f.0 ∙ sym (ap stamp_in is);
          }
    ]

    slot_is : (k : ℕ) → k < r.cap → IsSlot k
    slot_is k lt = let p = in_lap r.cap r.head k lt in subst IsSlot p.1 (is_slot p.0 p.2 p.3)

    pub party_ok : RingOk r.cap (ring_of r)
    party_ok = record {
      ring = i.ring;
      count = let long = length-items in let o = i.holds.order in omega arith;
      room = i.holds.within;
      most = i.below;
      cell = λ k lt. (slot_is k lt).ok;
      comes = λ v e. cc;
    }

    pub party_codes : Codes r.cap (ring_of r) (part r)
    party_codes = record {
      head = refl;
      tail = both_of r.tail;
      stamped = i.holds.stamped;
      slotted = i.holds.slotted;
      stamp = λ k lt. (slot_is k lt).stamp;
      slot = λ k lt. item_stays (stamp_at r k) (item_at r k);
    }
