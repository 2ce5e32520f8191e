-- A ring of which nobody has a slot: nothing is coming, and each slot is full or free, by its position.
use Rattle.std.proofs.Common.{ℕ, ◌+◌, ◌-◌, ◌%◌, ◌<◌, ◌≤◌, ◌≡◌, ◌∙◌, ◌⊎◌, inl, inr, Some, None, refl, sym, ap, arith, get_or, slice_get}
use Rattle.queue_laws.proofs.{Common.Tests.none_if, Ring.RingCells.together, Ring.RingTransitions.in_ring}
use Rattle.queue_steps.specs.Words.{stamp_free, stamp_filled}
use Rattle.queue_laws.specs.Ring.{RingShared.Shared, RingWords.Codes, RingWords.stamp_in, RingWords.item_in}
use Rattle.queue_laws.specs.Ring.RingCells.{Cell, Free, Written, Full, Read, Coming, Swapped, Ring, CellOk, RingOk, owner, HoldsNone}

-- nobody has a slot
abbrev pub NobodyHolds : {A : Type 0} → Ring A → Type 0
NobodyHolds r = (who : ℕ) → HoldsNone r.cells who

-- what is coming has its slot, which is somebody's
pub nothing_comes : {A : Type 0} (cap : ℕ) (r : Ring A) → RingOk cap r → NobodyHolds r → r.coming ≡ None
nothing_comes cap r ok none = none_if r.coming (λ v e. let c = ok.comes v e in none c.1 (c.0 % cap) (ap owner c.4))

-- positions of one slot within a lap from h on are one
pub same_position : (cap h p q : ℕ) → 0 < cap → p % cap ≡ q % cap → h ≤ p → p < h + cap → h ≤ q → q < h + cap → p ≡ q
same_position cap h p q some same low high low' high' = go (cases p q)
  where
    cases : (p q : ℕ) → (p ≤ q) ⊎ (q ≤ p)
    cases p q = grind arith

    go : (p ≤ q) ⊎ (q ≤ p) → p ≡ q
    go (inl le) = together cap p q some same le (omega arith)
    go (inr le) = sym (together cap q p some (sym same) le (omega arith))

-- the slot of a position before the tail is full, with the item of that position
pub is_filled : {A : Type 0} (cap : ℕ) (r : Ring A) → RingOk cap r → NobodyHolds r → (p : ℕ) → r.head ≤ p → p < r.tail → (x : A) × (r.cells (p % cap) ≡ Full p x) × (slice_get r.items (p - r.head) ≡ Some x)
is_filled {A} cap r ok none p low high = go (r.cells (p % cap)) refl (ok.cell (p % cap) (in_ring cap p ok.ring))
  where
    go : (c : Cell A) → r.cells (p % cap) ≡ c → CellOk cap r.head r.tail r.items r.coming (p % cap) c → (x : A) × (r.cells (p % cap) ≡ Full p x) × (slice_get r.items (p - r.head) ≡ Some x)
    go (Free q) is h =
        let wide : 1 < cap = ok.ring.0 in let room = ok.room in let count = ok.count in let above = h.1 in let below = h.2 in
        let same : q ≡ p = same_position cap r.head q p (omega arith) h.0 (omega arith) (omega arith) low (omega arith) in
        absurd (omega arith)
    go (Full q x) is h =
        let wide : 1 < cap = ok.ring.0 in let room = ok.room in let above = h.1 in let below = h.2 in
        let same : q ≡ p = same_position cap r.head q p (omega arith) h.0 (omega arith) (omega arith) low (omega arith) in
        (x, is ∙ ap (λ n. Full n x) same, ap (λ n. slice_get r.items (n - r.head)) (sym same) ∙ h.3)
    go (Written q who v) is h = absurd (none who (p % cap) (ap owner is))
    go (Read q who v) is h = absurd (none who (p % cap) (ap owner is))
    go (Coming q who old v) is h = absurd (none who (p % cap) (ap owner is))
    go (Swapped q who old v) is h = absurd (none who (p % cap) (ap owner is))

-- the slot of another position of the lap is free for it
pub is_vacant : {A : Type 0} (cap : ℕ) (r : Ring A) → RingOk cap r → NobodyHolds r → (p : ℕ) → r.tail ≤ p → p < r.head + cap → r.cells (p % cap) ≡ Free p
is_vacant {A} cap r ok none p low high = go (r.cells (p % cap)) refl (ok.cell (p % cap) (in_ring cap p ok.ring))
  where
    go : (c : Cell A) → r.cells (p % cap) ≡ c → CellOk cap r.head r.tail r.items r.coming (p % cap) c → r.cells (p % cap) ≡ Free p
    go (Free q) is h =
        let wide : 1 < cap = ok.ring.0 in let count = ok.count in let above = h.1 in let below = h.2 in
        let same : q ≡ p = same_position cap r.head q p (omega arith) h.0 (omega arith) (omega arith) (omega arith) (omega arith) in
        is ∙ ap (λ n. Free n) same
    go (Full q x) is h =
        let wide : 1 < cap = ok.ring.0 in let room = ok.room in let count = ok.count in let above = h.1 in let below = h.2 in
        let same : q ≡ p = same_position cap r.head q p (omega arith) h.0 (omega arith) (omega arith) (omega arith) (omega arith) in
        absurd (omega arith)
    go (Written q who v) is h = absurd (none who (p % cap) (ap owner is))
    go (Read q who v) is h = absurd (none who (p % cap) (ap owner is))
    go (Coming q who old v) is h = absurd (none who (p % cap) (ap owner is))
    go (Swapped q who old v) is h = absurd (none who (p % cap) (ap owner is))

-- The words and slots of such a ring are those of one between calls: the stamp of a position is that of a filled slot with its item, or that of a free one
pub record AtRest {A : Type 0} (cap : ℕ) (r : Ring A) (s : Shared A) : Type 0 where
  pub none_coming : r.coming ≡ None
  pub filled : (p : ℕ) → r.head ≤ p → p < r.tail → (x : A) × (get_or s.stamps (p % cap) 0 ≡ stamp_filled p) × (get_or s.slots (p % cap) None ≡ Some x) × (slice_get r.items (p - r.head) ≡ Some x)
  pub free : (p : ℕ) → r.tail ≤ p → p < r.head + cap → (get_or s.stamps (p % cap) 0 ≡ stamp_free p) × (get_or s.slots (p % cap) None ≡ None)

pub at_rest : {A : Type 0} (cap : ℕ) (r : Ring A) (s : Shared A) → RingOk cap r → Codes cap r s → NobodyHolds r → AtRest cap r s
at_rest cap r s ok codes none = record {
  none_coming = nothing_comes cap r ok none;
  filled = λ p low high.
      let f = is_filled cap r ok none p low high in let i = in_ring cap p ok.ring in
      (f.0, codes.stamp (p % cap) i ∙ ap stamp_in f.1, codes.slot (p % cap) i ∙ ap item_in f.1, f.2);
  free = λ p low high.
      let f = is_vacant cap r ok none p low high in let i = in_ring cap p ok.ring in
      (codes.stamp (p % cap) i ∙ ap stamp_in f, codes.slot (p % cap) i ∙ ap item_in f);
}
