-- What a stamp tells of its slot, and how the words follow a change of one slot.
use Rattle.std.proofs.Common.{ℕ, ◌+◌, ◌%◌, ◌<◌, ◌≤◌, ◌≡◌, ◌∙◌, ◌⊎◌, inl, inr, Option, None, refl, sym, ap, arith, get_or, set, get_or-set_same, get_or-set_other}
use Rattle.std.proofs.lemmas.{List.length-set, Bool.Decides.eqb_tells}
use Rattle.queue_steps.specs.Words.{IsWord, tail_of}
use Rattle.queue_laws.specs.{Common.Puts.put, Ring.RingShared.Shared, Ring.RingTransitions.written, Ring.RingAt.FreeAt, Ring.RingAt.FullAt, Ring.RingWords.Codes, Ring.RingWords.stamp_in, Ring.RingWords.item_in}
use Rattle.queue_laws.proofs.{Common.Puts.put_ok, Ring.RingCells.wraps, Ring.RingCells.together, Ring.RingTransitions.in_ring, Ring.RingIdle.NobodyHolds, Ring.RingIdle.is_filled, Ring.RingIdle.is_vacant, Ring.RingStepOk.IsQuiet}
use Rattle.queue_laws.proofs.Ring.RingWords.{IsFreeCell, is_free, is_written, IsFullCell, is_full, is_swapped, stamp_is_free, stamp_is_full}
use Rattle.queue_laws.specs.Ring.RingCells.{Cell, Free, Written, Full, Read, Coming, Ring, CellOk, RingOk, HoldsNone}

-- a slot with the stamp q, of a position that the tail has reached, is free for it, or the tail has moved on
pub stamp_free_at : {A : Type 0} (cap : ℕ) (r : Ring A) (q : ℕ) → RingOk cap r → q ≤ r.tail → stamp_in (r.cells (q % cap)) ≡ q → FreeAt cap r q
stamp_free_at {A} cap r q ok low e = (low, go (r.cells (q % cap)) refl (ok.cell (q % cap) (in_ring cap q ok.ring)) (stamp_is_free cap r q ok e))
  where
    go : (c : Cell A) → r.cells (q % cap) ≡ c → CellOk cap r.head r.tail r.items r.coming (q % cap) c → IsFreeCell q c → (q < r.tail) ⊎ (r.cells (q % cap) ≡ Free q)
    go c is okc (is_free p) = inr is
    go c is okc (is_written p who v) = inl okc.2

-- a slot with the stamp of the position h, filled, is full for it, or the head has moved on
pub stamp_full_at : {A : Type 0} (cap : ℕ) (r : Ring A) (h : ℕ) → RingOk cap r → stamp_in (r.cells (h % cap)) ≡ h + 1 → FullAt cap r h
stamp_full_at {A} cap r h ok e =
    go (r.cells (h % cap)) refl (ok.cell (h % cap) (in_ring cap h ok.ring)) (stamp_is_full cap r (h % cap) h ok (in_ring cap h ok.ring) refl e)
  where
    go : (c : Cell A) → r.cells (h % cap) ≡ c → CellOk cap r.head r.tail r.items r.coming (h % cap) c → IsFullCell h c → FullAt cap r h
    go c is okc (is_full p x) = inr (x, is)
    go c is okc (is_swapped p who old v) = inl (let room = ok.room in let lt = okc.2 in omega arith)
    go c is okc x = inl okc.1

-- every stamp leaves room in its word
pub stamp_small : {A : Type 0} (cap : ℕ) (r : Ring A) (i : ℕ) → RingOk cap r → i < cap → IsWord (stamp_in (r.cells i))
stamp_small {A} cap r i ok lt = go (r.cells i) (ok.cell i lt)
  where
    go : (c : Cell A) → CellOk cap r.head r.tail r.items r.coming i c → IsWord (stamp_in c)
    go (Free p) h = let a = ok.count in let b = ok.most in let c = ok.ring.1 in let d = h.2 in omega arith
    go (Read p who x) h = let a = ok.count in let b = ok.most in let d = h.1 in omega arith
    go (Coming p who old v) h = let a = ok.count in let b = ok.most in let d = h.1 in omega arith
    go c h = let b = ok.most in let d = h.2 in omega arith

-- a stamp of the lap before is one of a position
pub stamp_lapped : {A : Type 0} (cap : ℕ) (r : Ring A) (q : ℕ) → RingOk cap r → stamp_in (r.cells (q % cap)) + cap ≡ q + 1 → cap ≤ q
stamp_lapped {A} cap r q ok e = go (r.cells (q % cap)) (ok.cell (q % cap) (in_ring cap q ok.ring)) e
  where
    first : (p : ℕ) → p % cap ≡ q % cap → p + cap ≡ q + 1 → cap ≤ q
    first p same e =
        let wide : 1 < cap = ok.ring.0 in
        let same_slot : (q + 1) % cap ≡ q % cap = ap (λ n. n % cap) (sym e) ∙ (wraps p cap ∙ same) in
        let f : q ≡ q + 1 = together cap q (q + 1) (omega arith) (sym same_slot) (omega arith) (omega arith) in
        absurd (omega arith)

    go : (c : Cell A) → CellOk cap r.head r.tail r.items r.coming (q % cap) c → stamp_in c + cap ≡ q + 1 → cap ≤ q
    go (Free p) h e = first p h.0 e
    go (Written p who v) h e = first p h.0 e
    go c h e = omega arith

-- nobody holds a slot, where no other party does and this one does not
pub nobody : {A : Type 0} (r : Ring A) (who : ℕ) → HoldsNone r.cells who → IsQuiet r who → (other : ℕ) → HoldsNone r.cells other
nobody r who none quiet other = elim (eqb_tells other who) [ inl t ↦ rw t.1 none | inr f ↦ quiet other f.1 ]

-- where nobody holds a slot, that of the tail is free for it, or the ring is full
pub tail_slot : {A : Type 0} (cap : ℕ) (r : Ring A) → RingOk cap r → NobodyHolds r
    → (r.cells (r.tail % cap) ≡ Free r.tail) ⊎ ((r.head + cap ≡ r.tail) × ((x : A) × (r.cells (r.tail % cap) ≡ Full r.head x)))
tail_slot {A} cap r ok none = go (cases r.tail (r.head + cap) ok.room)
  where
    cases : (t n : ℕ) → t ≤ n → (t < n) ⊎ (n ≡ t)
    cases t n le = grind arith

    go : (r.tail < r.head + cap) ⊎ (r.head + cap ≡ r.tail) → (r.cells (r.tail % cap) ≡ Free r.tail) ⊎ ((r.head + cap ≡ r.tail) × ((x : A) × (r.cells (r.tail % cap) ≡ Full r.head x)))
    go (inl room) = inl (is_vacant cap r ok none r.tail (omega arith) room)
    go (inr full) =
        let wide : 1 < cap = ok.ring.0 in
        let f = is_filled cap r ok none r.head (omega arith) (omega arith) in
        inr (full, (f.0, ap (λ n. r.cells (n % cap)) (sym full) ∙ (ap r.cells (wraps r.head cap) ∙ f.1)))

-- where nobody holds a slot, that of the head is full for it, or the ring is empty
pub head_slot : {A : Type 0} (cap : ℕ) (r : Ring A) → RingOk cap r → NobodyHolds r
    → (r.tail ≡ r.head) × (r.cells (r.head % cap) ≡ Free r.head) ⊎ ((x : A) × (r.cells (r.head % cap) ≡ Full r.head x))
head_slot {A} cap r ok none = go (cases r.head r.tail (let count = ok.count in omega arith))
  where
    cases : (h t : ℕ) → h ≤ t → (h < t) ⊎ (t ≡ h)
    cases h t le = grind arith

    go : (r.head < r.tail) ⊎ (r.tail ≡ r.head) → (r.tail ≡ r.head) × (r.cells (r.head % cap) ≡ Free r.head) ⊎ ((x : A) × (r.cells (r.head % cap) ≡ Full r.head x))
    go (inl some) = let f = is_filled cap r ok none r.head (omega arith) some in inr (f.0, f.1)
    go (inr empty) = let wide : 1 < cap = ok.ring.0 in inl (empty, is_vacant cap r ok none r.head (omega arith) (omega arith))

-- a step on the head or the tail that claims a slot, or passes it on, leaves its stamp and what lies in it
pub codes_claim : {A : Type 0} (cap : ℕ) (r r' : Ring A) (s : Shared A) (head tail i : ℕ) (old new : Cell A)
    → Codes cap r s → r.cells i ≡ old → r'.cells ≡ put r.cells i new → stamp_in old ≡ stamp_in new → item_in old ≡ item_in new
    → head ≡ r'.head → tail ≡ tail_of r'.tail r'.closed → Codes cap r' (record s { head = head; tail = tail })
codes_claim cap r r' s head tail i old new codes is cells stamp item head_is tail_is = record {
  head = head_is;
  tail = tail_is;
  stamped = codes.stamped;
  slotted = codes.slotted;
  stamp = λ j lt. codes.stamp j lt ∙ rw cells (put_ok r.cells i j new (λ k c. j ≡ k → stamp_in (r.cells j) ≡ stamp_in c) (λ e. ap (λ n. stamp_in (r.cells n)) e ∙ (ap stamp_in is ∙ stamp)) (λ ne e. refl) refl);
  slot = λ j lt. codes.slot j lt ∙ rw cells (put_ok r.cells i j new (λ k c. j ≡ k → item_in (r.cells j) ≡ item_in c) (λ e. ap (λ n. item_in (r.cells n)) e ∙ (ap item_in is ∙ item)) (λ ne e. refl) refl);
}

-- a step that fills or empties a slot and stamps it
pub codes_store : {A : Type 0} (cap : ℕ) (r : Ring A) (s : Shared A) (i : ℕ) (new : Cell A) (stamp : ℕ) (item : Option A)
    → Codes cap r s → i < cap → stamp ≡ stamp_in new → item ≡ item_in new
    → Codes cap (written r i new) (record s { stamps = set s.stamps i stamp; slots = set s.slots i item })
codes_store {A} cap r s i new stamp item codes lt stamp_is item_is = record {
  head = codes.head;
  tail = codes.tail;
  stamped = length-set s.stamps i stamp ∙ codes.stamped;
  slotted = length-set s.slots i item ∙ codes.slotted;
  stamp = λ j l. put_ok r.cells i j new (λ k c. j ≡ k → get_or (set s.stamps i stamp) j 0 ≡ stamp_in c)
      (λ e. ap (λ n. get_or (set s.stamps i stamp) n 0) e ∙ (get_or-set_same s.stamps i stamp 0 (rw codes.stamped lt) ∙ stamp_is))
      (λ ne e. get_or-set_other s.stamps i j stamp 0 ne ∙ codes.stamp j l) refl;
  slot = λ j l. put_ok r.cells i j new (λ k c. j ≡ k → get_or (set s.slots i item) j None ≡ item_in c)
      (λ e. ap (λ n. get_or (set s.slots i item) n None) e ∙ (get_or-set_same s.slots i item None (rw codes.slotted lt) ∙ item_is))
      (λ ne e. get_or-set_other s.slots i j item None ne ∙ codes.slot j l) refl;
}
