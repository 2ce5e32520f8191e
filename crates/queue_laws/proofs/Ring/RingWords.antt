-- What reading the words of a ring tells.
use Rattle.std.proofs.Common.{ℕ, ◌+◌, ◌%◌, ◌<◌, ◌≤◌, ◌≡◌, ◌∙◌, ◌⊎◌, inl, inr, Option, List, refl, sym, ap, arith}
use Rattle.queue_laws.specs.{Common.Vocabulary.LIMIT, Ring.RingWords.stamp_in}
use Rattle.queue_steps.specs.Words.{IsWord, position_of}
use Rattle.queue_laws.specs.Ring.RingCells.{Cell, Free, Written, Full, Read, Coming, Swapped, Ring, CellOk, RingOk}
use Rattle.queue_laws.proofs.Ring.{RingCells.together, RingTransitions.in_ring}

-- every word of a ring leaves room
pub word_small : (t : ℕ) → position_of t ≤ LIMIT → IsWord t
word_small t low = omega arith

pub head_small : {A : Type 0} (cap : ℕ) (r : Ring A) (h : ℕ) → RingOk cap r → h ≤ r.head → IsWord h
head_small cap r h ok low = let a = ok.count in let b = ok.most in omega arith

-- two stamps of a slot of the ring: that of a position that is free, and that of one that is filled
pub data IsFreeCell {A : Type 0} : ℕ → Cell A → Type 0 where
  is_free : (q : ℕ) → IsFreeCell q (Free q)
  is_written : (q who : ℕ) (v : A) → IsFreeCell q (Written q who v)

pub data IsFullCell {A : Type 0} : ℕ → Cell A → Type 0 where
  is_full : (q : ℕ) (x : A) → IsFullCell q (Full q x)
  is_read : (q who : ℕ) (x : A) → IsFullCell q (Read q who x)
  is_coming : (q who : ℕ) (old v : A) → IsFullCell q (Coming q who old v)
  is_swapped : (q who : ℕ) (old v : A) → IsFullCell q (Swapped q who old v)

-- what a slot is for, by its position
pub kinds : {A : Type 0} (c : Cell A) → ((q : ℕ) × IsFreeCell q c) ⊎ ((q : ℕ) × IsFullCell q c)
kinds (Free q) = inl (q, is_free q)
kinds (Written q who v) = inl (q, is_written q who v)
kinds (Full q x) = inr (q, is_full q x)
kinds (Read q who x) = inr (q, is_read q who x)
kinds (Coming q who old v) = inr (q, is_coming q who old v)
kinds (Swapped q who old v) = inr (q, is_swapped q who old v)

stamp_free_is : {A : Type 0} {q : ℕ} {c : Cell A} → IsFreeCell q c → stamp_in c ≡ q
stamp_free_is (is_free q) = refl
stamp_free_is (is_written q who v) = refl

stamp_full_is : {A : Type 0} {q : ℕ} {c : Cell A} → IsFullCell q c → stamp_in c ≡ q + 1
stamp_full_is (is_full q x) = refl
stamp_full_is x = refl

in_slot_free : {A : Type 0} {q : ℕ} {c : Cell A} (cap head tail : ℕ) (items : List A) (coming : Option A) (i : ℕ) → IsFreeCell q c → CellOk cap head tail items coming i c → q % cap ≡ i
in_slot_free cap head tail items coming i (is_free q) ok = ok.0
in_slot_free cap head tail items coming i (is_written q who v) ok = ok.0

in_slot_full : {A : Type 0} {q : ℕ} {c : Cell A} (cap head tail : ℕ) (items : List A) (coming : Option A) (i : ℕ) → IsFullCell q c → CellOk cap head tail items coming i c → q % cap ≡ i
in_slot_full cap head tail items coming i (is_full q x) ok = ok.0
in_slot_full cap head tail items coming i x ok = ok.0

-- neighbouring positions have slots of their own
neighbours : (cap p : ℕ) → 1 < cap → (p + 1) % cap ≡ p % cap → ⊥
neighbours cap p wide e = let f : p ≡ p + 1 = together cap p (p + 1) (omega arith) (sym e) (omega arith) (omega arith) in absurd (omega arith)

-- a slot of the position q with the stamp q is free for q, or claimed by a push that is to fill it for q
pub stamp_is_free : {A : Type 0} (cap : ℕ) (r : Ring A) (q : ℕ) → RingOk cap r → stamp_in (r.cells (q % cap)) ≡ q → IsFreeCell q (r.cells (q % cap))
stamp_is_free {A} cap r q ok e = go (r.cells (q % cap)) (ok.cell (q % cap) (in_ring cap q ok.ring)) e (kinds (r.cells (q % cap)))
  where
    go : (c : Cell A) → CellOk cap r.head r.tail r.items r.coming (q % cap) c → stamp_in c ≡ q → ((p : ℕ) × IsFreeCell p c) ⊎ ((p : ℕ) × IsFullCell p c) → IsFreeCell q c
    go c okc e (inl (p, free)) = let f : p ≡ q = sym (stamp_free_is free) ∙ e in rw f at free
    go c okc e (inr (p, full)) =
        let f : p + 1 ≡ q = sym (stamp_full_is full) ∙ e in
        let wide : 1 < cap = ok.ring.0 in
        absurd (neighbours cap p wide (ap (λ n. n % cap) f ∙ sym (in_slot_full cap r.head r.tail r.items r.coming (q % cap) full okc)))

-- a slot with the stamp of the filled position q of its own, or of a lap before, was filled for it
pub stamp_is_full : {A : Type 0} (cap : ℕ) (r : Ring A) (i q : ℕ) → RingOk cap r → i < cap → q % cap ≡ i → stamp_in (r.cells i) ≡ q + 1 → IsFullCell q (r.cells i)
stamp_is_full {A} cap r i q ok lt slot e = go (r.cells i) (ok.cell i lt) e (kinds (r.cells i))
  where
    go : (c : Cell A) → CellOk cap r.head r.tail r.items r.coming i c → stamp_in c ≡ q + 1 → ((p : ℕ) × IsFreeCell p c) ⊎ ((p : ℕ) × IsFullCell p c) → IsFullCell q c
    go c okc e (inl (p, free)) =
        let f : p ≡ q + 1 = sym (stamp_free_is free) ∙ e in
        let wide : 1 < cap = ok.ring.0 in
        absurd (neighbours cap q wide (sym (ap (λ n. n % cap) f) ∙ (in_slot_free cap r.head r.tail r.items r.coming i free okc ∙ sym slot)))
    go c okc e (inr (p, full)) = let f : p ≡ q = let g : p + 1 ≡ q + 1 = sym (stamp_full_is full) ∙ e in omega arith in rw f at full
