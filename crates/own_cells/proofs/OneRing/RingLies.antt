-- A ring that lies in the words and slots of a table: what is read there, and what a write leaves.
use Rattle.std.proofs.Common.{◌≡◌, ℕ, ◌<◌, List, length, get_or, set, Option, ap, sym, ◌∙◌, arith}
use mathlib.Core.Option.{some}
use lib.ListN.{get_elem?}
use Rattle.own_cells.specs.{OneRing.RingCells.RingState, OneRing.RingCells.stamp_at, OneRing.RingCells.item_at, OneRing.RingMemory.ring_in, OneRing.RingWords.stamp_word, OneRing.RingWords.words_of, declared.ring.ring_words.TheConstants.TAIL, declared.ring.ring_words.TheConstants.HEAD}
use Rattle.own_cells.proofs.OneRing.RingWrites.{elem_or, stamps_count, stamp_or, item_or, head_set, tail_set, stamp_set, word_in}

module _ {T : Type 0} (cap : ℕ) (ws : List ℕ) (xs : List (Option T)) {words slots : ℕ} (ws_counted : words ≡ length ws) (xs_counted : slots ≡ length xs) (sized : (words ≡ words_of cap) × (slots ≡ cap)) {s : RingState T} (is : ring_in cap ws xs ≡ s) where
  words_long : length ws ≡ words_of cap
  words_long = sym ws_counted ∙ sized.0

  slots_long : length xs ≡ cap
  slots_long = sym xs_counted ∙ sized.1

  pub stamp_low : (i : ℕ) → i < length s.stamps → i < cap
  stamp_low i lt = omega (arith, lt, ap (λ (z : RingState T). length z.stamps) is, stamps_count cap ws xs words_long slots_long)

  pub slot_low : (i : ℕ) → i < length s.slots → i < cap
  slot_low i lt = omega (arith, lt, ap (λ (z : RingState T). length z.slots) is, slots_long)

  pub head_read : (x : ℕ) → get_elem? ws HEAD ≡ some x → x ≡ s.head
  head_read x there = sym (elem_or 0 ws HEAD x there) ∙ ap (λ (z : RingState T). z.head) is

  pub tail_read : (x : ℕ) → get_elem? ws TAIL ≡ some x → x ≡ s.tail
  tail_read x there = sym (elem_or 0 ws TAIL x there) ∙ ap (λ (z : RingState T). z.tail) is

  -- the table has the word of the stamp
  pub stamp_there : (i : ℕ) → i < length s.stamps → stamp_word i < words
  stamp_there i lt = let low = word_in cap i (stamp_low i lt) in omega (arith, low, sized.0)

  pub stamp_read : (i x : ℕ) → i < length s.stamps → get_elem? ws (stamp_word i) ≡ some x → x ≡ stamp_at s i
  stamp_read i x lt there = stamp_or cap ws xs words_long slots_long i x (stamp_low i lt) there ∙ ap (λ (z : RingState T). stamp_at z i) is

  pub item_read : (i : ℕ) (d : Option T) → i < length s.slots → get_or xs i d ≡ item_at s i
  item_read i d lt = item_or cap ws xs words_long slots_long i d (slot_low i lt) ∙ ap (λ (z : RingState T). item_at z i) is

  pub head_written : (x : ℕ) → ring_in cap (set ws HEAD x) xs ≡ record s { head = x }
  head_written x = head_set cap ws xs words_long slots_long x ∙ ap (λ (z : RingState T). record z { head = x }) is

  pub tail_written : (x : ℕ) → ring_in cap (set ws TAIL x) xs ≡ record s { tail = x }
  tail_written x = tail_set cap ws xs words_long slots_long x ∙ ap (λ (z : RingState T). record z { tail = x }) is

  pub stamp_written : (i x : ℕ) → i < length s.stamps → ring_in cap (set ws (stamp_word i) x) xs ≡ record s { stamps = set s.stamps i x }
  stamp_written i x lt = stamp_set cap ws xs words_long slots_long i x (stamp_low i lt) ∙ ap (λ (z : RingState T). record z { stamps = set z.stamps i x }) is

  pub item_written : (i : ℕ) (v : Option T) → ring_in cap ws (set xs i v) ≡ record s { slots = set s.slots i v }
  item_written i v = ap (λ (z : RingState T). record z { slots = set z.slots i v }) is
