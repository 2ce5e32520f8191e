-- Writes to the words and slots of a ring with one owner in the memory of a table.
use Rattle.std.proofs.Common.{◌≡◌, ◌≢◌, ◌⊎◌, inl, inr, ℕ, zero, suc, ◌+◌, ◌-◌, ◌<◌, List, [], ◌∷◌, ◌++◌, length, get_or, set, Option, None, sym, ap, ◌∙◌, refl, arith, length-append}
use Rattle.std.proofs.lemmas.List.{get_or_default, get_or_append_left, get_or-append_right, get_or-set_same, get_or-set_other, set-append_left, set-append_right}
use mathlib.Core.Option.{some, some-injective, some-ne-none}
use lib.ListN.{get_elem?}
use Rattle.own_cells.specs.{OneRing.RingCells.stamp_at, OneRing.RingCells.item_at, OneRing.RingMemory.ring_in, OneRing.RingWords.stamp_word, OneRing.RingWords.words_of, OneRing.RingWords.stamps_in, declared.ring.ring_words.TheConstants.TAIL, declared.ring.ring_words.TheConstants.HEAD, declared.ring.ring_words.TheConstants.STAMPS}

-- an element that is there
pub elem_or : {A : Type 0} (d : A) (xs : List A) (i : ℕ) (x : A) → get_elem? xs i ≡ some x → get_or xs i d ≡ x
elem_or d [] i x is = absurd (some-ne-none x (sym is))
elem_or d (y ∷ xs) zero x is = some-injective y x is
elem_or d (y ∷ xs) (suc i) x is = elem_or d xs i x is

-- each slot's stamp has a word of its own, after the tail and the head
pub own_word : (i j : ℕ) → i ≢ j → stamp_word i ≢ stamp_word j
own_word i j ne e = ne (omega (arith, e))

pub word_after : (i j : ℕ) → j < STAMPS → stamp_word i ≢ j
word_after i j low e = omega (arith, low, e)

pub word_in : (cap i : ℕ) → i < cap → stamp_word i < words_of cap
word_in cap i lt = omega (arith, lt)

less_or_last : (k n : ℕ) → k < suc n → (k < n) ⊎ (k ≡ n)
less_or_last k n lt = grind arith

-- the stamps among a ring's words
pub stamps_long : (n : ℕ) (ws : List ℕ) → length (stamps_in n ws) ≡ n
stamps_long zero ws = refl
stamps_long (suc n) ws = let e = stamps_long n ws in omega (arith, length-append (stamps_in n ws) (get_or ws (stamp_word n) 0 ∷ []), e)

pub stamp_of : (n : ℕ) (ws : List ℕ) (k : ℕ) → k < n → get_or (stamps_in n ws) k 0 ≡ get_or ws (stamp_word k) 0
stamp_of zero ws k lt = absurd (omega arith)
stamp_of (suc n) ws k lt = go (less_or_last k n lt) (λ less. stamp_of n ws k less)
  where
    long : length (stamps_in n ws) ≡ n
    long = stamps_long n ws

    go : (k < n) ⊎ (k ≡ n) → (k < n → get_or (stamps_in n ws) k 0 ≡ get_or ws (stamp_word k) 0) → get_or (stamps_in n ws ++ get_or ws (stamp_word n) 0 ∷ []) k 0 ≡ get_or ws (stamp_word k) 0
    go (inl less) before = get_or_append_left (stamps_in n ws) _ 0 k (omega (arith, less, long)) ∙ before less
    go (inr last) before =
        let none : k - n ≡ 0 = omega arith in
        get_or-append_right (stamps_in n ws) (get_or ws (stamp_word n) 0 ∷ []) n k 0 long (omega arith) ∙ (ap (λ i. get_or (get_or ws (stamp_word n) 0 ∷ []) i 0) none ∙ ap (λ i. get_or ws (stamp_word i) 0) (sym last))

-- a write to another word leaves them
pub stamps_stay : (n : ℕ) (ws : List ℕ) (j x : ℕ) → ((k : ℕ) → k < n → stamp_word k ≢ j) → stamps_in n (set ws j x) ≡ stamps_in n ws
stamps_stay zero ws j x other = refl
stamps_stay (suc n) ws j x other = λ i. stamps_stay n ws j x (λ k lt. other k (omega arith)) i ++ get_or-set_other ws j (stamp_word n) x 0 (other n (omega arith)) i ∷ []

-- a stamp is written
pub stamps_set : (n : ℕ) (ws : List ℕ) (k x : ℕ) → k < n → stamp_word k < length ws → stamps_in n (set ws (stamp_word k) x) ≡ set (stamps_in n ws) k x
stamps_set zero ws k x lt low = absurd (omega arith)
stamps_set (suc n) ws k x lt low = go (less_or_last k n lt) (λ less. stamps_set n ws k x less low)
  where
    long : length (stamps_in n ws) ≡ n
    long = stamps_long n ws

    go : (k < n) ⊎ (k ≡ n) → (k < n → stamps_in n (set ws (stamp_word k) x) ≡ set (stamps_in n ws) k x) → stamps_in n (set ws (stamp_word k) x) ++ get_or (set ws (stamp_word k) x) (stamp_word n) 0 ∷ [] ≡ set (stamps_in n ws ++ get_or ws (stamp_word n) 0 ∷ []) k x
    go (inl less) before =
        (λ i. before less i ++ get_or-set_other ws (stamp_word k) (stamp_word n) x 0 (own_word n k (λ e. omega arith)) i ∷ [])
        ∙ sym (set-append_left (stamps_in n ws) (get_or ws (stamp_word n) 0 ∷ []) k x (omega (arith, less, long)))
    go (inr last) before =
        let none : k - n ≡ 0 = omega arith in
        (λ i. stamps_stay n ws (stamp_word k) x (λ j less. own_word j k (λ e. omega arith)) i ++ (ap (λ j. get_or (set ws (stamp_word k) x) (stamp_word j) 0) (sym last) ∙ get_or-set_same ws (stamp_word k) x 0 low) i ∷ [])
        ∙ sym (set-append_right (stamps_in n ws) (get_or ws (stamp_word n) 0 ∷ []) n k x long (omega arith) ∙ ap (λ i. stamps_in n ws ++ set (get_or ws (stamp_word n) 0 ∷ []) i x) none)

-- the next stamp is written
pub stamps_more : (n : ℕ) (ws : List ℕ) (x : ℕ) → stamp_word n < length ws → stamps_in (n + 1) (set ws (stamp_word n) x) ≡ stamps_in n ws ++ x ∷ []
stamps_more n ws x low =
    let next : n + 1 ≡ suc n = omega arith in
    ap (λ k. stamps_in k (set ws (stamp_word n) x)) next
    ∙ (λ i. stamps_stay n ws (stamp_word n) x (λ k less. own_word k n (λ e. omega arith)) i ++ get_or-set_same ws (stamp_word n) x 0 low i ∷ [])

module _ {T : Type 0} (cap : ℕ) (ws : List ℕ) (xs : List (Option T)) (long : length ws ≡ words_of cap) (slots : length xs ≡ cap) where
  -- there are as many stamps as the capacity
  pub stamps_count : length (stamps_in cap ws) ≡ cap
  stamps_count = stamps_long cap ws

  pub stamp_or : (i x : ℕ) → i < cap → get_elem? ws (stamp_word i) ≡ some x → x ≡ stamp_at (ring_in cap ws xs) i
  stamp_or i x lt is = sym (elem_or 0 ws (stamp_word i) x is) ∙ sym (stamp_of cap ws i lt)

  pub item_or : (i : ℕ) (d : Option T) → i < cap → get_or xs i d ≡ item_at (ring_in cap ws xs) i
  item_or i d lt = get_or_default xs i d None (omega (arith, slots))

  pub head_set : (x : ℕ) → ring_in cap (set ws HEAD x) xs ≡ record (ring_in cap ws xs) { head = x }
  head_set x =
      let head = get_or-set_same ws HEAD x 0 (omega (arith, long)) in
      let tail = get_or-set_other ws HEAD TAIL x 0 (λ e. omega arith) in
      let stamps = stamps_stay cap ws HEAD x (λ k lt. word_after k HEAD (omega arith)) in
      λ j. record { cap = cap; head = head j; tail = tail j; stamps = stamps j; slots = xs }

  pub tail_set : (x : ℕ) → ring_in cap (set ws TAIL x) xs ≡ record (ring_in cap ws xs) { tail = x }
  tail_set x =
      let tail = get_or-set_same ws TAIL x 0 (omega (arith, long)) in
      let head = get_or-set_other ws TAIL HEAD x 0 (λ e. omega arith) in
      let stamps = stamps_stay cap ws TAIL x (λ k lt. word_after k TAIL (omega arith)) in
      λ j. record { cap = cap; head = head j; tail = tail j; stamps = stamps j; slots = xs }

  pub stamp_set : (i x : ℕ) → i < cap → ring_in cap (set ws (stamp_word i) x) xs ≡ record (ring_in cap ws xs) { stamps = set (stamps_in cap ws) i x }
  stamp_set i x lt =
      let below = word_in cap i lt in
      let head = get_or-set_other ws (stamp_word i) HEAD x 0 (λ e. word_after i HEAD (omega arith) (sym e)) in
      let tail = get_or-set_other ws (stamp_word i) TAIL x 0 (λ e. word_after i TAIL (omega arith) (sym e)) in
      let stamps = stamps_set cap ws i x lt (omega (arith, below, long)) in
      λ j. record { cap = cap; head = head j; tail = tail j; stamps = stamps j; slots = xs }
