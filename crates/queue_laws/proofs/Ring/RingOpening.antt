-- A ring at its beginning: every slot is free for the position of its own number.
use Rattle.std.proofs.Common.{ℕ, zero, suc, ◌<◌, ◌≡◌, ◌∙◌, ◌⊎◌, inl, inr, None, [], ◌∷◌, ◌++◌, length, refl, sym, ap, arith, get_or, length-append}
use Rattle.std.proofs.{lemmas.List.get_or-replicate, lemmas.List.length-replicate, Math.ListN.get_or-append, Math.Seq.get_or-append_seam, Math.Nat.mod-eq_of_lt}
use Rattle.queue_steps.specs.Words.{IsRing}
use Rattle.queue_laws.specs.Ring.{RingCells.RingOk, RingWords.Codes, RingOpening.numbers_below, RingOpening.opening_ring, RingOpening.opening_shared}

pub count_below : (n : ℕ) → length (numbers_below n) ≡ n
count_below zero = refl
count_below (suc n) = let e = count_below n in omega (arith, length-append (numbers_below n) (n ∷ []))

number_at : (n i : ℕ) → i < n → get_or (numbers_below n) i 0 ≡ i
number_at zero i lt = absurd (omega arith)
number_at (suc n) i lt = go (cases i n lt) (λ less. number_at n i less)
  where
    cases : (i n : ℕ) → i < suc n → (i < n) ⊎ (i ≡ n)
    cases i n lt = grind arith

    go : (i < n) ⊎ (i ≡ n) → (i < n → get_or (numbers_below n) i 0 ≡ i) → get_or (numbers_below n ++ n ∷ []) i 0 ≡ i
    go (inl less) below = let c = count_below n in get_or-append (numbers_below n) (n ∷ []) 0 i (omega arith) ∙ below less
    go (inr same) below =
        let at : i ≡ length (numbers_below n) = same ∙ sym (count_below n) in
        ap (λ k. get_or (numbers_below n ++ n ∷ []) k 0) at ∙ (get_or-append_seam (numbers_below n) n [] 0 ∙ sym same)

module _ (A : Type 0) (cap : ℕ) where
  pub opening_ok : IsRing cap → RingOk cap (opening_ring A)
  opening_ok ring = record { ring = ring; count = refl; room = omega arith; most = omega arith; cell = λ i lt. (mod-eq_of_lt lt, omega arith, omega arith); comes = λ v e. cc }

  pub opening_codes : Codes cap (opening_ring A) (opening_shared A cap)
  opening_codes = record {
    head = refl;
    tail = refl;
    stamped = count_below cap;
    slotted = length-replicate cap None;
    stamp = λ i lt. number_at cap i lt;
    slot = λ i lt. get_or-replicate cap i None None lt;
  }
