-- Steps of the loops that copy a list.
use Rattle.std.proofs.Common.{◌≡◌, ℕ, ◌+◌, ◌<◌, ◌≤◌, List, [], ◌∷◌, ◌++◌, length, take, get_or, ap, sym, ◌∙◌, arith}
use Rattle.std.proofs.lemmas.List.{take_more, take_all}

-- there is room for one more than the loop fills in
pub room_beyond : (len cap at end count : ℕ) → end ≡ count → len ≡ at → cap ≡ count + 1 → at ≤ end → len + 1 ≤ cap
room_beyond len cap at end count counted is most le = omega arith

pub room_within : (len cap at end count : ℕ) → end ≡ count → len ≡ at → cap ≡ count + 1 → at < end → len < cap
room_within len cap at end count counted is most lt = omega arith

module _ {A : Type 0} (xs : List A) where
  pub copied_more : (old new : List A) (end count n : ℕ) (a d : A) → end ≡ count → count ≡ length xs → n < end → a ≡ get_or xs n d → new ≡ old ++ a ∷ [] → old ≡ take n xs → new ≡ take (n + 1) xs
  copied_more old new end count n a d ends counted lt is more before =
      more ∙ (ap (λ ys. ys ++ a ∷ []) before ∙ (ap (λ b. take n xs ++ b ∷ []) is ∙ sym (take_more xs n d (omega (arith, ends, counted, lt)))))

  pub all_taken : (end count n : ℕ) → end ≡ count → count ≡ length xs → end ≤ n → take n xs ≡ xs
  all_taken end count n ends counted over = take_all n xs (omega (arith, ends, counted, over))
