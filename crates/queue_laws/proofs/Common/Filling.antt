-- Steps of the loops that fill a list, one by one.
use Rattle.std.proofs.Common.{◌≡◌, ℕ, ◌+◌, ◌<◌, ◌≤◌, List, [], ◌∷◌, ◌++◌, replicate, ap, ◌∙◌, arith}
use Rattle.std.proofs.lemmas.List.{replicate_more}

-- before its end the loop has room
pub room_left : (len cap at end : ℕ) → len ≡ at → cap ≡ end → at < end → len < cap
room_left len cap at end is most lt = omega arith

pub at_end : (at end : ℕ) → at ≤ end → end ≤ at → at ≡ end
at_end at end low high = omega arith

pub one_more : (new old at : ℕ) → new ≡ old + 1 → old ≡ at → new ≡ at + 1
one_more new old at more is = omega arith

pub replicated_more : {A : Type 0} (old new : List A) (n : ℕ) (a : A) → new ≡ old ++ a ∷ [] → old ≡ replicate n a → new ≡ replicate (n + 1) a
replicated_more old new n a more is = more ∙ (ap (λ xs. xs ++ a ∷ []) is ∙ replicate_more n a)
