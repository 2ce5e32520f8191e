-- The list of a queue that is appended to and taken from.
use Rattle.std.proofs.Common.{ℕ, zero, suc, ◌+◌, ◌-◌, ◌<◌, ◌≡◌, Some, List, [], ◌∷◌, ◌++◌, length, refl, arith, slice_get}
use Rattle.queue_steps.specs.Effect.{rest}

-- an item stays where it is when another is appended
pub front_stays : {X : Type 0} (xs : List X) (y : X) (k : ℕ) (v : X) → slice_get xs k ≡ Some v → slice_get (xs ++ y ∷ []) k ≡ Some v
front_stays [] y k v e = cc
front_stays (x ∷ xs) y zero v e = e
front_stays (x ∷ xs) y (suc k) v e = front_stays xs y k v e

pub last_is : {X : Type 0} (xs : List X) (y : X) (k : ℕ) → k ≡ length xs → slice_get (xs ++ y ∷ []) k ≡ Some y
last_is [] y zero e = refl
last_is (x ∷ xs) y (suc k) e = last_is xs y k (omega arith)
last_is xs y k e = absurd (omega arith)

-- the item behind the front
pub behind : {X : Type 0} (xs : List X) (n head : ℕ) (v : X) → head < n → slice_get xs (n - head) ≡ Some v → slice_get (rest xs) (n - (head + 1)) ≡ Some v
behind [] n head v lt e = cc
behind (x ∷ xs) n head v lt e =
    let at : n - head ≡ suc (n - (head + 1)) = omega arith in
    rw at at e

pub first : {X : Type 0} (xs : List X) (x : X) → slice_get xs 0 ≡ Some x → (others : List X) × (xs ≡ x ∷ others)
first [] x e = cc
first (y ∷ xs) x e = (xs, (cc))

pub length-rest : {X : Type 0} (xs : List X) (x : X) → slice_get xs 0 ≡ Some x → length (rest xs) + 1 ≡ length xs
length-rest [] x e = cc
length-rest (y ∷ xs) x e = omega arith

-- a list of no length
pub none_left : {A : Type 0} (xs : List A) → length xs ≡ 0 → xs ≡ []
none_left [] e = refl
none_left (x ∷ xs) e = absurd (omega arith)
