-- Outputs that are put into the places of their numbers.
use Rattle.std.proofs.Common.{◌≡◌, ◌≢◌, ◌⊎◌, ℕ, zero, suc, ◌+◌, ◌<◌, ◌==◌, cond, List, [], ◌∷◌, ◌++◌, length, map, get_or, set, replicate, Option, Some, None, slice_get, refl, ap, sym, subst, ◌∙◌, inl, inr, append-nil, length-append, arith}
use Rattle.std.specs.List.{All, count_by}
use Rattle.std.proofs.lemmas.{List.Sums.sum_by-append, List.get_or-set_same, List.get_or-set_other, List.get_or-replicate, Bool.Decides.eqb_tells, Option.slice_get_within}
use Rattle.law_parties.proofs.Doings.{single}

-- the outcome of the task that comes after so many
pub outcome_at : {T O : Type 0} (f : T → O) (outcomes : List O) (came rest all : List T) (x : T) (n : ℕ) → came ++ x ∷ rest ≡ all → n ≡ length came → map f all ≡ outcomes → slice_get outcomes n ≡ Some (f x)
outcome_at {T} {O} f outcomes came rest all x n is number batch =
    ap (slice_get outcomes) number ∙ (ap (λ (os : List O). slice_get os (length came)) (sym batch) ∙ (ap (λ (l : List T). slice_get (map f l) (length came)) (sym is) ∙ at came))
  where
    at : (ys : List T) → slice_get (map f (ys ++ x ∷ rest)) (length ys) ≡ Some (f x)
    at [] = refl
    at (y ∷ ys) = at ys

-- the number of one that comes after so many
pub number_below : {T : Type 0} (came rest all : List T) (x : T) (n : ℕ) → came ++ x ∷ rest ≡ all → n ≡ length came → n < length all
number_below came rest all x n is number = let whole = ap length is in let parts = length-append came (x ∷ rest) in omega (arith, whole, parts, number)

pub number_after : {T : Type 0} (came rest all : List T) (n len : ℕ) → came ++ rest ≡ all → n ≡ length came → len ≡ length rest → len ≡ 0 → n ≡ length all
number_after came rest all n len is number left none = let whole = ap length is in let parts = length-append came rest in omega (arith, whole, parts, number, left, none)

pub all_came : {T : Type 0} (came rest all : List T) (len : ℕ) → came ++ rest ≡ all → len ≡ length rest → len ≡ 0 → came ≡ all
all_came came [] all len is left none = sym (append-nil came) ∙ is
all_came came (x ∷ xs) all len is left none = absurd (omega (arith, left, none))

-- in each place is the outcome of its number, or nothing: then no output of its number has come
abbrev pub Placed : {O D : Type 0} → (D → ℕ) → List O → List (Option O) → List D → Type 0
Placed number outcomes places came = (i : ℕ) → i < length outcomes → (get_or places i None ≡ slice_get outcomes i) ⊎ ((get_or places i None ≡ None) × (count_by (λ d. number d == i) came ≡ 0))

module _ {O D : Type 0} (number : D → ℕ) (outcomes : List O) where
  pub placed_none : Placed number outcomes (replicate (length outcomes) None) []
  placed_none i lt = inr (get_or-replicate (length outcomes) i None None lt, refl)

  pub placed_more : (places : List (Option O)) (came : List D) (d : D) (o : O) → length places ≡ length outcomes → slice_get outcomes (number d) ≡ Some o → Placed number outcomes places came
      → Placed number outcomes (set places (number d) (Some o)) (came ++ d ∷ [])
  placed_more places came d o len is before i lt =
      elim (eqb_tells (number d) i) [
        | inl h ↦ inl (ap (λ k. get_or (set places (number d) (Some o)) k None) (sym h.1) ∙ (get_or-set_same places (number d) (Some o) None (let w = slice_get_within outcomes (number d) o is in omega (arith, w, len)) ∙ (sym is ∙ ap (slice_get outcomes) h.1)))
        | inr h ↦ let same = get_or-set_other places (number d) i (Some o) None (λ e. h.1 (sym e)) in
            elim (before i lt) [
              | inl full ↦ inl (same ∙ full)
              | inr empty ↦ inr (
                same ∙ empty.0,
                let all : count_by (λ x. number x == i) (came ++ d ∷ []) ≡ count_by (λ x. number x == i) came + count_by (λ x. number x == i) (d ∷ []) = sum_by-append (λ x. cond (number x == i) 1 0) came (d ∷ []) in
                    let last = single (λ x. number x == i) d ∙ ap (λ t. cond {A = ℕ} t 1 0) h.0 in let none = empty.1 in omega (arith, all, last, none),
              )
            ]
      ]

  each_there : (places : List (Option O)) (others : List O) → length places ≡ length others → ((i : ℕ) → i < length others → get_or places i None ≡ slice_get others i) → places ≡ map Some others
  each_there [] [] len there = refl
  each_there (p ∷ ps) (x ∷ xs) len there =
      let first = there 0 (omega arith) in let rest = each_there ps xs (omega (arith, len)) (λ i lt. there (suc i) (omega (arith, lt))) in
      λ i. first i ∷ rest i
  each_there [] (x ∷ xs) len there = absurd (omega (arith, len))
  each_there (p ∷ ps) [] len there = absurd (omega (arith, len))

  pub placed_all : (places : List (Option O)) (came : List D) → length places ≡ length outcomes → ((i : ℕ) → i < length outcomes → count_by (λ d. number d == i) came ≡ 1) → Placed number outcomes places came → places ≡ map Some outcomes
  placed_all places came len once placed =
      each_there places outcomes len (λ i lt. elim (placed i lt) [ inl full ↦ full | inr empty ↦ absurd (let one = once i lt in let none = empty.1 in omega (arith, one, none)) ])

module _ {O : Type 0} where
  abbrev first_or : O → List (Option O) → O
  first_or d [] = d
  first_or d (None ∷ ps) = d
  first_or d (Some x ∷ ps) = x

  abbrev rest_of : List (Option O) → List (Option O)
  rest_of [] = []
  rest_of (p ∷ ps) = ps

  -- all places are full, and what is in them is told by them
  pub all_full : (xs : List O) → All (λ p. p ≢ None) (map Some xs)
  all_full [] k d lt e = absurd (omega (arith, lt))
  all_full (x ∷ xs) zero d lt e = absurd (cc)
  all_full (x ∷ xs) (suc k) d lt e = all_full xs k d (omega (arith, lt)) e

  -- no place is without an output
  pub none_missing : (came rest all : List (Option O)) → came ++ None ∷ rest ≡ all → All (λ p. p ≢ None) all → ⊥
  none_missing came rest all is full = subst {A = List (Option O)} (λ l. All (λ p. p ≢ None) l → ⊥) is (at came) full
    where
      at : (ys : List (Option O)) → All (λ p. p ≢ None) (ys ++ None ∷ rest) → ⊥
      at [] each = each 0 None (omega arith) refl
      at (y ∷ ys) each = at ys (λ k d lt. each (suc k) d (omega (arith, lt)))

  pub same_contents : (xs ys : List O) → map Some xs ≡ map Some ys → xs ≡ ys
  same_contents [] [] e = refl
  same_contents [] (y ∷ ys) e = cc
  same_contents (x ∷ xs) [] e = cc
  same_contents (x ∷ xs) (y ∷ ys) e =
      let first : x ≡ y = ap (first_or x) e in let rest : xs ≡ ys = same_contents xs ys (ap rest_of e) in λ i. first i ∷ rest i
