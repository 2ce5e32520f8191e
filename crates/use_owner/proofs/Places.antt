-- What is free and what is out, as places are taken and given back.
use Rattle.std.proofs.Common.{◌≡◌, ◌≢◌, ℕ, zero, suc, ◌+◌, ◌<◌, List, [], ◌∷◌, ◌++◌, length, ⊎_elim, refl, sym, subst, arith}
use Rattle.std.specs.List.{All, Contains}
use Rattle.std.proofs.lemmas.List.Elements.{All-nil, All-push, All-head, All-cons, All-weaker, All-get_or, Contains-get_or, Contains-push, Contains-push_cases, Contains-append_left, Contains-append_right}
use Rattle.std.proofs.lemmas.{List.Kept.AllPairs-cons, List.Quantifiers.all_pairs_push, Map.Made.Contains-tail}
use Rattle.queue_laws.proofs.History.Numbers.{AreDistinct, distinct_few}
use Rattle.use_owner.specs.Pool.{Places, numbers, IsOut, Takes, GivesBack}

pub numbers_below : (n : ℕ) → All (λ p. p < n) (numbers n)
numbers_below zero = All-nil (λ p. p < 0)
numbers_below (suc n) = All-push (λ p. p < suc n) (numbers n) n (All-weaker (λ p. p < n) (λ p. p < suc n) (λ p lt. omega (arith, lt)) (numbers n) (numbers_below n)) (omega arith)

pub numbers_once : (n : ℕ) → AreDistinct (numbers n)
numbers_once zero = λ i j d lt inside. absurd (omega arith)
numbers_once (suc n) = all_pairs_push (λ p q. p ≢ q) (numbers n) n (numbers_once n) (λ k d lt same. omega (arith, same, All-get_or (λ p. p < n) (numbers n) k d lt (numbers_below n)))

-- a place that is out is none of the free ones
apart : (free : List ℕ) (place : ℕ) → ¬ Contains free place → All (λ q. place ≢ q) free
apart free place out = λ k d lt same. out (subst (Contains free) (sym same) (Contains-get_or free k d lt))

pub once_more : (free : List ℕ) (place : ℕ) → AreDistinct free → ¬ Contains free place → AreDistinct (free ++ place ∷ [])
once_more free place once out = all_pairs_push (λ p q. p ≢ q) free place once (λ k d lt same. out (subst (Contains free) same (Contains-get_or free k d lt)))

-- so there is a slot for it
pub fits : (count : ℕ) (free : List ℕ) (place : ℕ) → All (λ p. p < count) free → AreDistinct free → place < count → ¬ Contains free place → length free < count
fits count free place low once lt out =
    let few = distinct_few count (place ∷ free) (All-cons (λ p. p < count) place free lt low) (AllPairs-cons (λ p q. p ≢ q) place free (apart free place out) once) in omega (arith, few)

pub once_less : (place : ℕ) (free : List ℕ) → AreDistinct (place ∷ free) → AreDistinct free
once_less place free once = λ i j d lt inside. once (suc i) (suc j) d (omega (arith, lt)) (omega (arith, inside))

pub takes_first : (pool : Places) (place : ℕ) (free : List ℕ) → pool.free ≡ place ∷ free → All (λ p. p < pool.count) (place ∷ free) → AreDistinct (place ∷ free) → Takes pool place (record pool { free = free })
takes_first pool place free are low once = record {
  next = λ i. record pool { free = are i };
  was_free = (All-head (λ p. p < pool.count) place free low, λ out. out.1 (subst (λ (l : List ℕ). Contains l place) (sym are) (0, omega arith, refl)));
  now_out = (All-head (λ p. p < pool.count) place free low, λ has. once 0 (suc has.0) place (omega arith) (omega (arith, has.1)) (sym has.2));
  others = λ other ne. (
    λ out. (out.0, λ has. out.1 (subst (λ (l : List ℕ). Contains l other) (sym are) (Contains-append_right (place ∷ []) free other has))),
    λ out. (out.0, λ has. out.1 (Contains-tail place free other (λ same. ne (sym same)) (subst (λ (l : List ℕ). Contains l other) are has))),
  );
}

pub gives_last : (pool : Places) (place : ℕ) → IsOut pool place → GivesBack pool place (record pool { free = pool.free ++ place ∷ []; put_in = pool.put_in + 1 })
gives_last pool place out = record {
  last = refl;
  now_free = λ still. still.1 (Contains-push pool.free place);
  others = λ other ne. (
    λ was. (was.0, λ has. ⊎_elim was.1 (λ same. ne (sym same)) (Contains-push_cases pool.free place other has)),
    λ was. (was.0, λ has. was.1 (Contains-append_left pool.free (place ∷ []) other has)),
  );
}
