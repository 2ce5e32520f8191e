-- How many threads were started and how many pieces of work were done, as the recursion over the threads counts them.
use Rattle.std.proofs.Common.{◌≡◌, ◌≢◌, ℕ, ◌+◌, ◌<◌, ◌≤◌, List, length, reverse, ap, ◌∙◌, arith}
use Rattle.std.proofs.lemmas.List.{length-reverse}

-- so many pieces of work were done by the threads from n on, of so many threads, of which so many were started
abbrev pub Counted : ℕ → ℕ → ℕ → ℕ → Type 0
Counted n made started threads = (n + made ≤ threads) × (started ≤ n + made) × (n + made ≤ started + 1)

pub not_last : (n threads : ℕ) → n ≤ threads → n ≢ threads → n < threads
not_last n threads le differs = omega (arith, le, differs)

pub none_counted : (n threads : ℕ) → n ≤ threads → Counted n 0 n threads
none_counted n threads le = (omega (arith, le), omega arith, omega arith)

pub one_counted : (n threads : ℕ) → n < threads → Counted n 1 n threads
one_counted n threads lt = (omega (arith, lt), omega arith, omega arith)

pub more_counted : (n made started threads : ℕ) → Counted (n + 1) made started threads → Counted n (made + 1) started threads
more_counted n made started threads (most, least, near) = (omega (arith, most), omega (arith, least), omega (arith, near))

pub more_fit : (n made threads : ℕ) → (n + 1) + made ≤ threads → made + 1 ≤ threads
more_fit n made threads most = omega (arith, most)

pub next_within : (n most : ℕ) → n < most → n + 1 ≤ most
next_within n most lt = omega (arith, lt)

pub not_before : (n threads : ℕ) → n ≡ threads → n < threads → ⊥
not_before n threads is lt = omega (arith, is, lt)

pub some_made : (made : ℕ) → made + 1 ≡ 0 → ⊥
some_made made none = omega (arith, none)

-- as many posts as pieces of work
pub as_many : {Post : Type 0} (posts turned : List Post) (made : ℕ) → turned ≡ reverse posts → length posts ≡ made → length turned ≡ made
as_many posts turned made is counted = ap length is ∙ (length-reverse posts ∙ counted)

pub posts_counted : (posts made started threads : ℕ) → posts ≡ made → (made ≤ threads) × (started ≤ made) × (made ≤ started + 1) → (posts ≤ threads) × (started ≤ posts) × (posts ≤ started + 1)
posts_counted posts made started threads is (most, least, near) = (omega (arith, is, most), omega (arith, is, least), omega (arith, is, near))

pub some_posts : (posts made : ℕ) → posts ≡ made → made ≢ 0 → 0 < posts
some_posts posts made is some = omega (arith, is, some)
