-- Shares: which part of one a party has. The parts of all parties of a queue are together one.
use Rattle.std.specs.Prelude.{◌≡◌, ℕ, ◌+◌, ◌-◌, ◌*◌, ◌^◌, ◌<◌, ◌≤◌}

-- the pair (n, k) is the part n / 2^k
abbrev pub Share : Type 0
Share = ℕ × ℕ

-- all of it
abbrev pub entire : Share
entire = (1, 0)

abbrev pub nothing : Share
nothing = (0, 0)

abbrev pub half : Share → Share
half s = (s.0, s.1 + 1)

-- two parts together
abbrev pub plus : Share → Share → Share
plus s t = (s.0 * 2 ^ t.1 + t.0 * 2 ^ s.1, s.1 + t.1)

-- two pairs for one part
abbrev pub SamePart : Share → Share → Type 0
SamePart s t = s.0 * 2 ^ t.1 ≡ t.0 * 2 ^ s.1

abbrev pub IsEntire : Share → Type 0
IsEntire s = s.0 ≡ 2 ^ s.1

abbrev pub IsSome : Share → Type 0
IsSome s = 0 < s.0

-- it is not more than one
abbrev pub IsPart : Share → Type 0
IsPart s = s.0 ≤ 2 ^ s.1

-- how many parts of 1 / 2^depth it is, where its pair's second number is no larger
abbrev pub weight : ℕ → Share → ℕ
weight depth s = s.0 * 2 ^ (depth - s.1)

-- shares add up in any order and grouping, and two halves of a share are that share
pub record SharesAddUp : Type 0 where
  pub commute : (s t : Share) → plus s t ≡ plus t s
  pub associate : (s t u : Share) → plus (plus s t) u ≡ plus s (plus t u)
  pub unit : (s : Share) → plus s nothing ≡ s
  pub same_itself : (s : Share) → SamePart s s
  pub same_back : (s t : Share) → SamePart s t → SamePart t s
  pub same_on : (s t u : Share) → SamePart s t → SamePart t u → SamePart s u
  pub same_sums : (s s' t t' : Share) → SamePart s s' → SamePart t t' → SamePart (plus s t) (plus s' t')
  pub same_halves : (s t : Share) → SamePart s t → SamePart (half s) (half t)
  pub halves : (s : Share) → SamePart (plus (half s) (half s)) s
  pub same_entire : (s t : Share) → SamePart s t → IsEntire s → IsEntire t
