-- What an operation makes of a word, and what it tells.
use Rattle.std.specs.Prelude.{◌≡◌, ℕ, ◌+◌, ◌-◌, ◌%◌, ◌^◌, ◌==◌, bit_or}
use prog.Atomic.{either}
use Rattle.mem_blocks.specs.declared.operation.Operation.{Operation, Operation as does}

-- What the word n becomes, with the operands a and b.
abbrev pub becomes : Operation → ℕ → ℕ → ℕ → ℕ
becomes does.Load a b n = n
becomes does.Store a b n = a
becomes does.Add a b n = (n + a) % 2 ^ 64
becomes does.Subtract a b n = (n + (2 ^ 64 - a)) % 2 ^ 64
becomes does.Or a b n = bit_or n a
becomes does.Exchange a b n = either (n == a) b n

-- What the operation tells where the word was n: a store tells its operand.
abbrev pub answered : Operation → ℕ → ℕ → ℕ
answered does.Store a n = a
answered does.Load a n = n
answered does.Add a n = n
answered does.Subtract a n = n
answered does.Or a n = n
answered does.Exchange a n = n

-- What is known of the number n that an operation tells.
abbrev pub IsAnswered : Operation → ℕ → ℕ → Type 0
IsAnswered does.Store a n = n ≡ a
IsAnswered does.Load a n = Unit {0}
IsAnswered does.Add a n = Unit {0}
IsAnswered does.Subtract a n = Unit {0}
IsAnswered does.Or a n = Unit {0}
IsAnswered does.Exchange a n = Unit {0}
