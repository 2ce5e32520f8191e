-- The numbers that C gets, as the header of the library has them.
use Rattle.std.specs.Prelude.{ℕ}

abbrev pub DONE : ℕ
DONE = 0

abbrev pub YES : ℕ
YES = 1

abbrev pub FULL : ℕ
FULL = 2

abbrev pub EMPTY : ℕ
EMPTY = 3

abbrev pub CLOSED : ℕ
CLOSED = 4

abbrev pub NO_MEMORY : ℕ
NO_MEMORY = 5

abbrev pub NO_PARTY : ℕ
NO_PARTY = 6

abbrev pub TAKEN : ℕ
TAKEN = 7

abbrev pub NO_ROOM : ℕ
NO_ROOM = 8

abbrev pub TOO_MANY : ℕ
TOO_MANY = 9

abbrev pub SHARED : ℕ
SHARED = 10

abbrev pub LOST : ℕ
LOST = 11

abbrev pub PENDING : ℕ
PENDING = 12

abbrev pub BUSY : ℕ
BUSY = 13

abbrev pub IDLE : ℕ
IDLE = 14
