-- The table of an empty open ring.
use Rattle.std.specs.Prelude.{◌≡◌, ℕ, ◌+◌, ◌*◌, ◌<◌, ◌≤◌, List, length, get_or, Option, None}
use mathlib.Core.Option.{some}
use lib.ListN.{get_elem?}
use Rattle.atomic_table.specs.Table.{State}
use Rattle.queue_steps.specs.Words.{slot_at, stamp_free}
use Rattle.own_cells.specs.{OneRing.RingWords.words_of, OneRing.RingWords.stamps_in, declared.ring.ring_words.TheConstants.TAIL, declared.ring.ring_words.TheConstants.HEAD}

-- the first stamps: each slot is free for a position of its own of the lap from n on
pub record Opened (n cap i : ℕ) (stamps : List ℕ) : Type 0 where
  pub long : length stamps ≡ i
  pub free : (k : ℕ) → k < i → (q : ℕ) × (get_or stamps k 0 ≡ stamp_free q) × (n ≤ q) × (q < n + cap) × (slot_at cap q ≡ k)

-- the positions as after n items that were accepted and taken, and the first i stamps
pub record OpensTo (cap n i : ℕ) (ws : List ℕ) : Type 0 where
  pub long : length ws ≡ words_of cap
  pub tail : get_or ws TAIL 0 ≡ n * 2
  pub head : get_or ws HEAD 0 ≡ n
  pub opened : Opened n cap i (stamps_in i ws)

-- the positions as after n items that were accepted and taken
abbrev pub IsOpening : ℕ → ℕ → List ℕ → Type 0
IsOpening cap n ws = OpensTo cap n cap ws

-- the table has these words, and every slot is at home and empty
abbrev pub IsUntouched : {T : Type 0} → List ℕ → State (Option T) (Unit {0}) → Type 0
IsUntouched ws s = (s.words ≡ ws) × ((k : ℕ) → k < length s.homes → get_elem? s.homes k ≡ some (some None))
