-- The words of a ring's table at the beginning.
use Rattle.std.specs.Prelude.{◌≡◌, ℕ, List, length, get_or}
use Rattle.queue_laws.specs.Ring.RingOpening.{numbers_below}
use Rattle.own_cells.specs.{OneRing.RingWords.words_of, OneRing.RingWords.stamps_in, declared.ring.ring_words.TheConstants.TAIL, declared.ring.ring_words.TheConstants.HEAD}

-- one party, no item accepted and none taken, and each of the first n slots free for the position of its own number
pub record IsFirst (cap n : ℕ) (ws : List ℕ) : Type 0 where
  pub long : length ws ≡ words_of cap
  pub one : get_or ws 0 0 ≡ 1
  pub tail : get_or ws TAIL 0 ≡ 0
  pub head : get_or ws HEAD 0 ≡ 0
  pub stamps : stamps_in n ws ≡ numbers_below n
