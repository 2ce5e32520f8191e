-- A ring that parties share, as a kind of queue in a table: the tail, the head and the stamps are words after the count of parties.
use Rattle.std.specs.Prelude.{◌≡◌, ℕ, ◌<◌, List, [], ◌∷◌, length, get_or, Option, Some, None}
use mathlib.Core.Option.{some}
use mathlib.Core.Option as maybe
use lib.ListN.{get_elem?}
use Rattle.queue_laws.specs.Common.Vocabulary.{Kind, Word}
use Rattle.queue_laws.specs.Ring.{RingCells.Cell, RingCells.Ring, RingCells.queue_of, RingCells.RingOk, RingCells.owner, RingShared.Shared, RingShared.HasPlace, RingWords.Codes, RingWords.item_in, RingPasses.Passes, RingPasses.Lent, RingAt.At}
use Rattle.own_cells.specs.{OneRing.RingWords.words_of, OneRing.RingWords.stamp_word, OneRing.RingWords.stamps_in, declared.ring.ring_words.TheConstants.TAIL, declared.ring.ring_words.TheConstants.HEAD}
use Rattle.shared_parties.specs.Calling.{CallsOf}
use Rattle.shared_tables.specs.TableRule.{TableOf}

-- what lies in a slot that nobody has; a slot that somebody has is out
abbrev pub home_when : {A : Type 0} → Option ℕ → Option A → maybe.Option (Option A)
home_when None y = some y
home_when (Some who) y = maybe.none

abbrev pub home_of : {A : Type 0} → Cell A → maybe.Option (Option A)
home_of c = home_when (owner c) (item_in c)

-- the slots at home are those of the ring that are nobody's
abbrev pub Homes : {T : Type 0} → ℕ → Ring T → List (maybe.Option (Option T)) → Type 0
Homes cap g hs = (length hs ≡ cap) × ((i : ℕ) → i < cap → get_elem? hs i ≡ some (home_of (g.cells i)))

-- the ring lies in the words of a table, of which the first counts the parties
pub record LiesIn {T : Type 0} (cap : ℕ) (s : Shared T) (ws : List ℕ) : Type 0 where
  pub long : length ws ≡ words_of cap
  pub tail : get_or ws TAIL 0 ≡ s.tail
  pub head : get_or ws HEAD 0 ≡ s.head
  pub stamps : stamps_in cap ws ≡ s.stamps

-- the number of a word in the table
abbrev pub word_index : Word ℕ → ℕ
word_index Word.Tail = TAIL
word_index Word.Head = HEAD
word_index (Word.Stamp i) = stamp_word i
word_index _ = 0

-- the words and the slots at home are those of the ring
abbrev pub RingCoded : {T : Type 0} → ℕ → Ring T → List ℕ → List (maybe.Option (Option T)) → Type 0
RingCoded {T} cap g ws hs = (s : Shared T) × Codes cap g s × LiesIn cap s (0 ∷ ws) × Homes cap g hs

-- the calls on a ring of cap slots
abbrev pub ring_calls : {T : Type 0} → ℕ → CallsOf T
ring_calls {T} cap = record {
  kind = Kind.Bounded cap;
  Cells = Ring T;
  Ok = λ g. RingOk cap g;
  queue_of = λ g. queue_of cap g;
  At = λ g who ms was c. At cap g who ms was c;
  Passes = λ who g s. Passes who g s;
  Lent = λ g who xs. Lent g who xs;
  Idle = λ g who. Lent g who [];
  Gives = λ spare. spare ≡ None;
}

abbrev pub ring_table : {T : Type 0} → ℕ → TableOf T
ring_table cap = record {
  calls = ring_calls cap;
  HasWord = λ w. HasPlace cap w;
  place = word_index;
  Coded = λ g ws hs. RingCoded cap g ws hs;
}
