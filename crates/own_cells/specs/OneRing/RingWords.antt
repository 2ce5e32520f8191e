-- How the words of a ring lie in a table.
use Rattle.std.specs.Prelude.{ℕ, zero, suc, ◌+◌, ◌*◌, List, [], ◌∷◌, ◌++◌, get_or, slice_set, replicate}
use Rattle.own_cells.specs.declared.ring.ring_words.TheConstants.{TAIL, HEAD, STAMPS, STAMP_WORDS}

-- the word of the stamp of this slot
abbrev pub stamp_word : ℕ → ℕ
stamp_word i = STAMPS + i * STAMP_WORDS

-- how many words a ring of so many slots has
abbrev pub words_of : ℕ → ℕ
words_of cap = cap * STAMP_WORDS + STAMPS

-- the stamps of the first n slots among these words
abbrev pub stamps_in : ℕ → List ℕ → List ℕ
stamps_in zero ws = []
stamps_in (suc n) ws = stamps_in n ws ++ get_or ws (stamp_word n) 0 ∷ []

-- the words of a ring with one party, before the stamps are written
abbrev pub bare_words : ℕ → ℕ → ℕ → List ℕ
bare_words cap tail head = slice_set (slice_set (slice_set (replicate (words_of cap) 0) 0 1) TAIL tail) HEAD head
