-- The words and slots of a ring as a value, and what one step of a call does to them.
use Rattle.std.specs.Prelude.{ℕ, ◌+◌, ◌<◌, ◌^◌, Option, None, List, length, slice_index_or, slice_set}
use Rattle.queue_laws.specs.Common.{Vocabulary.Word, Vocabulary.Op, Vocabulary.Touch, Vocabulary.Answer, Operations.OnWord, Operations.op_word, Operations.op_makes, Operations.answer_for}

pub record Shared (T : Type 0) : Type 0 where
  pub head : ℕ
  pub tail : ℕ
  pub stamps : List ℕ
  pub slots : List (Option T)

-- the word is one of a ring of cap slots
abbrev pub HasPlace : ℕ → Word ℕ → Type 0
HasPlace cap Word.Head = Unit {0}
HasPlace cap Word.Tail = Unit {0}
HasPlace cap (Word.Stamp i) = i < cap
HasPlace cap _ = ⊥

-- the ring has this word
abbrev pub HasWord : {T : Type 0} → Shared T → Word ℕ → Type 0
HasWord s w = HasPlace (length s.stamps) w

abbrev pub word_at : {T : Type 0} → Shared T → Word ℕ → ℕ
word_at s Word.Head = s.head
word_at s Word.Tail = s.tail
word_at s (Word.Stamp i) = slice_index_or s.stamps i 0
word_at s _ = 0

abbrev pub put_word : {T : Type 0} → Shared T → Word ℕ → ℕ → Shared T
put_word s Word.Head x = record s { head = x }
put_word s Word.Tail x = record s { tail = x }
put_word s (Word.Stamp i) x = record s { stamps = slice_set s.stamps i x }
put_word s _ x = s

-- the operation is one on a word that the ring has, and no sum is too large for a word. No call takes bits off
abbrev pub CanOperate : {T : Type 0} → Shared T → Op ℕ → Type 0
CanOperate s (Op.Add w x) = HasWord s w × (word_at s w + x < 2 ^ 64)
CanOperate s (Op.And w x) = ⊥
CanOperate s o = OnWord (HasWord s) o

-- what the operation answers
abbrev pub answered : {T : Type 0} → Shared T → Op ℕ → Answer ℕ
answered s o = answer_for o (word_at s (op_word o))

-- what is shared after the operation
abbrev pub operated : {T : Type 0} → Shared T → Op ℕ → Shared T
operated s (Op.Load w) = s
operated s o = put_word s (op_word o) (op_makes o (word_at s (op_word o)))

-- the slot that is touched is one of the ring's
abbrev pub CanTouch : {T : Type 0} → Shared T → Touch → Type 0
CanTouch s Touch.Nothing = Unit {0}
CanTouch s (Touch.Put i) = i < length s.slots
CanTouch s (Touch.Swap i) = i < length s.slots
CanTouch s (Touch.Take i) = i < length s.slots

abbrev pub item_at : {T : Type 0} → Shared T → ℕ → Option T
item_at s i = slice_index_or s.slots i None

abbrev pub put_item : {T : Type 0} → Shared T → ℕ → Option T → Shared T
put_item s i v = record s { slots = slice_set s.slots i v }

-- what is shared after the touch of a call that carries v: put, swap and take all exchange what is in the slot and what is carried
abbrev pub touched : {T : Type 0} → Shared T → Touch → Option T → Shared T
touched s Touch.Nothing v = s
touched s (Touch.Put i) v = put_item s i v
touched s (Touch.Swap i) v = put_item s i v
touched s (Touch.Take i) v = put_item s i v

-- what the call carries then
abbrev pub handed : {T : Type 0} → Shared T → Touch → Option T → Option T
handed s Touch.Nothing v = v
handed s (Touch.Put i) v = item_at s i
handed s (Touch.Swap i) v = item_at s i
handed s (Touch.Take i) v = item_at s i
