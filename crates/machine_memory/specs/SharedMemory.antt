-- The words, slots and blocks of the machine, and what one operation and one touch do to them.
use Rattle.std.specs.Prelude.{ℕ, ◌+◌, ◌<◌, ◌^◌, Bool, true, false, Option, Some, None, IsSome, List, [], ◌∷◌, ◌++◌, length, slice_index_or, slice_set}
use Rattle.queue_steps.specs.declared.steps.types.{Answer.Answer, Answer.Answer as answer, Link.Link, Link.Link as link, Op.Op, Op.Op as op, Touch.Touch, Touch.Touch as touch, Word.Word, Word.Word as word}
use Rattle.queue_laws.specs.Common.Operations.{op_word, op_makes, answer_for, offered}
use Rattle.machine_memory.specs.declared.shared_memory.SharedMemory.{SharedMemory}
use Rattle.machine_memory.specs.Blocks.{BlockState, fresh_block, block_of, place_count, state_of, item_of, behind, put_state, put_item, put_next}

-- the words and the slots; of a chain, the poppers' block, the pushers' block, and the blocks
pub record MemoryState (T : Type 0) : Type 0 where
  pub lock : ℕ
  pub head : ℕ
  pub tail : ℕ
  pub stamps : List ℕ
  pub slots : List (Option T)
  pub head_block : Option ℕ
  pub tail_block : Option ℕ
  pub blocks : List (Option (BlockState T))

abbrev pub shared_of : {T A : Type 0} → SharedMemory T A → MemoryState T
shared_of c = record { lock = c.lock; head = c.head; tail = c.tail; stamps = c.stamps.items; slots = c.slots.items; head_block = c.head_block; tail_block = c.tail_block; blocks = c.blocks.items }

-- the machine has this word
abbrev pub HasWord : {T : Type 0} → MemoryState T → Word ℕ → Type 0
HasWord s (word.Stamp i) = i < length s.stamps
HasWord s (word.State b i) = i < place_count s.blocks b
HasWord s _ = Unit {0}

abbrev pub word_at : {T : Type 0} → MemoryState T → Word ℕ → ℕ
word_at s word.Lock = s.lock
word_at s word.Head = s.head
word_at s word.Tail = s.tail
word_at s (word.Stamp i) = slice_index_or s.stamps i 0
word_at s (word.State b i) = state_of s.blocks b i

abbrev pub put_word : {T : Type 0} → MemoryState T → Word ℕ → ℕ → MemoryState T
put_word s word.Lock x = record s { lock = x }
put_word s word.Head x = record s { head = x }
put_word s word.Tail x = record s { tail = x }
put_word s (word.Stamp i) x = record s { stamps = slice_set s.stamps i x }
put_word s (word.State b i) x = record s { blocks = put_state s.blocks b i x }

-- the machine has this link
abbrev pub HasLink : {T : Type 0} → MemoryState T → Link ℕ → Type 0
HasLink s (link.Next b) = IsSome (block_of s.blocks b)
HasLink s _ = Unit {0}

abbrev pub link_at : {T : Type 0} → MemoryState T → Link ℕ → Option ℕ
link_at s link.HeadBlock = s.head_block
link_at s link.TailBlock = s.tail_block
link_at s (link.Next b) = behind s.blocks b

abbrev pub put_link : {T : Type 0} → MemoryState T → Link ℕ → ℕ → MemoryState T
put_link s link.HeadBlock f = record s { head_block = Some f }
put_link s link.TailBlock f = record s { tail_block = Some f }
put_link s (link.Next b) f = record s { blocks = put_next s.blocks b (Some f) }

-- the operation is one on a word or link that the machine has, and no sum is too large for a word
abbrev pub CanOperate : {T : Type 0} → MemoryState T → Op ℕ → Type 0
CanOperate s (op.LoadLink l) = HasLink s l
CanOperate s (op.StoreLink l f) = HasLink s l
CanOperate s (op.Install f) = Unit {0}
CanOperate s op.Ask = Unit {0}
CanOperate s (op.Add w x) = HasWord s w × (word_at s w + x < 2 ^ 64)
CanOperate s o = HasWord s (op_word o)

-- the answer to a request: the number of the block, where it is granted
abbrev pub asked : {T : Type 0} → Bool → MemoryState T → Answer ℕ
asked true s = answer.Granted (length s.blocks)
asked false s = answer.Refused

-- what the operation answers. `ok` says whether a block that it asks for is granted
abbrev pub answered : {T : Type 0} → Bool → MemoryState T → Op ℕ → Answer ℕ
answered ok s (op.LoadLink l) = answer.Linked (link_at s l)
answered ok s (op.StoreLink l f) = answer.Done
answered ok s (op.Install f) = answer.Linked s.tail_block
answered ok s op.Ask = asked ok s
answered ok s o = answer_for o (word_at s (op_word o))

-- what is shared once a block is granted
abbrev pub granted_if : {T : Type 0} → Bool → MemoryState T → MemoryState T
granted_if true s = record s { blocks = s.blocks ++ Some fresh_block ∷ [] }
granted_if false s = s

-- what is shared after the operation
abbrev pub operated : {T : Type 0} → Bool → MemoryState T → Op ℕ → MemoryState T
operated ok s (op.Load w) = s
operated ok s (op.LoadLink l) = s
operated ok s (op.StoreLink l f) = put_link s l f
operated ok s (op.Install f) = record s { tail_block = offered s.tail_block f }
operated ok s op.Ask = granted_if ok s
operated ok s o = put_word s (op_word o) (op_makes o (word_at s (op_word o)))

-- the block whose slot a step touches, on a chain: that of the state that its operation names
abbrev pub block_touched : Op ℕ → Option ℕ
block_touched (op.Load (word.State b i)) = Some b
block_touched (op.Or (word.State b i) x) = Some b
block_touched _ = None

-- how many slots there are: those of a block, or of a queue with a capacity
abbrev pub slots_there : {T : Type 0} → MemoryState T → Option ℕ → ℕ
slots_there s None = length s.slots
slots_there s (Some b) = place_count s.blocks b

-- the slot that is touched is one of the machine's
abbrev pub CanTouch : Touch → ℕ → Type 0
CanTouch touch.Nothing n = Unit {0}
CanTouch (touch.Put i) n = i < n
CanTouch (touch.Swap i) n = i < n
CanTouch (touch.Take i) n = i < n

-- what a slot holds, of a queue with a capacity or of a block
abbrev pub item_at : {T : Type 0} → MemoryState T → Option ℕ → ℕ → Option T
item_at s None i = slice_index_or s.slots i None
item_at s (Some b) i = item_of s.blocks b i

-- what is shared once a slot holds something else
abbrev pub put_at : {T : Type 0} → MemoryState T → Option ℕ → ℕ → Option T → MemoryState T
put_at s None i v = record s { slots = slice_set s.slots i v }
put_at s (Some b) i v = record s { blocks = put_item s.blocks b i v }

-- what is shared after the touch: put, swap and take all exchange what is in the slot and what is carried
abbrev pub touched : {T : Type 0} → Touch → Option ℕ → MemoryState T → Option T → MemoryState T
touched touch.Nothing b s v = s
touched (touch.Put i) b s v = put_at s b i v
touched (touch.Swap i) b s v = put_at s b i v
touched (touch.Take i) b s v = put_at s b i v

-- what the call carries after the touch
abbrev pub handed : {T : Type 0} → Touch → Option ℕ → MemoryState T → Option T → Option T
handed touch.Nothing b s v = v
handed (touch.Put i) b s v = item_at s b i
handed (touch.Swap i) b s v = item_at s b i
handed (touch.Take i) b s v = item_at s b i
