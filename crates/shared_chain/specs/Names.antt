-- At run time a name is the place of its block. What the steps of calls say is the same with other names.
use Rattle.std.specs.Prelude.{ℕ, ◌==◌, ◌||◌, Bool, false, Option, Some, None}
use Rattle.queue_laws.specs.Common.Vocabulary.{Word, Link, Op, Answer, Local, Next, ChainLocal, WRITE, READ}
use Rattle.queue_steps.specs.declared.steps.chain.ChainLocal.{ChainLocal as chain}
use Rattle.mem_blocks.specs.declared.block.BlockPtr.{BlockPtr as Place}
use Rattle.shared_chain.specs.Spots.{spot}

-- the place of the block with this name
abbrev pub link_of : {T : Type 0} → ℕ → Place T
link_of f = record { ptr = spot f }

module _ {B C : Type 0} (f : B → C) where
  abbrev pub name_map : Option B → Option C
  name_map None = None
  name_map (Some b) = Some (f b)

  abbrev pub word_map : Word B → Word C
  word_map Word.Lock = Word.Lock
  word_map Word.Head = Word.Head
  word_map Word.Tail = Word.Tail
  word_map (Word.Stamp i) = Word.Stamp i
  word_map (Word.State b i) = Word.State (f b) i

  abbrev pub link_map : Link B → Link C
  link_map Link.HeadBlock = Link.HeadBlock
  link_map Link.TailBlock = Link.TailBlock
  link_map (Link.Next b) = Link.Next (f b)

  abbrev pub op_map : Op B → Op C
  op_map (Op.Load w) = Op.Load (word_map w)
  op_map (Op.Store w n) = Op.Store (word_map w) n
  op_map (Op.Add w n) = Op.Add (word_map w) n
  op_map (Op.Or w n) = Op.Or (word_map w) n
  op_map (Op.And w n) = Op.And (word_map w) n
  op_map (Op.Exchange w m n) = Op.Exchange (word_map w) m n
  op_map (Op.LoadLink l) = Op.LoadLink (link_map l)
  op_map (Op.StoreLink l b) = Op.StoreLink (link_map l) (f b)
  op_map (Op.Install b) = Op.Install (f b)
  op_map Op.Ask = Op.Ask

  abbrev pub answer_map : Answer B → Answer C
  answer_map Answer.Start = Answer.Start
  answer_map (Answer.Found n) = Answer.Found n
  answer_map (Answer.Linked b) = Answer.Linked (name_map b)
  answer_map (Answer.Granted b) = Answer.Granted (f b)
  answer_map Answer.Refused = Answer.Refused
  answer_map Answer.Done = Answer.Done

  abbrev pub chain_map : ChainLocal B → ChainLocal C
  chain_map (chain.PushTail d s) = chain.PushTail d (name_map s)
  chain_map (chain.PushBlock d t s) = chain.PushBlock d t (name_map s)
  chain_map (chain.Asking d t b) = chain.Asking d t (name_map b)
  chain_map (chain.Installing d t b) = chain.Installing d t (f b)
  chain_map (chain.Showing d t b) = chain.Showing d t (f b)
  chain_map (chain.Claiming d t b s) = chain.Claiming d t (f b) (name_map s)
  chain_map (chain.Laying d t b s) = chain.Laying d t (f b) (f s)
  chain_map (chain.Opening d t b s) = chain.Opening d t (f b) (f s)
  chain_map (chain.Chaining d t b s) = chain.Chaining d t (f b) (f s)
  chain_map (chain.Writing d s) = chain.Writing d (name_map s)
  chain_map (chain.ClosingAtLimit d s) = chain.ClosingAtLimit d (name_map s)
  chain_map chain.PopHead = chain.PopHead
  chain_map (chain.PopBlock h) = chain.PopBlock h
  chain_map (chain.PopTail h b) = chain.PopTail h (name_map b)
  chain_map (chain.Taking h b) = chain.Taking h (f b)
  chain_map (chain.Following h b) = chain.Following h (f b)
  chain_map (chain.Peeking h b a) = chain.Peeking h (f b) (f a)
  chain_map (chain.Passing h b m) = chain.Passing h (f b) m
  chain_map (chain.Entering h b) = chain.Entering h (f b)
  chain_map (chain.Awaiting h b) = chain.Awaiting h (f b)
  chain_map (chain.Reading b i) = chain.Reading (f b) i
  chain_map (chain.Walking b i) = chain.Walking (f b) i
  chain_map (chain.Destroying b i) = chain.Destroying (f b) i
  chain_map (chain.CountTail g) = chain.CountTail g
  chain_map (chain.CountHead g t) = chain.CountHead g t
  chain_map (chain.CountAgain g t h) = chain.CountAgain g t h
  chain_map chain.EmptyHead = chain.EmptyHead
  chain_map (chain.EmptyTail h) = chain.EmptyTail h
  chain_map chain.Closing = chain.Closing
  chain_map chain.ClosedTail = chain.ClosedTail

  abbrev pub local_map : Local B → Local C
  local_map (Local.Begin k) = Local.Begin k
  local_map (Local.Slot l) = Local.Slot l
  local_map (Local.Ring l) = Local.Ring l
  local_map (Local.Chain l) = Local.Chain (chain_map l)

  abbrev pub next_map : Next B → Next C
  next_map (Next.Step l t o) = Next.Step (local_map l) t (op_map o)
  next_map (Next.Reply r b) = Next.Reply r (name_map b)

-- the block whose state an operation reads or sets, of whose slots a touch beside it is
abbrev pub state_block : {B : Type 0} → Op B → Option B
state_block (Op.Load (Word.State b i)) = Some b
state_block (Op.Or (Word.State b i) x) = Some b
state_block _ = None

-- whether one call alone sets these bits of the word: that an item is written, or read
abbrev pub is_set_once : {B : Type 0} → Word B → ℕ → Bool
is_set_once (Word.State b i) bits = (bits == WRITE) || (bits == READ)
is_set_once _ bits = false
