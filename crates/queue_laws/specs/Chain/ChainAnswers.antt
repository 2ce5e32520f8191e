-- How the words and links of a chain stand for it, and what the operations of the calls answer.
use Rattle.std.proofs.Common.{ℕ, ◌+◌, ◌-◌, ◌≡◌, ◌≢◌, ◌==◌, not, ◌⊎◌, zero, suc, Bool, true, false, Option, Some, None, bit_and}
use Rattle.queue_steps.specs.Words.{tail_of}
use Rattle.queue_laws.specs.{Common.Vocabulary.Word, Common.Vocabulary.Link, Common.Vocabulary.Op, Common.Vocabulary.Answer, Common.Vocabulary.WRITE, Common.Vocabulary.READ, Common.Vocabulary.DESTROY, Chain.ChainFacts.place, Chain.ChainFacts.IsNamed}
use Rattle.queue_laws.specs.Chain.ChainCells.{Writer, Wrote, Reader, Done, Mover, Rests, Passer, Stands, LinkState, Linked, Shown, Seen, Walk, Waits, Unused, Chain, item_at}

-- the positions of the tail and of the head: while a call moves it on, it is that without a slot
abbrev pub tail_place : ℕ → Mover → ℕ
tail_place n Rests = place n
tail_place n _ = place n - 1

abbrev pub head_place : ℕ → Passer → ℕ
head_place n Stands = place n
head_place n _ = place n - 1

abbrev pub tail_word : {A : Type 0} → Chain A → ℕ
tail_word c = tail_of (tail_place c.tail c.mover) c.closed

abbrev pub head_word : {A : Type 0} → Chain A → ℕ
head_word c = tail_of (head_place c.head c.passer) c.known

-- the pushers' block, the poppers', and the one behind a block
abbrev pub last_of : (ℕ → ℕ) → ℕ → Option ℕ
last_of names zero = None
last_of names (suc b) = Some (names b)

abbrev pub shown_of : Shown → ℕ → Option ℕ
shown_of Seen name = Some name
shown_of _ name = None

abbrev pub linked_of : LinkState → ℕ → Option ℕ
linked_of Linked name = Some name
linked_of _ name = None

abbrev pub is_wrote : {A : Type 0} → Writer A → Bool
is_wrote (Wrote v) = true
is_wrote _ = false

abbrev pub is_done : Reader → Bool
is_done Done = true
is_done _ = false

abbrev pub waits_at : Walk → ℕ → Bool
waits_at (Waits s) slot = s == slot
waits_at _ slot = false

-- the state word of a slot: whether it is written and read, and, until it is read, whether the walk waits for it
pub record IsState {A : Type 0} (c : Chain A) (b slot : ℕ) (x : ℕ) : Type 0 where
  pub written : (bit_and x WRITE == 0) ≡ not (is_wrote (c.writers (item_at b slot)))
  pub read : (bit_and x READ == 0) ≡ not (is_done (c.readers (item_at b slot)))
  pub destroyed : c.readers (item_at b slot) ≢ Done → (bit_and x DESTROY == 0) ≡ not (waits_at (c.walks b) slot)

abbrev pub StateAnswers : {A : Type 0} → Chain A → ℕ → ℕ → Answer ℕ → Type 0
StateAnswers c name slot a = (b : ℕ) → IsNamed c b name → (x : ℕ) × (a ≡ Answer.Found x) × IsState c b slot x

-- what an operation of a call answers
abbrev pub Answers : {A : Type 0} → Chain A → Op ℕ → Answer ℕ → Type 0
Answers c (Op.Load Word.Tail) a = a ≡ Answer.Found (tail_word c)
Answers c (Op.Load Word.Head) a = a ≡ Answer.Found (head_word c)
Answers c (Op.Load (Word.State name slot)) a = StateAnswers c name slot a
Answers c (Op.Or Word.Tail x) a = a ≡ Answer.Found (tail_word c)
Answers c (Op.Or (Word.State name slot) x) a = StateAnswers c name slot a
Answers c (Op.Add Word.Tail x) a = a ≡ Answer.Found (tail_word c)
Answers c (Op.Exchange Word.Tail x y) a = a ≡ Answer.Found (tail_word c)
Answers c (Op.Exchange Word.Head x y) a = a ≡ Answer.Found (head_word c)
Answers c (Op.Store Word.Head x) a = a ≡ Answer.Done
Answers c (Op.LoadLink Link.TailBlock) a = a ≡ Answer.Linked (last_of c.names c.blocks)
Answers c (Op.LoadLink Link.HeadBlock) a = a ≡ Answer.Linked (shown_of c.shown (c.names c.front))
Answers c (Op.LoadLink (Link.Next name)) a = (b : ℕ) → IsNamed c b name → a ≡ Answer.Linked (linked_of (c.links b) (c.names (b + 1)))
Answers c (Op.StoreLink l x) a = a ≡ Answer.Done
Answers c (Op.Install x) a = a ≡ Answer.Linked (last_of c.names c.blocks)
Answers c Op.Ask a = (a ≡ Answer.Refused) ⊎ ((f : ℕ) × (a ≡ Answer.Granted f) × (c.uses f ≡ Unused))
Answers c _ a = ⊥
