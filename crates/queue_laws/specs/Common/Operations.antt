-- What the operations of calls on words do, whatever the words are kept in.
use Rattle.std.specs.Prelude.{ℕ, ◌+◌, ◌%◌, ◌^◌, ◌==◌, Option, Some, None, bit_and, bit_or}
use prog.Atomic.{either}
use Rattle.queue_laws.specs.Common.Vocabulary.{Word, Op, Answer}

-- the operation is one on a word of these
abbrev pub OnWord : (Word ℕ → Type 0) → Op ℕ → Type 0
OnWord Has (Op.Load w) = Has w
OnWord Has (Op.Store w x) = Has w
OnWord Has (Op.Add w x) = Has w
OnWord Has (Op.Or w x) = Has w
OnWord Has (Op.And w x) = Has w
OnWord Has (Op.Exchange w a b) = Has w
OnWord Has _ = ⊥

-- the word that it is on
abbrev pub op_word : Op ℕ → Word ℕ
op_word (Op.Load w) = w
op_word (Op.Store w x) = w
op_word (Op.Add w x) = w
op_word (Op.Or w x) = w
op_word (Op.And w x) = w
op_word (Op.Exchange w a b) = w
op_word _ = Word.Lock

-- what it makes of the word
abbrev pub op_makes : Op ℕ → ℕ → ℕ
op_makes (Op.Load w) n = n
op_makes (Op.Store w x) n = x
op_makes (Op.Add w x) n = (n + x) % 2 ^ 64
op_makes (Op.Or w x) n = bit_or n x
op_makes (Op.And w x) n = bit_and n x
op_makes (Op.Exchange w a b) n = either (n == a) b n
op_makes _ n = n

-- what it answers where it found n
abbrev pub answer_for : Op ℕ → ℕ → Answer ℕ
answer_for (Op.Store w x) n = Answer.Done
answer_for _ n = Answer.Found n

-- where a link leads once a block is offered: to the one that was there, or to this
abbrev pub offered : Option ℕ → ℕ → Option ℕ
offered None f = Some f
offered (Some b) f = Some b
