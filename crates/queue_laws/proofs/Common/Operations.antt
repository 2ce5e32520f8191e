-- An operation on words is on a word of these.
use Rattle.std.proofs.Common.{ℕ}
use Rattle.queue_laws.specs.Common.{Vocabulary.Word, Vocabulary.Op, Operations.OnWord, Operations.op_word}

pub has_word : (Has : Word ℕ → Type 0) (o : Op ℕ) → OnWord Has o → Has (op_word o)
has_word Has (Op.LoadLink l) on = absurd on
has_word Has (Op.StoreLink l f) on = absurd on
has_word Has (Op.Install f) on = absurd on
has_word Has Op.Ask on = absurd on
has_word Has o on = on
