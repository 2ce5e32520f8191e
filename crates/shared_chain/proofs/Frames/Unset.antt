-- A slot is written by one call and read by one, so that each finds the bit unset that says so, and adds it.
use Rattle.std.proofs.Common.{ℕ, ◌+◌, ◌/◌, ◌%◌, ◌^◌, ◌<◌, ◌≡◌, ◌==◌, ◌∙◌, not, true, false, ap, arith, lit<, bit_and, bit_or, List}
use Rattle.std.proofs.lemmas.{Bool.eqb-true, Nat.or_disjoint, Nat.or_lt}
use Rattle.queue_laws.specs.Common.{Vocabulary.Op, Vocabulary.BLOCK_SLOTS, Vocabulary.WRITE, Vocabulary.READ, Operations.answer_for, Stand.Stand}
use Rattle.queue_laws.specs.Chain.{ChainCells.Chain, ChainCells.item_at, ChainAt.At, ChainAt.writing, ChainAt.reading, ChainAt.spending, ChainAt.destroying, ChainAt.closing, ChainAnswers.Answers, ChainAnswers.is_wrote, ChainAnswers.is_done}
use Rattle.queue_steps.specs.State.{State}
use Rattle.queue_laws.proofs.Chain.{ChainReads.own_item, ChainAnswers.head_offset}
use Rattle.shared_chain.specs.Names.{is_set_once}

-- where the operation sets bits that are set once, to set them is to add them
abbrev pub FindsUnset : Op ℕ → ℕ → Type 0
FindsUnset (Op.Or w bits) n = is_set_once w bits ≡ true → n < 2 ^ 64 → bit_or n bits ≡ (n + bits) % 2 ^ 64
FindsUnset _ n = Unit {0}

set_is_added : (n bits : ℕ) → n < 2 ^ 64 → bits < 2 ^ 64 → (bit_and n bits == 0) ≡ true → bit_or n bits ≡ (n + bits) % 2 ^ 64
set_is_added n bits small low unset = omega (arith, or_disjoint n bits (eqb-true (bit_and n bits) 0 unset), or_lt 64 n bits small low)

-- the call finds n by its operation
pub finds_unset : {A : Type 0} (c : Chain A) (who n : ℕ) {ms : List (State A)} {k : Stand A}
    → At c who ms k → Answers c k.op (answer_for k.op n) → FindsUnset k.op n
finds_unset c who n (writing d v m name spare part claimed has) answers = λ once small.
    let found = answers (m / BLOCK_SLOTS) claimed.named in let is = found.1 in
    let same : n ≡ found.0 = cc in
    let here = ap (item_at (m / BLOCK_SLOTS)) (head_offset m false) ∙ own_item m in
    set_is_added n WRITE small (lit< tt) (ap (λ x. bit_and x WRITE == 0) same ∙ (found.2.written ∙ ap (λ w. not (is_wrote w)) (ap c.writers here ∙ claimed.mine)))
finds_unset c who n (reading x m name more part got wrote inner) answers = λ once small.
    let found = answers (m / BLOCK_SLOTS) got.named in let is = found.1 in
    let same : n ≡ found.0 = cc in
    let here = ap (item_at (m / BLOCK_SLOTS)) (head_offset m more) ∙ own_item m in
    set_is_added n READ small (lit< tt) (ap (λ x. bit_and x READ == 0) same ∙ (found.2.read ∙ ap (λ r. not (is_done r)) (ap c.readers here ∙ got.mine)))
finds_unset c who n (spending d v spare none has most) answers = λ once small. cc
finds_unset c who n (destroying x b name slot part is named) answers = λ once small. cc
finds_unset c who n (closing none) answers = λ once small. cc
finds_unset c who n _ answers = tt
