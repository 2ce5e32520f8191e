use Rattle.std.proofs.Common.{arith}
use Rattle.app_text.proofs.ReadLoad.{other_number}
use Rattle.app_explore.{specs.Requests.IsOutcomeNumber, proofs.Words.outcome_word}
use Rattle.app_explore.proofs.args.parse_outcome_number.Goals as goal

pub returns-then-number-eq0 : goal.returns-then-number-eq0
returns-then-number-eq0 c =
    let read = rw c.as_bytes.ensures.value at c.in_ok-number.ensures in
    other_number IsOutcomeNumber c.in_ok-number.number c.args.text.now outcome_word read.0 read.1 (λ is. omega (arith, is, c.if-number-eq0.true))
