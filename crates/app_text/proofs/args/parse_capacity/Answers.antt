use Rattle.std.proofs.Common.{arith}
use Rattle.app_text.{proofs.ReadArgs.capacity_word, proofs.ReadLoad.other_number, specs.KindNames.IsCapacity}
use Rattle.app_text.proofs.args.parse_capacity.Goals as goal

pub returns-then-cap-eq0 : goal.returns-then-cap-eq0
returns-then-cap-eq0 c = other_number IsCapacity c.in_ok-cap.cap c.args.digits.now capacity_word c.in_ok-cap.ensures.0 c.in_ok-cap.ensures.1 (λ is. omega (arith, is, c.if-cap-eq0.true))
