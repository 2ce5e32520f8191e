use Rattle.std.proofs.Common.{rules, tests}
use Rattle.test_support.proofs.closing.end.Goals as goal

pub lift-second-requires : goal.lift-second-requires
lift-second-requires g c = search (rules, tests)

pub give_up-requires : goal.give_up-requires
give_up-requires g c = search (rules, tests)
