use Rattle.std.proofs.Common.{rules, tests}
use Rattle.shared_chain.proofs.touching.touch.Goals as goal

pub put-requires : goal.put-requires
put-requires g c = search (rules, tests)

pub take-requires : goal.take-requires
take-requires g c = search (rules, tests)

pub returns-in-Some-Some-clause-touched : goal.returns-in-Some-Some-clause-touched
returns-in-Some-Some-clause-touched g c = search (rules, tests)
