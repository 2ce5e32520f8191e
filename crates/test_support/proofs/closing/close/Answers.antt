use Rattle.std.proofs.Common.{rules, tests}
use Rattle.test_support.proofs.Closings.{closes}
use Rattle.test_support.proofs.closing.close.Goals as goal

pub fetch_or-requires-clause-allows : goal.fetch_or-requires-clause-allows
fetch_or-requires-clause-allows g c = closes _ _ _ _ c.requires.2

pub returns-clause-did : goal.returns-clause-did
returns-clause-did g c = search (rules, tests)

pub returns-clause-was : goal.returns-clause-was
returns-clause-was g c = search (rules, tests)
