use Rattle.std.proofs.Common.{[]}
use Rattle.law_parties.specs.Doings.{Acts}
use Rattle.app_threads.proofs.crew.pop_one.Given as goal

-- the party is still the queue's, and has done nothing
abbrev pub invariant-loop : goal.invariant-loop
invariant-loop g l = Acts l.fn.party l.party []
