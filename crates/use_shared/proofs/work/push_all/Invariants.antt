use Rattle.law_parties.specs.Doings.{Acts}
use Rattle.use_shared.specs.Work.{appended}
use Rattle.use_shared.proofs.work.push_all.Given as goal

-- the jobs so far were appended
abbrev pub invariant-loop-job : goal.invariant-loop-job
invariant-loop-job g l = Acts l.fn.party l.party (appended l.job)
