use Rattle.std.{proofs.Common.map, specs.List.All}
use Rattle.machine_explore.specs.{Reports.IsShownWait, Waiting.wait_of}
use Rattle.machine_explore.proofs.explore.show_waits.Given as goal

-- those so far are shown
abbrev pub invariant-loop-found : goal.invariant-loop-found
invariant-loop-found g l = All (IsShownWait l.fn.problem.kind l.fn.problem.refuses l.fn.problem.program.before l.fn.problem.program.parties.items) (map wait_of l.waits.items)
