use Rattle.std.specs.List.{All}
use Rattle.machine_explore.specs.Reports.{IsShownOutcome}
use Rattle.machine_explore.proofs.explore.show_outcomes.Given as goal

-- those so far are shown
abbrev pub invariant-loop-found : goal.invariant-loop-found
invariant-loop-found g l =
    (goal.iterator-loop-found g).can_next l.found-iterator × (goal.iterator-loop-found g).is_finite l.found-iterator × All (IsShownOutcome l.fn.problem.kind l.fn.problem.refuses l.fn.problem.program.before l.fn.problem.program.parties.items) l.shown.items
