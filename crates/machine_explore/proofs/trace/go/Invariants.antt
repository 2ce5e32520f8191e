use Rattle.std.proofs.Common.{take}
use Rattle.machine_explore.specs.Traces.{IsWayOf}
use Rattle.machine_explore.proofs.trace.go.Given as goal

abbrev pub invariant-loop-step : goal.invariant-loop-step
invariant-loop-step g l = IsWayOf l.fn.kind l.fn.refuses l.fn.program.before l.fn.program.parties.items (take l.step-index l.fn.schedule) l.way.opening.items l.way.entries.items l.way.position
