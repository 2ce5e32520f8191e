use Rattle.std.proofs.Common.{length}
use Rattle.history_check.specs.{Legal.IsLegal, Levels.Foresees, Levels.Survives}
use Rattle.history_check.proofs.search.find_order.Given as goal

abbrev pub invariant-loop-event : goal.invariant-loop-event
invariant-loop-event g l = record {
  foresees : Foresees l.ahead l.rest;
  survives : IsLegal l.fn.rules l.fn.parties l.events → Survives l.level l.rest;
}

abbrev pub decreases-loop-event : goal.decreases-loop-event
decreases-loop-event g l = length l.rest
