use Rattle.std.proofs.Common.{◌-◌}
use Rattle.history_check.specs.Verdicts.{AreBounds}
use Rattle.history_check.proofs.decide.shortest.Given as goal

abbrev pub invariant-closing : goal.invariant-closing
invariant-closing g l = AreBounds l.fn.rules l.fn.parties l.events l.bounds.legal l.bounds.not_legal

abbrev pub decreases-closing : goal.decreases-closing
decreases-closing g l = l.bounds.not_legal - l.bounds.legal
