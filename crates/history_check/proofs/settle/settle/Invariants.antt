use Rattle.std.proofs.Common.{List}
use Rattle.history_check.specs.{Levels.Foresees, Levels.IsAsGood, declared.recorded.Event.Event as SpecEvent}
use Rattle.history_check.proofs.settle.settle.Given as goal

abbrev pub invariant-loop-party : goal.invariant-loop-party
invariant-loop-party g l = (es : List SpecEvent) → Foresees l.ahead es → IsAsGood es l.fn.stage l.stage
