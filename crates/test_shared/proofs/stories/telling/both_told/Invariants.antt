use Rattle.std.specs.Prelude.{IfSome}
use Rattle.test_shared.specs.Outcomes.{IsOf}
use Rattle.test_shared.proofs.stories.telling.both_told.Given as goal

-- the parties are still the queue's
abbrev pub invariant-loop-line : goal.invariant-loop-line
invariant-loop-line g l = IsOf l.cast.0 l.fn.queue × IfSome l.cast.1 (λ o. IsOf o l.fn.queue)
