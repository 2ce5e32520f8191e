use Rattle.std.specs.Prelude.{IfSome}
use Rattle.test_shared.specs.Outcomes.{IsOf}
use Rattle.test_shared.proofs.stories.telling.other_told.Given as goal

-- the party is still the queue's
abbrev pub invariant-loop-line : goal.invariant-loop-line
invariant-loop-line g l = IfSome l.b (λ o. IsOf o l.fn.queue)
