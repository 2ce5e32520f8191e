use Rattle.std.specs.Prelude.{◌≡◌}
use Rattle.callers.proofs.handle.send_all.Given as goal

-- the handle is still one of the same queue, and has its share
abbrev pub invariant-loop : goal.invariant-loop
invariant-loop g l = (l.handle.queue ≡ l.fn.handle.queue) × (l.handle.view.share ≡ l.fn.handle.view.share)
