use Rattle.app_command.proofs.Draining.{Drains}
use Rattle.app_command.proofs.script.drain.Given as goal

-- the items taken off so far are put
abbrev pub invariant-loop-item : goal.invariant-loop-item
invariant-loop-item g l = Drains l.fn.pieces l.pieces l.fn.queue.queue.items l.item-iterator.queue.now.queue.items (g.O.Write.contents l.fn.output) (g.O.Write.contents l.output)
