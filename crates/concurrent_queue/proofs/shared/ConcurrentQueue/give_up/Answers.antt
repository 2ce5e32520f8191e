use Rattle.std.proofs.Common.{subst}
use Rattle.concurrent_queue.specs.Standing.{StandsAs}
use Rattle.concurrent_queue.proofs.shared.ConcurrentQueue.give_up.Goals as goal

pub returns-in-Slot : goal.returns-in-Slot
returns-in-Slot g c = c.quit_here.ensures c.args.pending (subst (λ z. StandsAs z c.args.pending) c.in-Slot.is c.standing.ensures)

pub returns-in-Ring : goal.returns-in-Ring
returns-in-Ring g c = c.quit_here-in-Ring.ensures c.args.pending (subst (λ z. StandsAs z c.args.pending) c.in-Ring.is c.standing.ensures)

pub returns-in-Chain : goal.returns-in-Chain
returns-in-Chain g c = c.quit_inside.ensures c.args.pending (subst (λ z. StandsAs z c.args.pending) c.in-Chain.is c.standing.ensures)
