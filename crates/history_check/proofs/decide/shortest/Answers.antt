use Rattle.history_check.proofs.Deciding.{last_bounds}
use Rattle.history_check.proofs.decide.shortest.Goals as goal

pub returns : goal.returns
returns g c = last_bounds c.args.rules c.args.parties c.args.events.now c.closing.bounds.legal c.closing.bounds.not_legal c.closing.invariant c.closing-test.false
