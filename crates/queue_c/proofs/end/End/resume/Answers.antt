use Rattle.std.specs.Arc.{arc_value}
use Rattle.queue_c.proofs.Turns.{still_fits}
use Rattle.queue_c.proofs.end.End.resume.Goals as goal

pub invariant_of-result-in-Pending : goal.invariant_of-result-in-Pending
invariant_of-result-in-Pending c =
    record { fits = still_fits c.args.self.turn c.calling-turn.result c.in-Some.pending c.in-Pending.pending (arc_value c.args.self.queue) c.in-Some.is c.args.self.fits c.calling-turn.ensures.0 c.calling-turn.ensures.1 c.in-Pending.ensures }
