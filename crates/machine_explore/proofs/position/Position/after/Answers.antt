use Rattle.std.proofs.Common.{◌∙◌, sym}
use Rattle.machine_explore.proofs.Showing.{event_party}
use Rattle.machine_explore.proofs.position.Position.after.Goals as goal

pub take-requires : goal.take-requires
take-requires g c = event_party c.args.program.now.parties.items c.args.self.now c.args.party c.args.granted c.in-Some.event (sym c.event.ensures ∙ c.in-Some.is)
