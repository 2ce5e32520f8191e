use Rattle.std.proofs.Common.{◌∙◌, None, Some, sym}
use Rattle.machine_explore.{specs.Moves.event_at, specs.Moves.led, proofs.Staying.stays_if}
use Rattle.machine_explore.proofs.check.leads_to.Goals as goal

pub returns-in-None : goal.returns-in-None
returns-in-None g c =
    λ yes.
    stays_if (event_at c.args.program.now.parties.items c.args.position.now c.args.party c.args.granted) (led c.args.position.now.kind c.args.position.now) None c.args.positions.now (sym c.in-None.is ∙ c.in_ok-after.ensures) tt

pub returns-in-Some : goal.returns-in-Some
returns-in-Some g c =
    λ yes.
    stays_if (event_at c.args.program.now.parties.items c.args.position.now c.args.party c.args.granted) (led c.args.position.now.kind c.args.position.now) (Some c.in-Some.next) c.args.positions.now (sym c.in-Some.is ∙ c.in_ok-after.ensures) (c.has_at.ensures yes)
