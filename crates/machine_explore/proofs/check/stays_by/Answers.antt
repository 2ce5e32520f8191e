use Rattle.machine_explore.proofs.{Staying.stays_both, Staying.stays_granted, Staying.stays_unasked, check.stays_by.Goals.else-refuses-via-then-refuses+else-asks, check.stays_by.Goals.else-refuses-via-else-refuses}
use Rattle.machine_explore.proofs.check.stays_by.Goals as goal

pub returns-then-asks : goal.returns-then-asks
returns-then-asks g c = stays_both c.args.program.now.parties.items c.args.positions.now c.args.position.now c.args.party c.args.refuses c.leads_to-then-asks.result (c.in_ok-leads_to.ensures c.if-not-branch.false) c.leads_to-then-asks.ensures

pub returns : goal.returns
returns g c =
    λ yes.
    elim c.else-refuses.branch [
      | else-refuses-via-then-refuses+else-asks w ↦ stays_unasked c.args.program.now.parties.items c.args.positions.now c.args.position.now c.args.party c.args.refuses (w.asks.ensures w.if-asks.false) (c.in_ok-leads_to.ensures c.if-not-branch.false)
      | else-refuses-via-else-refuses w ↦ stays_granted c.args.program.now.parties.items c.args.positions.now c.args.position.now c.args.party c.args.refuses w.if-refuses.false (c.in_ok-leads_to.ensures c.if-not-branch.false)
    ]
