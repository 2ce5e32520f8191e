use Rattle.std.proofs.Common.{◌∙◌, sym}
use Rattle.machine_explore.proofs.Runs.{seen_here}
use Rattle.machine_explore.proofs.trace.enter.Goals as goal

pub returns : goal.returns
returns g c = seen_here c.args.program.now.parties.items c.args.position.now c.args.step c.in-Some.event c.local-local.result c.in_ok-told.told c.in_ok-list.list.items c.take.new.self
    (sym c.event.ensures ∙ c.in-Some.is) c.in_ok-told.ensures.told c.in_ok-told.ensures.leads c.local-local.ensures c.in_ok-list.ensures
