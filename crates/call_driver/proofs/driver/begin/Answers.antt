use Rattle.call_driver.proofs.Going.{first-step}
use Rattle.call_driver.proofs.driver.begin.Goals as goal

pub returns-clause-begun : goal.returns-clause-begun
returns-clause-begun g c = λ whole n is all.
    let m = g.M.Site in
    first-step m c.kind-kind.result c.args.call c.args.site.now c.args.seat.now whole c.start-local.result n
    c.kind-kind.ensures c.start-local.ensures is all (g.met.M.Site.begins c.args.site.now c.args.seat.now whole c.requires)
