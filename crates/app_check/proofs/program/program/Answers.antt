use Rattle.app_check.proofs.program.program.Goals as goal

pub returns : goal.returns
returns g c = rw c.from.ensures c.status_of.ensures
