use Rattle.history_check.proofs.level.Level.stage_at.Goals as goal

pub returns : goal.returns
returns g c = rw (c.deref.ensures.value, c.self.view_is) at c.copy_at.ensures
