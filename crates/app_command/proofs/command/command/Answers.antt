use Rattle.std.proofs.Common.{inl, inr, ◌∙◌}
use Rattle.app_command.proofs.command.command.Goals as goal
use Rattle.app_command.proofs.command.command.Goals.{in-Ok, in-Err}

pub returns-clause-end : goal.returns-clause-end
returns-clause-end g c =
    let ended = rw c.deref.ensures.value at c.run-end.ensures in
    elim c.match-end.branch [
      | in-Ok w ↦ inl (w.in-Ok.verdict, w.status-is ∙ w.status-status.ensures, rw w.in-Ok.is at ended)
      | in-Err w ↦ inr (w.in-Err.fault, w.status-is ∙ w.tell-status.ensures, rw w.in-Err.is at ended)
    ]
