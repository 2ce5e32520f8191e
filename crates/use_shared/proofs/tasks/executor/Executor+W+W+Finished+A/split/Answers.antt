use Rattle.std.proofs.Common.{sym, subst}
use Rattle.use_shared.{specs.Sharing.Moves, specs.Sharing.none, proofs.Moving.stays, proofs.Shifts.rejoined}
use Rattle.use_shared.proofs.tasks.executor.Executor+W+W+Finished+A.split.Goals as goal

pub returns-in-Err : goal.returns-in-Err
returns-in-Err g c =
    subst (λ q. Moves g.W.Numbered.number g.W.Numbered.finished_number c.args.worker (record { tasks = c.args.worker.tasks; outputs = q }) none none) (sym c.in-Err.ensures.0) (stays g.W.Numbered.number g.W.Numbered.finished_number c.args.worker)

pub returns-in-Err-split : goal.returns-in-Err-split
returns-in-Err-split g c =
    rejoined g.W.Numbered.number g.W.Numbered.finished_number c.args.worker c.in-Err-split.tasks c.in-Ok.outputs c.in-Ok.other_outputs c.join-outputs.result c.in-Err-split.ensures.0 c.in-Ok.ensures c.join-outputs.ensures
    c.show_view-2.ensures c.show_view-in-Err-split.ensures c.show_view-in-Err-split-2.ensures
