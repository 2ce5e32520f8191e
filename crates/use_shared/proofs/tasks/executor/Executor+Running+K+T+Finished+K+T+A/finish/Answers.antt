use Rattle.std.proofs.Common.{length}
use Rattle.use_shared.proofs.Shifts.{outputs_once}
use Rattle.use_shared.proofs.tasks.executor.Executor+Running+K+T+Finished+K+T+A.finish.Goals as goal

pub returns : goal.returns
returns g c =
    outputs_once (λ t. t.number) (λ d. d.number) (length g.K.Batch.outcomes) c.args.worker c.in-Ok.tasks c.in-Ok-finish.outputs c.requires.done c.show_view.ensures c.show_view-2.ensures
    c.in-Ok.ensures c.show_sound.ensures c.in-Ok-finish.ensures c.show_sound-2.ensures
