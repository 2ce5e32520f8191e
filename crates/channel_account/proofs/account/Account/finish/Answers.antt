use Rattle.std.proofs.Common.{◌++◌, subst}
use Rattle.concurrent_queue.specs.Shared.{Finishes}
use Rattle.channel_handle.specs.Left.{IsLeft}
use Rattle.channel_account.{specs.Told.Told, specs.Told.SameItems, proofs.Settled.settled}
use Rattle.channel_account.proofs.account.Account.finish.Goals as goal

pub returns-in-Ok-clause-finishes : goal.returns-in-Ok-clause-finishes
returns-in-Ok-clause-finishes g c = subst {A = Told g.row.T.Denot} (λ d. Finishes d.party c.in-Ok.left) c.self.view_is c.in-Ok.ensures

pub returns-in-Ok-clause-once : goal.returns-in-Ok-clause-once
returns-in-Ok-clause-once g c =
    subst {A = Told g.row.T.Denot} (λ d. SameItems d.sent (d.came ++ c.in-Ok.left.queue.items)) c.self.view_is
    (settled c.self.inside.ended c.in-Ok.left c.show_view.ensures c.in-Ok.ensures c.show_sound.ensures)

pub returns-in-Err-clause-left : goal.returns-in-Err-clause-left
returns-in-Err-clause-left g c = subst {A = Told g.row.T.Denot} (λ d. IsLeft d.party c.in-Err.left) c.self.view_is c.in-Err.ensures
