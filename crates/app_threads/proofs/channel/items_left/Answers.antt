use Rattle.std.proofs.Common.{◌≡◌, Bool, true, subst}
use Rattle.queue_steps.specs.declared.model.{Call.Call as call, Reply.Reply as reply}
use Rattle.concurrent_queue.specs.Shared.{Calls}
use Rattle.app_threads.proofs.EndWorks.{sees_left}
use Rattle.app_threads.proofs.channel.items_left.Goals as goal

pub returns : goal.returns
returns g c =
    let seen = c.is_closed_by.new.party in
    let shut : c.is_closed_by.result ≡ true = c.if-not-is_closed_by.false in
    let first : Calls c.args.party.now call.IsClosed (reply.IsClosed true) seen = subst {A = Bool} (λ b. Calls c.args.party.now call.IsClosed (reply.IsClosed b) seen) shut c.is_closed_by.ensures in
    sees_left c.args.party.now seen c.len_by-left.new.party c.len_by-left.result c.show_view.ensures c.show_view-2.ensures c.show_view-3.ensures c.requires.whole first c.len_by-left.ensures
