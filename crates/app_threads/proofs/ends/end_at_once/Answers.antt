use Rattle.std.proofs.Common.{subst, sym}
use Rattle.app_threads.{specs.Works.TookNothing, proofs.EndWorks.idle_work}
use Rattle.app_threads.proofs.ends.end_at_once.Goals as goal

pub returns-in-Send : goal.returns-in-Send
returns-in-Send g c =
    let of = rw c.in-Send.is at c.requires in let v = c.in-Send.sender.party in
    rw c.in-Send.is (idle_work c.args.channel.now.queue c.args.plan.items c.args.plan.share 0 v c.idle.result of.0 (subst (TookNothing v) (sym c.idle.ensures.0) c.end_sending.ensures) c.idle.ensures.1)

pub returns-in-Receive : goal.returns-in-Receive
returns-in-Receive g c =
    let of = rw c.in-Receive.is at c.requires in let v = c.in-Receive.receiver.party in let idle = c.idle-in-Receive in
    rw c.in-Receive.is (idle_work c.args.channel.now.queue c.args.plan.items c.args.plan.share 0 v idle.result of.0 (subst (TookNothing v) (sym idle.ensures.0) c.end_receiving.ensures) idle.ensures.1)
