use Rattle.app_threads.proofs.EndWorks.{idle_work, took_nothing}
use Rattle.app_threads.proofs.ends.send_all.Goals as goal

pub returns : goal.returns
returns g c =
    let sent = c.send_values-done in let v = c.args.sender.party in
    idle_work c.args.channel.now.queue c.args.plan.items c.args.plan.share 0 v (record { party = c.end_sending.result; counts = c.new.result; done = sent.result }) c.requires.0
    (took_nothing v sent.new.sender.party c.end_sending.result sent.ensures.1 c.end_sending.ensures) c.new.ensures.items
