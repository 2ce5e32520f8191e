use Rattle.std.proofs.Common.{true, refl, arith}
use Rattle.law_parties.specs.Doings.{takes}
use Rattle.app_threads.proofs.EndWorks.{ended_work}
use Rattle.app_threads.proofs.ends.receive_all.Goals as goal

pub returns : goal.returns
returns g c =
    let came = c.receive_values in let v = c.args.receiver.party in let most = c.args.plan.share in
    ended_work c.args.channel.now.queue c.args.plan.items most most (λ x. takes x v.view) v.view.share
    (record { party = came.new.receiver.party; counts = came.new.counts; done = true }) (record { party = c.end_receiving.result; counts = came.new.counts; done = true })
    (omega arith) came.ensures.received c.end_receiving.ensures refl refl
