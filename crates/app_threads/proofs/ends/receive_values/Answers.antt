use Rattle.std.proofs.Common.{true, length, refl, ap, ◌∙◌, arith, length-set}
use Rattle.law_parties.specs.Doings.{takes}
use Rattle.app_threads.proofs.EndWorks.{received_nothing, received_one, ended_work, more_work}
use Rattle.app_threads.proofs.ends.receive_values.Goals as goal

pub returns-in_default-clause-received : goal.returns-in_default-clause-received
returns-in_default-clause-received g c =
    let before = c.loop.invariant in let v = c.args.receiver.now.party in let made = rw c.in_default.is at c.recv.ensures in
    ended_work c.args.channel.now.queue c.args.plan.items c.loop.counter c.args.plan.share (λ x. takes x v.view) v.view.share
    (record { party = c.loop.receiver.party; counts = c.loop.counts; done = true }) (record { party = c.recv.new.receiver.party; counts = c.loop.counts; done = true })
    (omega (arith, c.loop-test.true)) before.work (received_nothing c.loop.receiver.party c.recv.new.receiver.party c.in_default.field-0 c.show_view.ensures made.0) refl refl

pub loop-preserved : goal.loop-preserved
loop-preserved g c =
    let before = c.loop.invariant in let made = rw c.in-Ok.is at c.recv.ensures in let counted = c.count.ensures in record {
      end = made.1 ∙ before.end;
      complete = ap length counted ∙ (length-set c.loop.counts.items _ _ ∙ before.complete);
      work = more_work c.args.channel.now.queue c.args.plan.items c.loop.counter c.in-Ok.value c.args.receiver.now.party
          (record { party = c.loop.receiver.party; counts = c.loop.counts; done = true }) (record { party = c.recv.new.receiver.party; counts = c.count.new.counts; done = true })
          before.complete counted (received_one c.loop.receiver.party c.recv.new.receiver.party c.in-Ok.value c.show_view.ensures made.0) refl before.work;
    }
