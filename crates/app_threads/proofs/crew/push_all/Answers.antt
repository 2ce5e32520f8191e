use Rattle.std.proofs.Common.{true, false, refl}
use Rattle.app_threads.proofs.Works.{none_taken, none_few, quit_work, done_work}
use Rattle.app_threads.proofs.crew.push_all.Goals as goal

pub returns-then-not-push_one : goal.returns-then-not-push_one
returns-then-not-push_one g c =
    let before = c.loop-value.invariant in let items = c.args.plan.items in let most = c.args.plan.share in
    quit_work c.args.queue.now items most c.args.party c.loop-value.party (record { party = c.push_one.new.party; counts = c.new.result; done = false }) c.requires before.queue
    (none_taken items 0 c.args.party c.loop-value.party c.new.result.items c.new.ensures.items before.taken) (none_few most 0 c.new.result.items c.new.ensures.items) c.if-not-push_one.ensures refl

pub returns : goal.returns
returns g c =
    let before = c.loop-value.invariant in let items = c.args.plan.items in let most = c.args.plan.share in
    done_work c.args.queue.now items most c.args.party (record { party = c.loop-value.party; counts = c.new-2.result; done = true }) c.requires before.queue
    (none_taken items 0 c.args.party c.loop-value.party c.new-2.result.items c.new-2.ensures.items before.taken) (none_few most 0 c.new-2.result.items c.new-2.ensures.items) before.share refl
