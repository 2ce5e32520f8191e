use Rattle.std.proofs.Common.{ℕ, ◌+◌, ◌*◌, ap, refl}
use Rattle.queue_steps.specs.Parties.{View}
use Rattle.app_threads.proofs.EndWorks.{ended_channel, tallied, tallied_on, whole_again}
use Rattle.app_threads.proofs.channel.receive_all.Goals as goal

-- all parties have become this one
pub items_left-requires-clause-whole : goal.items_left-requires-clause-whole
items_left-requires-clause-whole g c =
    let made = c.in_ok-queue.ensures.first in
    whole_again c.in_ok-queue.party c.in-Ok.sender.party c.in-Ok.receiver.party c.in_ok-party.field-0.party.view.share c.in-Ok.ensures.opens.1 (ap (λ (v : View ℕ). v.share) made.2) (c.in_ok-party.ensures.0.share c.if-not-done.false)

pub returns-clause-ended : goal.returns-clause-ended
returns-clause-ended g c =
    let made = c.in_ok-queue.ensures.first in let work = c.in_ok-party.ensures.0 in
    let whole = whole_again c.in_ok-queue.party c.in-Ok.sender.party c.in-Ok.receiver.party c.in_ok-party.field-0.party.view.share c.in-Ok.ensures.opens.1 (ap (λ (v : View ℕ). v.share) made.2) (work.share c.if-not-done.false) in
    ended_channel _ c.in_ok-queue.queue c.in_ok-party.field-0.party c.in-Some.left (record { channel = c.in-Ok.channel; party = c.items_left.new.party }) work.queue c.in-Ok.ensures.opens.0 made.1 whole
    (rw c.in-Some.is at c.items_left.ensures)

pub returns-clause-tally : goal.returns-clause-tally
returns-clause-tally g c =
    let made = c.in_ok-queue.ensures.first in let plan = c.plan_of.result in
    let work = c.in_ok-party.field-0 in
    let sees = rw c.in-Some.is at c.items_left.ensures in
    tallied_on c.args.load work.party c.items_left.new.party work.counts.items
    (tallied c.args.load _ plan.items ((plan.pushers + plan.poppers) * plan.share) c.in_ok-queue.party c.in-Ok.sender c.in-Ok.receiver work work.party
    c.in_ok-queue.ensures.within c.plan_of.ensures.items c.in-Ok.ensures.opens.1 (ap (λ (v : View ℕ). v.mine) made.2) c.in_ok-party.ensures.0 c.in_ok-party.ensures.1 refl)
    sees.taken

pub returns-clause-left : goal.returns-clause-left
returns-clause-left g c = let sees = rw c.in-Some.is at c.items_left.ensures in sees.counts
