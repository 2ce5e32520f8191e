use Rattle.std.proofs.Common.{ℕ, ap, rules}
use Rattle.queue_steps.specs.Parties.{View}
use Rattle.callers.proofs.ChannelHalves.{gathered_again}
use Rattle.callers.proofs.channel.gather.Goals as goal

-- the three parties are together all of the share
pub unreachable-requires : goal.unreachable-requires
unreachable-requires g c =
    let sides = c.in-Ok.ensures.opens.1.2.share in let senders = c.in-Ok-split_sender.ensures.0.2.share in
    let sent = c.join-first.ensures.first in let ended = c.join-first.result in
    c.in-Err.ensures.2
    (gathered_again c.in_ok-queue.party.view.share c.in-Ok.sender.party.view.share c.in-Ok.receiver.party.view.share c.in-Ok-split_sender.one.party.view.share c.in-Ok-split_sender.two.party.view.share
    ended.0.0.0.view.share ended.0.1.0.view.share ended.1.0.view.share c.join.result.view.share c.join-party.result.view.share
    (ap (λ (v : View ℕ). v.share) c.in_ok-queue.ensures.first.2) sides.0 sides.1 senders.0 senders.1 sent.1 sent.3 (search rules) c.join.ensures.1.share c.join-party.ensures.1.share)
