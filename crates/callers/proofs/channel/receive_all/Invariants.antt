use Rattle.std.specs.Prelude.{◌≡◌}
use Rattle.counted_channel.specs.Channel.{IsEndOf}
use Rattle.callers.proofs.channel.receive_all.Given as goal

-- the end is still one of the channel's, and its party has its share
abbrev pub invariant-loop : goal.invariant-loop
invariant-loop g l = IsEndOf l.receiver l.fn.channel × (l.receiver.party.view.share ≡ l.fn.receiver.party.view.share)
