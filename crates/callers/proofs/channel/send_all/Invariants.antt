use Rattle.std.specs.Prelude.{◌≡◌}
use Rattle.counted_channel.specs.Channel.{IsEndOf}
use Rattle.callers.proofs.channel.send_all.Given as goal

-- the end is still one of the channel's, and its party has its share
abbrev pub invariant-loop-item : goal.invariant-loop-item
invariant-loop-item g l = IsEndOf l.sender l.fn.channel × (l.sender.party.view.share ≡ l.fn.sender.party.view.share)
