use Rattle.std.proofs.Common.{rules}
use Rattle.callers.proofs.ChannelHalves.{halves_again}
use Rattle.callers.proofs.channel.hand_through.Goals as goal

-- the two parties are together all of the share
pub unreachable-requires-in-Err : goal.unreachable-requires-in-Err
unreachable-requires-in-Err g c =
    c.in-Err.ensures.2 (halves_again c.in_ok-queue.party c.in-Ok.sender.party c.in-Ok.receiver.party c.join-party.result.view.share (search rules) (search rules) (search rules))
