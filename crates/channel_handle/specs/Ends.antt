-- What the two ends of a new channel are.
use Rattle.std.specs.Prelude.{◌≡◌, ℕ, Option, []}
use Rattle.queue_steps.specs.Shares.{entire}
use Rattle.concurrent_queue.specs.Shared.{PartyView, Parts}
use Rattle.counted_channel.specs.Channel.{End}

-- the first sender and the first receiver of a channel over the queue of this party: each has all of the stakes in its side, and they part the party
abbrev pub AreEnds : {T : Type 0} → PartyView T → End T → End T → Type 0
AreEnds v s r =
    (s.party.queue ≡ v.queue) × (r.party.queue ≡ v.queue) × (r.counts ≡ s.counts) × (s.stake ≡ entire) × (r.stake ≡ entire) × Parts v s.party r.party

-- the first sender and the first receiver of a new channel of this capacity
abbrev pub IsPair : {T : Type 0} → Option ℕ → End T → End T → Type 0
IsPair cap s r = (s.party.queue.cap ≡ cap) × AreEnds (record { queue = s.party.queue; view = record { seen = []; mine = []; share = entire } }) s r
