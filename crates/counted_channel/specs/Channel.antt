-- A channel over a shared queue: which calls of the queue its calls are.
use Rattle.std.specs.Prelude.{◌≡◌, ℕ, Option}
use mathlib.Core.List.{IsPrefix}
use Rattle.atomic_table.specs.Seated.{TableId}
use Rattle.queue_steps.specs.{declared.model.Call.Call, declared.model.Reply.Reply, Effect.IsHistory, Shares.Share, Shares.SamePart, Shares.IsPart, Shares.entire, Shares.half, Shares.plus}
use Rattle.concurrent_queue.specs.Shared.{QueueId, PartyView, Calls, Parts, Joins}
pub use Rattle.counted_channel.specs.QueueCalls.Calls.{Ends, sent, force_sent, received}
use Rattle.counted_channel.specs.{declared.counting.SeatCounts.SeatCounts, Counting.stake_at}

-- which channel: its queue, the table that counts its ends, and the sources of the lists of receivers and of senders that wait in futures, where these may
pub record ChannelId : Type 0 where
  pub queue : QueueId
  pub counts : TableId
  pub receivers : Option ℕ
  pub senders : Option ℕ

-- an end: its party of the queue, the table that counts it, and its part of all stakes in its side, which is no party's share
pub record End (T : Type 0) : Type 0 where
  pub party : PartyView T
  pub counts : TableId
  pub stake : Share

-- the end of the side of this word with this party, which the table counts as its seat knows
abbrev pub end_at : {T : Type 0} → ℕ → PartyView T → TableId → SeatCounts → End T
end_at i p c v = record { party = p; counts = c; stake = stake_at i v }

-- the end is one of this channel's
abbrev pub IsEndOf : {T : Type 0} → End T → ChannelId → Type 0
IsEndOf e c = (e.party.queue ≡ c.queue) × (e.counts ≡ c.counts)

-- the end d becomes e by one call of the queue, however often it was tried
abbrev pub ChannelCall : {T : Type 0} → End T → Call T → Reply T → End T → Type 0
ChannelCall d c r e = Calls d.party c r e.party × (e.counts ≡ d.counts) × (e.stake ≡ d.stake)

-- the ends a and b become w, which has the stakes of both; these are together no more than one
abbrev pub EndJoins : {T : Type 0} → End T → End T → End T → Type 0
EndJoins a b w = Joins a.party b.party w.party × (w.counts ≡ a.counts) × (w.stake ≡ plus a.stake b.stake) × IsPart (plus a.stake b.stake)

-- the end d is parted into a and b, each with half of its stake
abbrev pub EndParts : {T : Type 0} → End T → End T → End T → Type 0
EndParts d a b = Parts d.party a.party b.party × (a.counts ≡ d.counts) × (b.counts ≡ d.counts) × (a.stake ≡ half d.stake) × (b.stake ≡ half d.stake)

-- the end d is given back as e, with its places, its share and its stake
pub record GivenBack {T : Type 0} (d e : End T) : Type 0 where
  pub queue : e.party.queue ≡ d.party.queue
  pub counts : e.counts ≡ d.counts
  pub stake : e.stake ≡ d.stake
  pub begins : IsPrefix d.party.view.seen e.party.view.seen
  pub legal : IsHistory d.party.queue.cap e.party.view.seen
  pub mine : e.party.view.mine ≡ d.party.view.mine
  pub share : SamePart e.party.view.share d.party.view.share

-- the queue q becomes the channel c, and its party v is parted into the first sender and the first receiver, each with all of the stakes in its side
abbrev pub Opens : {T : Type 0} → QueueId → PartyView T → ChannelId → End T → End T → Type 0
Opens q v c s r = (c.queue ≡ q) × Parts v s.party r.party × IsEndOf s c × IsEndOf r c × (s.stake ≡ entire) × (r.stake ≡ entire)
