-- What one call of an end in futures comes to.
use Rattle.std.specs.Prelude.{◌≡◌, ◌⊎◌, Bool, false, true, Option, Result, Ok, List, [], ◌∷◌}
use Rattle.std.specs.Result.{result_ok}
use Rattle.queue_steps.specs.declared.{model.Call.Call as call, model.Reply.Reply as reply, errors.PopError.PopError}
use Rattle.concurrent_queue.specs.{SawMore.SawMore, Shared.PartyView}
use Rattle.waker_list.specs.declared.place.Look.{Look}
use Rattle.counted_channel.specs.declared.{calls.errors.Disconnected.Disconnected, calls.waited.Items.Items, calls.waited.Room.Room, polling.PolledRecv.PolledRecv, polling.PolledRecv.PolledRecv as polled, polling.PolledSend.PolledSend, polling.PolledSend.PolledSend as put}
use Rattle.counted_channel.specs.{QueueCalls.Polled.Misses, QueueCalls.Polled.IsAtList, Channel.End, Channel.ChannelCall, Channel.Ends, Channel.sent, Channel.received}

-- a receiver in futures: the end, as it was before the pop that it is in, and whether it is in one that has taken its item
pub record PollingEnd (T : Type 0) : Type 0 where
  pub end : End T
  pub in_pop : Bool

module _ {T : Type 0} where
  -- the end has done nothing, and may have seen more
  abbrev pub EndWaited : End T → End T → Type 0
  EndWaited d e = SawMore d.party e.party × (e.counts ≡ d.counts) × (e.stake ≡ d.stake)

  -- the poll of a receive took the receiver from d to e
  abbrev pub PollsRecv : PollingEnd T → PolledRecv T → PollingEnd T → Type 0
  PollsRecv d (polled.Answered r place) e = ChannelCall d.end call.Pop (received r) e.end × (e.in_pop ≡ false)
  PollsRecv d (polled.Taken place) e = EndWaited d.end e.end × (e.in_pop ≡ true)
  PollsRecv d other e = EndWaited d.end e.end × (e.in_pop ≡ false)

  -- the receiver is as it was, or the pop that it was in is over
  abbrev pub PopEnds : PollingEnd T → PollingEnd T → Type 0
  PopEnds d e = (e ≡ d) ⊎ ((d.in_pop ≡ true) × (e.in_pop ≡ false) × (EndWaited d.end e.end ⊎ ((r : Result T PopError) × ChannelCall d.end call.Pop (reply.Pop r) e.end)))

  -- the pop that the receiver was in is over, and then the receiver is no more, and its party is given back as w
  abbrev pub EndsAfterPop : PollingEnd T → PartyView T → Bool → Type 0
  EndsAfterPop d w last = (e : PollingEnd T) × PopEnds d e × Ends e.end.party w last

  -- the poll of a send of x did
  abbrev pub PollsSend : End T → T → PolledSend T → End T → Type 0
  PollsSend d x (put.Answered r place) e = ChannelCall d (call.Push x) (sent r) e
  PollsSend d x (put.Full y missed) e = EndWaited d e × (y ≡ x)
  PollsSend d x (put.Busy y look) e = EndWaited d e × (y ≡ x)

  -- the future is at the list of its look
  abbrev pub RecvKeeps : Look Items → PolledRecv T → Type 0
  RecvKeeps look (polled.Answered r place) = IsAtList look place
  RecvKeeps look (polled.Empty missed) = Misses look missed
  RecvKeeps look (polled.Taken place) = IsAtList look place
  RecvKeeps look (polled.Busy same) = same ≡ look

  abbrev pub SendKeeps : Look Room → PolledSend T → Type 0
  SendKeeps look (put.Answered r place) = IsAtList look place
  SendKeeps look (put.Full y missed) = Misses look missed
  SendKeeps look (put.Busy y same) = same ≡ look

  -- receives of the end gave these items in order, and then this answer
  abbrev pub HasReceived : End T → List T → Option T → Type 0
  HasReceived d [] o = (r : Result T Disconnected) × (e : End T) × (o ≡ result_ok r) × ChannelCall d call.Pop (received r) e
  HasReceived d (x ∷ xs) o = (e : End T) × ChannelCall d call.Pop (received (Ok x)) e × HasReceived e xs o
