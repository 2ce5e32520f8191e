-- What one call that a future makes comes to, and which list the future is at after it.
use Rattle.std.specs.Prelude.{◌≡◌, ◌⊎◌, Bool, false, true, Result, Ok, Err}
use Rattle.queue_steps.specs.declared.{model.Call.Call, model.Call.Call as call, model.Reply.Reply as reply, errors.PopError.PopError, errors.PopError.PopError as pop, errors.PushError.PushError as push}
use Rattle.concurrent_queue.specs.{SawMore.SawMore, Shared.QueueId, Shared.PartyView, Shared.IsPartyOf, Shared.Calls}
use Rattle.event_count.specs.Sleep.Seats.{looked_of}
use Rattle.waker_list.specs.declared.place.{Place.Place, Look.Look, Missed.Missed}
use Rattle.counted_channel.specs.declared.calls.waited.{Items.Items, Room.Room}
use Rattle.counted_channel.specs.declared.calls.polled.{PollState.PollState, PollState.PollState as poll, Attempt.Attempt, Attempt.Attempt as attempt, PolledPop.PolledPop, PolledPop.PolledPop as popped, PolledPush.PolledPush, PolledPush.PolledPush as pushed}

module _ {T A : Type 0} where
  -- the party, as it was before the pop that it is in
  abbrev pub party_at : PollState T A → PartyView T
  party_at (poll.Between p) = p
  party_at (poll.Popping p) = p.party

  -- the call that it is in; where it is in none, this one
  abbrev pub call_at : PollState T A → Call T
  call_at (poll.Between p) = call.Pop
  call_at (poll.Popping p) = p.call

  -- it is in a pop that has taken its item
  abbrev pub is_in_pop : PollState T A → Bool
  is_in_pop (poll.Between p) = false
  is_in_pop (poll.Popping p) = true

  -- it is one of the queue's, and is in no call but a pop
  abbrev pub IsStateOf : PollState T A → QueueId → Type 0
  IsStateOf a q = IsPartyOf (party_at a) q × (call_at a ≡ call.Pop)

  -- the party is in a pop, and is otherwise as it was
  abbrev pub IsPopping : PartyView T → PollState T A → Type 0
  IsPopping v (poll.Between p) = ⊥
  IsPopping v (poll.Popping p) = p.party ≡ v

  -- the pop that the party v is in went on: it goes on still, or has its answer, or has done nothing
  abbrev pub PopGoesOn : PartyView T → PollState T A → Type 0
  PopGoesOn v (poll.Between p) = SawMore v p ⊎ ((r : Result T PopError) × Calls v call.Pop (reply.Pop r) p)
  PopGoesOn v (poll.Popping p) = p.party ≡ v

  -- the party is between two calls, and this is true of it
  abbrev pub IsBetween : PollState T A → (PartyView T → Type 0) → Type 0
  IsBetween (poll.Between p) P = P p
  IsBetween (poll.Popping p) P = ⊥

  -- the try of a pop took the party from v on
  abbrev pub Attempts : PartyView T → Attempt T → PollState T A → Type 0
  Attempts v (attempt.Answered r) a = IsBetween a (λ w. Calls v call.Pop (reply.Pop r) w)
  Attempts v attempt.Busy a = IsBetween a (λ w. SawMore v w)
  Attempts v attempt.Taken a = IsPopping v a

  abbrev pub PollsPop : PartyView T → PolledPop T → PollState T A → Type 0
  PollsPop v (popped.Item x place owed) a = IsBetween a (λ w. Calls v call.Pop (reply.Pop (Ok x)) w)
  PollsPop v (popped.Closed place) a = IsBetween a (λ w. Calls v call.Pop (reply.Pop (Err pop.Closed)) w)
  PollsPop v (popped.Empty missed) a = IsBetween a (λ w. Calls v call.Pop (reply.Pop (Err pop.Empty)) w)
  PollsPop v (popped.Taken place) a = IsPopping v a
  PollsPop v (popped.Busy look) a = IsBetween a (λ w. SawMore v w)

module _ {T : Type 0} where
  -- the push of x took the party from v to w
  abbrev pub PollsPush : PartyView T → T → PolledPush T → PartyView T → Type 0
  PollsPush v x (pushed.Done place owed) w = Calls v (call.Push x) (reply.Push (Ok tt)) w
  PollsPush v x (pushed.Closed y place owed) w = Calls v (call.Push x) (reply.Push (Err (push.Closed y))) w
  PollsPush v x (pushed.NoMemory y place) w = Calls v (call.Push x) (reply.Push (Err (push.NoMemory y))) w
  PollsPush v x (pushed.Full y missed) w = Calls v (call.Push x) (reply.Push (Err (push.Full y))) w
  PollsPush v x (pushed.Busy y look) w = SawMore v w × (y ≡ x)

module _ {C : Type 0} where
  -- the look was in vain
  abbrev pub Misses : Look C → Missed C → Type 0
  Misses look missed = (missed.place.list.now ≡ look.place.list.now) × (missed.place.sitting.seat ≡ looked_of look.place.sitting.seat false)

  -- the look was made at this list
  abbrev pub IsAtList : Look C → Place C → Type 0
  IsAtList look place = place.list.now ≡ look.place.list.now

module _ {T : Type 0} where
  abbrev pub PopKeeps : Look Items → PolledPop T → Type 0
  PopKeeps look (popped.Item x place owed) = IsAtList look place
  PopKeeps look (popped.Closed place) = IsAtList look place
  PopKeeps look (popped.Empty missed) = Misses look missed
  PopKeeps look (popped.Taken place) = IsAtList look place
  PopKeeps look (popped.Busy same) = same ≡ look

  abbrev pub PushKeeps : Look Room → PolledPush T → Type 0
  PushKeeps look (pushed.Done place owed) = IsAtList look place
  PushKeeps look (pushed.Closed y place owed) = IsAtList look place
  PushKeeps look (pushed.NoMemory y place) = IsAtList look place
  PushKeeps look (pushed.Full y missed) = Misses look missed
  PushKeeps look (pushed.Busy y same) = same ≡ look
