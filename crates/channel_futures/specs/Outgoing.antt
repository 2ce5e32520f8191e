-- What a contract sees of a sender in futures.
use Rattle.std.specs.Prelude.{◌≡◌, ℕ, List, ◌++◌, Option, Some, None, Result, Ok, option_to_list}
use Rattle.std.specs.{Arc.arc_value, Borrow.GName}
use Rattle.queue_steps.specs.declared.model.Call.{Call as call}
use Rattle.counted_channel.specs.{declared.calls.errors.SendError.SendError, Channel.End, Channel.ChannelCall, Channel.sent}
use Rattle.channel_account.specs.Told.{told}
use Rattle.channel_futures.specs.declared.outgoing.{Outgoing.Outgoing, SendOne.SendOne}

module _ {T : Type 0} where
  -- the end that sends there
  abbrev pub end_of : Outgoing T → End T
  end_of o = o.owed.end

  -- the source that it waits for
  abbrev pub source_of : Outgoing T → ℕ
  source_of o = (arc_value o.list).source.id

  -- it is an end of the same channel, and waits on the same list
  abbrev pub SameChannel : Outgoing T → Outgoing T → Type 0
  SameChannel o p = (p.channel ≡ o.channel) × (p.list ≡ o.list)

  -- what was held, if anything, was sent with this answer
  abbrev pub HeldSent : End T → Option T → Result (Unit {0}) (SendError T) → End T → Type 0
  HeldSent d (Some x) r e = ChannelCall d (call.Push x) (sent r) e
  HeldSent d None r e = (r ≡ Ok tt) × (e ≡ d)

  -- it has taken these: what its end has sent, and then what it holds
  abbrev pub HasTaken : Outgoing T → List T → Type 0
  HasTaken o xs = xs ≡ (told (end_of o).party).sent ++ option_to_list o.held

  -- the ghost name of the future's reference to its sink
  abbrev pub lender_of : SendOne T → GName
  lender_of f = f.outgoing.ghost_name
