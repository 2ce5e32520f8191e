-- What a contract sees of a receiver in futures.
use Rattle.std.specs.Prelude.{◌≡◌, ℕ, Bool}
use Rattle.std.specs.{Arc.arc_value, Borrow.GName}
use Rattle.counted_channel.specs.Channel.{End}
use Rattle.channel_futures.specs.declared.incoming.{Incoming.Incoming, Recv.Recv}

module _ {T : Type 0} where
  -- the end that receives there
  abbrev pub end_of : Incoming T → End T
  end_of i = i.owed.end.end

  -- its pop has taken an item that is not written yet
  abbrev pub is_in_pop : Incoming T → Bool
  is_in_pop i = i.owed.end.in_pop

  -- the source that it waits for
  abbrev pub source_of : Incoming T → ℕ
  source_of i = (arc_value i.list).source.id

  -- it is an end of the same channel, and waits on the same list
  abbrev pub SameChannel : Incoming T → Incoming T → Type 0
  SameChannel i j = (j.channel ≡ i.channel) × (j.list ≡ i.list)

  -- the ghost name of the future's reference to its stream
  abbrev pub lender_of : Recv T → GName
  lender_of f = f.incoming.ghost_name
