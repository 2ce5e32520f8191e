-- What a contract sees of the items that a receiver receives.
use Rattle.std.specs.Prelude.{◌≡◌, Option, Result}
use Rattle.std.specs.{Result.result_ok, Borrow.GName}
use Rattle.queue_steps.specs.declared.model.Call.{Call as call}
use Rattle.counted_channel.specs.{declared.calls.errors.Disconnected.Disconnected, declared.items.Items.Items, Channel.End, Channel.IsEndOf, Channel.ChannelCall, Channel.received}

-- r is what a `recv` of the end gave, and took the end from d to e
abbrev pub Received : {T : Type 0} → End T → Option T → End T → Type 0
Received {T} d r e = (answer : Result T Disconnected) × (r ≡ result_ok answer) × ChannelCall d call.Pop (received answer) e

module _ {T R A : Type 0} where
  -- the receiver is one of the channel's
  abbrev pub IsItemsOf : Items T R A → Type 0
  IsItemsOf it = IsEndOf it.receiver.now it.channel.now

  -- the ghost name of the reference to the receiver
  abbrev pub items_lender : Items T R A → GName
  items_lender it = it.receiver.ghost_name

  -- `next` received by the same receiver of the same channel
  abbrev pub Receives : Items T R A → Option T → Items T R A → Type 0
  Receives old r new = Received old.receiver.now r new.receiver.now × (new.channel.now ≡ old.channel.now) × (items_lender new ≡ items_lender old)
