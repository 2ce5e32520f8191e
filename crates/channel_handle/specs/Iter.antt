-- What a contract sees of a receiver's iterators.
use Rattle.std.specs.{Prelude.◌≡◌, Prelude.ℕ, Prelude.List, Prelude.Option, Prelude.Result, Result.result_ok, Borrow.GName, Iterator.Yields, Sync.Forever.forever_left}
use Rattle.queue_steps.specs.declared.{model.Call.Call as call, model.Reply.Reply as reply, errors.PopError.PopError}
use Rattle.counted_channel.specs.{Channel.End, Channel.ChannelCall, Receiving.Received}
use Rattle.channel_handle.specs.declared.{into_iter.IntoIter.IntoIter, iter.Iter.Iter, iter.TryIter.TryIter}

-- r is what a `try_recv` of the end gave, and took the end from d to e
abbrev pub TriedToReceive : {T : Type 0} → End T → Option T → End T → Type 0
TriedToReceive {T} d r e = (answer : Result T PopError) × (r ≡ result_ok answer) × ChannelCall d call.Pop (reply.Pop answer) e

module _ {T R A : Type 0} where
  -- how many turns an `Iter` has left
  abbrev pub iter_left : Iter T R A → ℕ
  iter_left it = forever_left it.turns

  -- the ghost name of the reference to the receiver
  abbrev pub iter_lender : Iter T R A → GName
  iter_lender it = it.receiver.ghost_name

  -- `next` received by the same receiver
  abbrev pub IterReceives : Iter T R A → Option T → Iter T R A → Type 0
  IterReceives old r new = Received old.receiver.now r new.receiver.now × (iter_lender new ≡ iter_lender old)

  -- whatever calls of `next` lead to is an iterator of the same receiver
  abbrev pub IterKeepsAlong : Iter T R A → Type 0
  IterKeepsAlong first = (items : List T) (later : Iter T R A) → Yields IterReceives first items later → iter_lender later ≡ iter_lender first

  -- the same of a `TryIter`
  abbrev pub try_iter_left : TryIter T R A → ℕ
  try_iter_left it = forever_left it.turns

  abbrev pub try_iter_lender : TryIter T R A → GName
  try_iter_lender it = it.receiver.ghost_name

  abbrev pub TryIterReceives : TryIter T R A → Option T → TryIter T R A → Type 0
  TryIterReceives old r new = TriedToReceive old.receiver.now r new.receiver.now × (try_iter_lender new ≡ try_iter_lender old)

  abbrev pub TryIterKeepsAlong : TryIter T R A → Type 0
  TryIterKeepsAlong first = (items : List T) (later : TryIter T R A) → Yields TryIterReceives first items later → try_iter_lender later ≡ try_iter_lender first

  -- the same of an `IntoIter`, which has its receiver
  abbrev pub into_iter_left : IntoIter T R A → ℕ
  into_iter_left it = forever_left it.turns

  abbrev pub IntoIterReceives : IntoIter T R A → Option T → IntoIter T R A → Type 0
  IntoIterReceives old r new = Received old.receiver r new.receiver
