-- What a contract sees of an iterator over a shared queue.
use Rattle.std.specs.Prelude.{◌≡◌, Option, Result}
use Rattle.std.specs.{Result.result_ok, Borrow.GName}
use Rattle.queue_steps.specs.declared.{model.Call.Call as call, model.Reply.Reply as reply, errors.PopError.PopError}
use Rattle.concurrent_queue.specs.{declared.shared.iter.TryIter.TryIter, Shared.PartyView, Shared.IsPartyOf, Shared.Calls}

-- r is what a pop of the party gave, and took the party from v to w
abbrev pub Popped : {T : Type 0} → PartyView T → Option T → PartyView T → Type 0
Popped {T} v r w = (answer : Result T PopError) × (r ≡ result_ok answer) × Calls v call.Pop (reply.Pop answer) w

module _ {T R A : Type 0} where
  -- the iterator pops for a party of its queue
  abbrev pub IsIterOf : TryIter T R A → Type 0
  IsIterOf it = IsPartyOf it.party.now it.queue.now

  -- the ghost name of the reference to the party
  abbrev pub iter_lender : TryIter T R A → GName
  iter_lender it = it.party.ghost_name

  -- `next` popped for the same party of the same queue
  abbrev pub IterPops : TryIter T R A → Option T → TryIter T R A → Type 0
  IterPops old r new = Popped old.party.now r new.party.now × (new.queue.now ≡ old.queue.now) × (iter_lender new ≡ iter_lender old)
