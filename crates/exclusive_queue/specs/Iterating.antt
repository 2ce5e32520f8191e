-- What a contract sees of an iterator over a queue with one owner.
use Rattle.std.specs.Prelude.{◌≡◌, List, Option}
use Rattle.std.specs.{Borrow.GName, Iterator.YieldsFirst, Iterator.Yields}
use Rattle.queue_steps.specs.{Sequential.Owned, Sequential.moved, Sequential.sequential_state, declared.model.Call.Call as call}
use Rattle.exclusive_queue.specs.declared.exclusive.iter.TryIter.{TryIter}

-- the queue as a pop leaves it
abbrev pub popped : {T : Type 0} → Owned T → Owned T
popped P = moved P (sequential_state P.queue call.Pop)

module _ {T A : Type 0} where
  -- the items that are still to come: all that the queue holds
  abbrev pub iter_rest : TryIter T A → List T
  iter_rest it = it.queue.now.queue.items

  -- the ghost name of the reference to the queue
  abbrev pub iter_lender : TryIter T A → GName
  iter_lender it = it.queue.ghost_name

  -- `next` took the front off, if there was one, as a pop of the same queue does
  abbrev pub IterSteps : TryIter T A → Option T → TryIter T A → Type 0
  IterSteps old item new = YieldsFirst iter_rest old item new × (iter_lender new ≡ iter_lender old) × (new.queue.now ≡ popped old.queue.now)

  -- whatever calls of `next` lead to is an iterator over the same queue
  abbrev pub IterKeepsAlong : TryIter T A → Type 0
  IterKeepsAlong first = (items : List T) (later : TryIter T A) → Yields IterSteps first items later → iter_lender later ≡ iter_lender first
