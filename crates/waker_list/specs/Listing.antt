-- What becomes of a list under its lock.
use Rattle.std.specs.Prelude.{◌≡◌, ℕ, [], ◌∷◌, ◌++◌, Option, Some, None}
use Rattle.std.specs.Option.{option_to_list}
use Rattle.futures.specs.{WaitList.WaitList, WaitList.queue, WaitList.IsQueued, WaitList.IsParkedAt, declared.task.context.Context.Context}
use Rattle.event_count.specs.declared.wakes.seats.ListStep.{ListStep, TheVariants.TakeOne, TheVariants.TakeAll}
use Rattle.waker_list.specs.declared.state.Joined.{Joined}

abbrev Waiters : Type 0
Waiters = WaitList (Unit {0})

-- the future is at the end of the list, with its waker; without memory nothing has changed there
abbrev pub Inserts : Context → Waiters → Option Joined → Context → Waiters → Type 0
Inserts cx w (Some joined) cx' w' = IsParkedAt cx cx' w' joined.ticket.key × (queue w' ≡ queue w ++ joined.ticket.key ∷ [])
Inserts cx w None cx' w' = (cx' ≡ cx) × (queue w' ≡ queue w)

-- the future is where it was, with its waker
abbrev pub Stays : Context → Waiters → ℕ → Context → Waiters → Type 0
Stays cx w key cx' w' = IsParkedAt cx cx' w' key × (queue w' ≡ queue w)

-- a step that takes futures off the list
abbrev pub IsTaking : ListStep → Type 0
IsTaking TakeOne = Unit {0}
IsTaking TakeAll = Unit {0}
IsTaking other = ⊥

-- the first is taken off, if there is one, or all are
abbrev pub Takes : ListStep → Waiters → Waiters → Type 0
Takes TakeOne w w' = (first : Option ℕ) × (queue w ≡ option_to_list first ++ queue w') × (first ≡ None → queue w ≡ [])
Takes TakeAll w w' = (key : ℕ) → ¬ IsQueued w' key
Takes other w w' = ⊥
