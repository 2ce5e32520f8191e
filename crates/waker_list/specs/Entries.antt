-- What a future has that has entered a list.
use Rattle.std.specs.Prelude.{◌≡◌, ◌⊎◌, true}
use Rattle.futures.specs.declared.task.context.Context.{Context}
use Rattle.event_count.specs.declared.wakes.seats.Seat.TheVariants.{Looking, Asleep}
use Rattle.waker_list.specs.declared.place.{entering.Entry.Entry, entering.Entry.TheVariants.Look, entering.Entry.TheVariants.Wait, Place.Place}

module _ {C : Type 0} where
  -- its place is such
  abbrev pub HasPlace : Entry C → (Place C → Type 0) → Type 0
  HasPlace (Look again) P = P again.place
  HasPlace (Wait place) P = P place

  -- who looks once more is on the list; who is pending without another look is asleep there, or has asked for another poll
  abbrev pub IsEnteredAt : Context → Entry C → Type 0
  IsEnteredAt cx (Look again) = again.place.sitting.seat ≡ Looking
  IsEnteredAt cx (Wait place) = (place.sitting.seat ≡ Asleep) ⊎ (cx.is_woken ≡ true)
