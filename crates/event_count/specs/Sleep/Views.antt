-- A future learns at its next lock that a notify has taken it off the list. Where it is until then, and where it takes itself to be.
use Rattle.std.specs.Prelude.{◌≡◌, ◌⊎◌, Bool, true, false}
use Rattle.event_count.specs.declared.wakes.seats.Seat.{Seat, TheVariants.Away, TheVariants.Looking, TheVariants.Asleep, TheVariants.Notified, TheVariants.Taken, TheVariants.Given}
use Rattle.event_count.specs.Sleep.{Lists.is_on, Seats.entered_of, Seats.looked_of, Seats.taken_off_of, Seats.left_of}

-- it is at the first seat, takes itself to be at the second, and has not learned all
abbrev pub is_behind : Seat → Seat → Bool
is_behind Notified Looking = true
is_behind Notified Asleep = true
is_behind Away Asleep = true
is_behind Given Taken = true
is_behind Away Taken = true
is_behind Away Notified = true
is_behind Away Given = true
is_behind seat view = false

abbrev pub IsView : Seat → Seat → Type 0
IsView seat view = (seat ≡ view) ⊎ (is_behind seat view ≡ true)

-- what it does by its view is what it does where it is
pub record ViewsAgree : Type 0 where
  -- a notify takes it off the list
  pub pops : (s : Seat) → is_on s ≡ true → IsView (taken_off_of s) s
  -- it learns that
  pub learns : (s v : Seat) → is_on s ≡ false → IsView s v → IsView s (taken_off_of v)
  pub enters : (s : Seat) → IsView s Away → IsView (entered_of s) (entered_of Away)
  pub looks : (s v : Seat) (found : Bool) → IsView s v → IsView (looked_of s found) (looked_of v found)
  pub leaves : (s v : Seat) → is_on v ≡ false → IsView s v → IsView (left_of s) (left_of v)
  -- it notifies one, as any party may that is away
  pub notifies : (s : Seat) → IsView s Given → (s ≡ Given) ⊎ (s ≡ Away)
  -- it is away
  pub ends : (s : Seat) → IsView s Away → s ≡ Away
