-- Where a future is between its steps.
use Rattle.std.specs.Prelude.{◌≡◌, ◌⊎◌, Bool, true, false, Option, Some, None, IsTrue, is_some, if◌then◌else◌}
use Rattle.futures.specs.declared.util.wait_list.Ticket.{Ticket}
use Rattle.event_count.specs.declared.wakes.seats.Seat.{Seat, TheVariants.Away, TheVariants.Looking, TheVariants.Asleep, TheVariants.Notified, TheVariants.Given}
use Rattle.event_count.specs.Sleep.{Lists.is_on, Seats.taken_off_of, Seats.left_of}

abbrev pub is_away : Seat → Bool
is_away Away = true
is_away other = false

-- a look may be made there
abbrev pub may_look : Seat → Bool
may_look Away = true
may_look Looking = true
may_look Asleep = true
may_look Notified = true
may_look other = false

-- a look in vain ends there
abbrev pub is_missed : Seat → Bool
is_missed Away = true
is_missed Asleep = true
is_missed other = false

-- nothing is owed, or a notify of one
abbrev pub is_settled : Seat → Bool
is_settled Away = true
is_settled Given = true
is_settled other = false

-- it has an entry exactly if it is on the list, as far as it knows
abbrev pub HasEntry : Seat → Option Ticket → Type 0
HasEntry seat ticket = is_on seat ≡ is_some ticket

abbrev pub MayLook : Seat → Option Ticket → Type 0
MayLook seat ticket = HasEntry seat ticket × IsTrue (may_look seat)

-- where it is once its entry has ended, which a notify had taken off the list or not
abbrev pub came_off_of : Seat → Bool → Seat
came_off_of seat taken_off = if taken_off then taken_off_of seat else left_of seat

-- it has no entry any more: a notify had taken it off the list, or it came off by itself
abbrev pub ComesOff : Seat → Option Ticket → Seat → Type 0
ComesOff seat (Some ticket) seat' = (seat' ≡ taken_off_of seat) ⊎ (seat' ≡ Away)
ComesOff seat None seat' = seat' ≡ seat

-- before a look it sees whether a notify has taken it off the list
abbrev pub Rises : Seat → Seat → Type 0
Rises seat seat' = (seat' ≡ seat) ⊎ (seat' ≡ taken_off_of seat)
