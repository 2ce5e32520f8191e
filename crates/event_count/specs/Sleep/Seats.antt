-- Where a party at a list of wakers is after what it does.
use Rattle.std.specs.Prelude.{Bool, if◌then◌else◌}
use Rattle.event_count.specs.declared.wakes.seats.{Seat.Seat, ListStep.ListStep, ListStep.TheVariants.Rest, ListStep.TheVariants.Load, ListStep.TheVariants.TakeOne, ListStep.TheVariants.TakeAll}
use Rattle.event_count.specs.declared.wakes.seats.Seat.TheVariants.{Away, Looking, Asleep, Notified, Taken, Given, Waking, Telling, Calling}

-- what a notify does next
abbrev pub step_of : Seat → ListStep
step_of Given = Load
step_of Telling = Load
step_of Waking = TakeOne
step_of Calling = TakeAll
step_of other = Rest

abbrev pub entered_of : Seat → Seat
entered_of Away = Looking
entered_of other = other

-- it has looked, and has found what it waits for or not
abbrev pub looked_of : Seat → Bool → Seat
looked_of Looking found = if found then Taken else Asleep
looked_of Asleep found = if found then Taken else Asleep
looked_of Notified found = Away
looked_of other found = other

-- a notify has taken it off the list. One that has found what it waits for hands that wake on
abbrev pub taken_off_of : Seat → Seat
taken_off_of Looking = Notified
taken_off_of Asleep = Notified
taken_off_of Taken = Given
taken_off_of other = other

-- it has come off the list by itself, or hands its wake on
abbrev pub left_of : Seat → Seat
left_of Looking = Away
left_of Asleep = Away
left_of Taken = Away
left_of Notified = Given
left_of other = other

-- the next step of a notify, where nobody was on the list or somebody was
abbrev pub next_of : Seat → Bool → Seat
next_of Given nobody = if nobody then Away else Waking
next_of Telling nobody = if nobody then Away else Calling
next_of Waking nobody = Away
next_of Calling nobody = Away
next_of other nobody = other
