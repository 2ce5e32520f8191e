-- What a future does by what it knows is what it does where it is.
use Rattle.std.proofs.Common.{◌≡◌, ◌⊎◌, inl, inr, Bool, true, false, refl, ap}
use Rattle.event_count.specs.{declared.wakes.seats.Seat.Seat, Sleep.Lists.is_on, Sleep.Seats.entered_of, Sleep.Seats.looked_of, Sleep.Seats.taken_off_of, Sleep.Seats.left_of, Sleep.Views.is_behind, Sleep.Views.IsView, Sleep.Views.ViewsAgree}
use Rattle.event_count.specs.declared.wakes.seats.Seat.TheVariants.{Away, Looking, Asleep, Notified, Taken, Given, Waking, Telling, Calling}

pops : (s : Seat) → is_on s ≡ true → IsView (taken_off_of s) s
pops Looking on = inr refl
pops Asleep on = inr refl
pops Taken on = inr refl
pops other on = absurd (cc)

learns_behind : (s v : Seat) → is_behind s v ≡ true → IsView s (taken_off_of v)
learns_behind Notified Looking b = inl refl
learns_behind Notified Asleep b = inl refl
learns_behind Away Asleep b = inr refl
learns_behind Given Taken b = inl refl
learns_behind Away Taken b = inr refl
learns_behind Away Notified b = inr refl
learns_behind Away Given b = inr refl
learns_behind s v b = absurd (cc)

off_same : (s : Seat) → is_on s ≡ false → s ≡ taken_off_of s
off_same Away off = refl
off_same Notified off = refl
off_same Given off = refl
off_same Waking off = refl
off_same Telling off = refl
off_same Calling off = refl
off_same other off = absurd (cc)

learns : (s v : Seat) → is_on s ≡ false → IsView s v → IsView s (taken_off_of v)
learns s v off (inl same) = let here = off_same s off in inl (cc)
learns s v off (inr behind) = learns_behind s v behind

ends_behind : (s : Seat) → is_behind s Away ≡ true → s ≡ Away
ends_behind Away b = refl
ends_behind Notified b = absurd (cc)
ends_behind Given b = absurd (cc)
ends_behind other b = absurd (cc)

enters : (s : Seat) → IsView s Away → IsView (entered_of s) (entered_of Away)
enters s (inl same) = inl (ap entered_of same)
enters s (inr behind) = inl (ap entered_of (ends_behind s behind))

looks_behind : (s v : Seat) (f : Bool) → is_behind s v ≡ true → IsView (looked_of s f) (looked_of v f)
looks_behind Notified Looking true b = inr refl
looks_behind Notified Looking false b = inr refl
looks_behind Notified Asleep true b = inr refl
looks_behind Notified Asleep false b = inr refl
looks_behind Away Asleep true b = inr refl
looks_behind Away Asleep false b = inr refl
looks_behind Given Taken f b = inr refl
looks_behind Away Taken f b = inr refl
looks_behind Away Notified f b = inl refl
looks_behind Away Given f b = inr refl
looks_behind s v f b = absurd (cc)

looks : (s v : Seat) (f : Bool) → IsView s v → IsView (looked_of s f) (looked_of v f)
looks s v f (inl same) = inl (ap (λ x. looked_of x f) same)
looks s v f (inr behind) = looks_behind s v f behind

leaves_behind : (s v : Seat) → is_on v ≡ false → is_behind s v ≡ true → IsView (left_of s) (left_of v)
leaves_behind Notified Looking off b = absurd (cc)
leaves_behind Notified Asleep off b = absurd (cc)
leaves_behind Given Taken off b = absurd (cc)
leaves_behind Away Notified off b = inr refl
leaves_behind Away Given off b = inr refl
leaves_behind s v off b = absurd (cc)

leaves : (s v : Seat) → is_on v ≡ false → IsView s v → IsView (left_of s) (left_of v)
leaves s v off (inl same) = inl (ap left_of same)
leaves s v off (inr behind) = leaves_behind s v off behind

notifies_behind : (s : Seat) → is_behind s Given ≡ true → s ≡ Away
notifies_behind Away b = refl
notifies_behind other b = absurd (cc)

notifies : (s : Seat) → IsView s Given → (s ≡ Given) ⊎ (s ≡ Away)
notifies s (inl same) = inl same
notifies s (inr behind) = inr (notifies_behind s behind)

ends : (s : Seat) → IsView s Away → s ≡ Away
ends s (inl same) = same
ends s (inr behind) = ends_behind s behind

pub views_agree : ViewsAgree
views_agree = record { pops = pops; learns = learns; enters = enters; looks = looks; leaves = leaves; notifies = notifies; ends = ends }
