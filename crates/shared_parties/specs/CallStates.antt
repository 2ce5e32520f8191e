-- What a seat is at, beside what it knows, whatever it is a seat of.
use Rattle.std.specs.Prelude.{◌≡◌, ◌<◌, ℕ, Bool, true, false, List, map, Option, None}
use mathlib.Core.Option.{some}
use lib.ListN.{get_elem?}
use Rattle.queue_laws.specs.Common.Vocabulary.{Effect}
use Rattle.queue_steps.specs.{Shares.IsEntire, Parties.IsWhole}
use Rattle.shared_parties.specs.{declared.known.Known.Known, declared.known.Work.Work, declared.known.CallState.CallState, Known.party, Known.nobody, Known.view_of, Known.Kept}

-- a call is on its way, between two of its steps
abbrev pub is_busy : {T : Type 0} → Work T → Bool
is_busy Work.Nothing = false
is_busy (Work.Calls c) = true

abbrev pub known_by : {T : Type 0} → CallState T → Known T
known_by d = d.known

-- a seat that is at nothing
abbrev pub idle : {T : Type 0} → Known T → CallState T
idle k = record { known = k; work = Work.Nothing }

-- the seat of nobody
abbrev pub empty_seat : {T : Type 0} → CallState T
empty_seat = idle (nobody None)

-- the seat of one party that is between its calls
abbrev pub IsResting : {T : Type 0} → CallState T → Type 0
IsResting d = d ≡ idle (party d.known.cap d.known.seen d.known.mine d.known.share)

-- a party with all of the share has every place of what it has seen
abbrev pub HasAll : {T : Type 0} → CallState T → Type 0
HasAll d = IsEntire d.known.share → IsWhole (view_of d.known)

-- the seat of the party that has all shares
abbrev pub IsSeatAlone : {T : Type 0} → CallState T → Type 0
IsSeatAlone d = IsResting d × IsEntire d.known.share

-- the seats vs and ws differ in what those know that are at nothing
pub record SameCalls {T : Type 0} (vs ws : List (CallState T)) : Type 0 where
  pub stays : (j : ℕ) (d : CallState T) → is_busy d.work ≡ true → get_elem? vs j ≡ some d → get_elem? ws j ≡ some d
  pub was : (j : ℕ) (d : CallState T) → is_busy d.work ≡ true → get_elem? ws j ≡ some d → get_elem? vs j ≡ some d

-- what the seats of a queue know is true of its one history, and who is at something is a party; the number n counts the parties
pub record Sharing {T : Type 0} (n : ℕ) (vs : List (CallState T)) : Type 0 where
  pub cap : Option ℕ
  pub history : List (Effect T)
  pub kept : Kept cap history n (map known_by vs)
  pub active : (j : ℕ) (d : CallState T) → get_elem? vs j ≡ some d → is_busy d.work ≡ true → 0 < d.known.parties
