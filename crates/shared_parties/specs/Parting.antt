-- How the parties of a queue are counted, parted, joined and brought together, whatever the queue is made of: what their seats know then.
use Rattle.std.specs.Prelude.{◌≡◌, ◌≢◌, ℕ, ◌<◌, ◌≤◌, false, List, map, slice_set}
use Rattle.queue_laws.specs.Common.Vocabulary.{Effect, MAX_PARTIES}
use Rattle.queue_steps.specs.{Shares.IsEntire, Parties.IsView, Parties.Split, Parties.Join, Parties.Meet}
use Rattle.shared_parties.specs.{declared.known.CallState.CallState, CallStates.idle, CallStates.is_busy, CallStates.known_by, CallStates.IsResting, CallStates.SameCalls, CallStates.Sharing}
use Rattle.shared_parties.specs.Known.{view_of, looked, granted, refused, withdrawn, united, one_of, other_of, pair_of, Kept, Sees}

-- Where the seats are ws, those in calls are as they were, and what all know is true of the same history, of which n counts the parties
abbrev pub Regroups : {T : Type 0} {m : ℕ} {vs : List (CallState T)} → Sharing m vs → ℕ → List (CallState T) → Type 0
Regroups {vs = vs} k n ws = SameCalls vs ws × Kept k.cap k.history n (map known_by ws)

-- the count becomes new, the seat id goes on, and told is so of it
abbrev pub Recounts : {T : Type 0} {m : ℕ} {vs : List (CallState T)} → Sharing m vs → ℕ → ℕ → (CallState T → Type 0) → Type 0
Recounts {T} {vs = vs} k id new told = (w : CallState T) × Regroups k new (slice_set vs id w) × told w

-- the seat of two parties, which is at nothing
abbrev pub IsTwo : {T : Type 0} → CallState T → Type 0
IsTwo d = (is_busy d.work ≡ false) × (d.known.parties ≡ 2) × (d.known.surplus ≡ 0)

-- the count of parties was raised, which was n: for a second party, or in vain as it was too high, and then there were other parties
abbrev pub Entered : {T : Type 0} → ℕ → CallState T → CallState T → Type 0
Entered n d e = (n < MAX_PARTIES → e ≡ idle (granted d.known)) × (MAX_PARTIES ≤ n → (e ≡ idle (refused d.known)) × ¬ (IsEntire d.known.share))

-- the count of parties, raised in vain, was lowered
abbrev pub Withdrew : {T : Type 0} → CallState T → CallState T → Type 0
Withdrew d e = e ≡ idle (withdrawn d.known)

-- two parties are one, which saw the history h
abbrev pub BecameOne : {T : Type 0} → CallState T → CallState T → Type 0
BecameOne {T} d e = (h : List (Effect T)) × (e ≡ idle (united h d.known)) × Sees d.known (looked h d.known)

-- the seat saw the history h
abbrev pub SawAll : {T : Type 0} → CallState T → CallState T → Type 0
SawAll {T} d e = (h : List (Effect T)) × (e ≡ idle (looked h d.known)) × Sees d.known (looked h d.known)

-- the count n is one exactly where the party has all shares. Nothing changed
abbrev pub Counted : {T : Type 0} → ℕ → CallState T → CallState T → Type 0
Counted n d e = (e ≡ d) × (n ≡ 1 → IsEntire d.known.share) × (n ≢ 1 → ¬ (IsEntire d.known.share))

-- of two parties in one seat, the one and the other
abbrev pub first_part : {T : Type 0} → CallState T → CallState T
first_part d = idle (one_of d.known)

abbrev pub second_part : {T : Type 0} → CallState T → CallState T
second_part d = idle (other_of d.known)

-- the parties of two seats in one
abbrev pub both_parts : {T : Type 0} → CallState T → CallState T → CallState T
both_parts d e = idle (pair_of d.known e.known)

-- the seat of one party that is between its calls, and what it knows is a view of a queue of its capacity
abbrev pub IsParty : {T : Type 0} → CallState T → Type 0
IsParty d = IsResting d × IsView d.known.cap (view_of d.known)

-- the party d is parted into a and b
abbrev pub Parts : {T : Type 0} → CallState T → CallState T → CallState T → Type 0
Parts d a b = IsParty a × IsParty b × (a.known.cap ≡ d.known.cap) × (b.known.cap ≡ d.known.cap) × Split d.known.cap (view_of d.known) (view_of a.known) (view_of b.known)

-- the parties a and b become w
abbrev pub Joins : {T : Type 0} → CallState T → CallState T → CallState T → Type 0
Joins a b w = IsParty w × (w.known.cap ≡ a.known.cap) × Join a.known.cap (view_of a.known) (view_of b.known) (view_of w.known)

-- the parties a and b meet, and are then c and d
abbrev pub Meets : {T : Type 0} → CallState T → CallState T → CallState T → CallState T → Type 0
Meets a b c d = IsParty c × IsParty d × (c.known.cap ≡ a.known.cap) × (d.known.cap ≡ a.known.cap) × Meet a.known.cap (view_of a.known) (view_of b.known) (view_of c.known) (view_of d.known)
