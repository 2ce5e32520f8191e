-- What remains of a history where some values are left out, and calls that only look.
use Rattle.std.specs.Prelude.{ℕ, Bool, true, false, not, Option, Some, None, Ok, Err, List, [], ◌∷◌, slice_set, get_or, replicate, length, ◌<◌, if◌then◌else◌, nat_eq}
use Rattle.queue_steps.specs.{declared.sizes.TheConstants.LIMIT, declared.errors.PushError.PushError as push, declared.errors.ForcePushError.ForcePushError as force, declared.model.Call.Call, declared.model.Call.Call as call, declared.model.Reply.Reply, declared.model.Reply.Reply as reply}
use Rattle.history_check.specs.declared.recorded.{Event.Event, Event.TheVariants.Begin, Event.TheVariants.End, Rules.Rules}
use Rattle.history_check.specs.{Legal.IsLegal, Levels.next_reply}

-- whether a call is left out whose party's next end is recorded with this reply: it brings or takes a value that is not kept, or the reply speaks of room, of a count or of memory. Calls that find nothing or closed are kept if these looks are
abbrev pub is_left_out : (ℕ → Bool) → Bool → Call ℕ → Option (Reply ℕ) → Bool
is_left_out keeps looks (call.Push v) (Some (reply.Push (Err (push.Full w)))) = true
is_left_out keeps looks (call.Push v) (Some (reply.Push (Err (push.NoMemory w)))) = true
is_left_out keeps looks (call.Push v) o = not (keeps v)
is_left_out keeps looks (call.ForcePush v) (Some (reply.ForcePush (Err (force.NoMemory w)))) = true
is_left_out keeps looks (call.ForcePush v) o = not (keeps v)
is_left_out keeps looks call.Pop (Some (reply.Pop (Ok x))) = not (keeps x)
is_left_out keeps looks call.Pop (Some (reply.Pop (Err why))) = not looks
is_left_out keeps looks call.Pop o = false
is_left_out keeps looks call.Close (Some (reply.Close false)) = not looks
is_left_out keeps looks call.Close o = false
is_left_out keeps looks call.IsClosed o = not looks
is_left_out keeps looks call.IsEmpty (Some (reply.IsEmpty true)) = not looks
is_left_out keeps looks c o = true

-- the events that remain, where the parties' calls are left out that are marked
abbrev pub remaining : (ℕ → Bool) → Bool → List Bool → List Event → List Event
remaining keeps looks outs [] = []
remaining keeps looks outs (Begin p c ∷ es) =
    let out = is_left_out keeps looks c (next_reply p es) in
    let rest = remaining keeps looks (slice_set outs p out) es in
    if out then rest else Begin p c ∷ rest
remaining keeps looks outs (End p r ∷ es) = let rest = remaining keeps looks outs es in if get_or outs p false then rest else End p r ∷ rest

-- a forced push is judged only where the queue has no capacity
abbrev pub IsPlain : Option ℕ → Call ℕ → Type 0
IsPlain None c = Unit {0}
IsPlain (Some n) (call.ForcePush v) = ⊥
IsPlain (Some n) c = Unit {0}

abbrev pub ArePlain : Option ℕ → List Event → Type 0
ArePlain cap [] = Unit {0}
ArePlain cap (Begin p c ∷ es) = IsPlain cap c × ArePlain cap es
ArePlain cap (End p r ∷ es) = ArePlain cap es

abbrev pub without_capacity : Rules → Rules
without_capacity rules = record { cap = None; at_once = rules.at_once }

-- what remains of a legal history is legal without a capacity, whichever values are kept
abbrev pub ValuesMayBeLeftOut : Type 0
ValuesMayBeLeftOut = (keeps : ℕ → Bool) (looks : Bool) (rules : Rules) (parties : ℕ) (es : List Event) → length es < LIMIT → ArePlain rules.cap es
    → IsLegal rules parties es → IsLegal (without_capacity rules) parties (remaining keeps looks (replicate parties false) es)

-- whether the value is one of these
abbrev pub is_among : List ℕ → ℕ → Bool
is_among [] v = false
is_among (x ∷ xs) v = if nat_eq x v then true else is_among xs v
