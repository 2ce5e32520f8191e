-- The steps of a queue of one slot.
use Rattle.std.specs.Prelude.{ℕ, Bool, not, bit_and, bit_or, ◌==◌, Some, None, Ok, Err, if◌then◌else◌}
use Rattle.queue_steps.specs.declared.{model.Call.Call, model.Reply.Reply, model.Reply.Reply as reply, errors.PopError.PopError as pop, errors.PushError.PushError as push, errors.ForcePushError.ForcePushError as force}
use Rattle.queue_steps.specs.declared.steps.types.{Local.Local as local, Next.Next, Next.Next as next, Op.Op, Op.Op as op, Touch.Touch, Touch.Touch as touch, Word.TheVariants.Lock}
use Rattle.queue_steps.specs.declared.steps.{ring.PushKind.PushKind as kind, looks.CallView.CallView, looks.CallView.CallView as view, looks.Look.Look, slot.TheConstants.LOCKED, slot.TheConstants.PUSHED, slot.TheConstants.CLOSED, slot.TheConstants.UNLOCKED, slot.TheConstants.UNPUSHED}
use Rattle.queue_steps.specs.declared.steps.slot.SlotLocal.{SlotLocal, TheVariants.Pushing, TheVariants.Pushed, TheVariants.Forcing, TheVariants.Forced, TheVariants.Popping, TheVariants.Popped, TheVariants.Closing, TheVariants.Looking}
use Rattle.queue_steps.specs.Looks.{call_view, reply_of_look}

-- one step, after which the call waits at l
abbrev pub at : {B : Type 0} → SlotLocal → Touch → Op B → Next B
at l t o = next.Step (local.Slot l) t o

-- the end of the call
abbrev pub ends : {B : Type 0} → Reply Unit → Next B
ends r = next.Reply r None

abbrev pub P1 : {B : Type 0} → Next B
P1 = at Pushing touch.Nothing (op.Exchange Lock 0 (bit_or LOCKED PUSHED))

abbrev pub F1 : {B : Type 0} → ℕ → Next B
F1 seen = at (Forcing seen) touch.Nothing (op.Exchange Lock seen (bit_or LOCKED PUSHED))

-- the word seen, with LOCKED and without PUSHED
abbrev pub O1 : {B : Type 0} → ℕ → Next B
O1 seen = at (Popping seen) touch.Nothing (op.Exchange Lock seen (bit_and (bit_or seen LOCKED) UNPUSHED))

abbrev pub looks : {B : Type 0} → Look → Next B
looks l = at (Looking l) touch.Nothing (op.Load Lock)

abbrev pub unlocked : ℕ → ℕ
unlocked word = bit_and word UNLOCKED

abbrev pub unlocks : {B : Type 0} → Op B
unlocks = op.And Lock UNLOCKED

abbrev pub is_marked : ℕ → Bool
is_marked word = not (bit_and word CLOSED == 0)

abbrev pub is_pushed : ℕ → Bool
is_pushed word = not (bit_and word PUSHED == 0)

-- where a call begins, by what it does
abbrev pub slot_start : {B : Type 0} → CallView → Next B
slot_start (view.Push kind.Push) = P1
slot_start (view.Push kind.Force) = F1 0
slot_start view.Pop = O1 PUSHED
slot_start view.Close = at Closing touch.Nothing (op.Or Lock CLOSED)
slot_start (view.Look l) = looks l
slot_start view.Capacity = ends (reply.Capacity (Some 1))

abbrev pub slot_begin : {B : Type 0} → Call Unit → Next B
slot_begin c = slot_start (call_view c)

-- what one look at the word answers
abbrev pub seen_reply : {R : Type 0} → Look → ℕ → Reply R
seen_reply l word = reply_of_look (Some 1) (if is_pushed word then 1 else 0) (is_marked word) l

-- what follows the word that was found
abbrev pub slot_next : {B : Type 0} → SlotLocal → ℕ → Next B
slot_next Pushing found =
    if found == 0 then at Pushed (touch.Put 0) unlocks
    else (if is_marked found then ends (reply.Push (Err (push.Closed tt)))
    else (if is_pushed found then ends (reply.Push (Err (push.Full tt)))
    else P1))
slot_next Pushed found = ends (reply.Push (Ok tt))
slot_next (Forcing seen) found =
    if is_marked found then ends (reply.ForcePush (Err (force.Closed tt)))
    else (if found == seen then at (Forced seen) (if seen == 0 then touch.Put 0 else touch.Swap 0) unlocks
    else F1 (unlocked found))
slot_next (Forced seen) found = ends (reply.ForcePush (Ok (if seen == 0 then None else Some tt)))
slot_next (Popping seen) found =
    if found == seen then at Popped (touch.Take 0) unlocks
    else (if not (is_pushed found) then ends (reply.Pop (Err (if not (is_marked found) then pop.Empty else pop.Closed)))
    else O1 (unlocked found))
slot_next Popped found = ends (reply.Pop (Ok tt))
slot_next Closing found = ends (reply.Close (not (is_marked found)))
slot_next (Looking l) found = ends (seen_reply l found)
