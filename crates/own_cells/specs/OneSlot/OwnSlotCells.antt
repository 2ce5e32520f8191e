-- What the steps of a call do on one slot.
use Rattle.std.specs.Prelude.{◌≡◌, ℕ, Bool, true, false, bit_and, bit_or, ◌==◌, List, [], ◌∷◌, Option, Some, None, if◌then◌else◌}
use Rattle.queue_steps.specs.declared.steps.{types.Kind.Kind, types.Kind.Kind as kind, types.Answer.Answer, types.Answer.Answer as answer, types.Op.Op, types.Op.Op as op, types.Touch.Touch, types.Touch.Touch as touch, types.Word.TheVariants.Lock, slot.TheConstants.PUSHED, slot.TheConstants.CLOSED}
use Rattle.queue_steps.specs.{State.State, Sequential.Owned, SlotNext.is_marked}
use Rattle.own_cells.specs.{declared.slot.own_slot.OwnSlot.OwnSlot, OneSlot.ComputedSteps.CanTouch, OneSlot.ComputedSteps.Touches, OneSlot.ComputedSteps.CanPerform, OneSlot.ComputedSteps.Performs}

abbrev pub kind_of_slot : {T : Type 0} → OwnSlot T → Kind
kind_of_slot s = kind.Single

-- the list of a slot
abbrev pub items_in : {T : Type 0} → Option T → List T
items_in None = []
items_in (Some x) = x ∷ []

-- the queue of a slot under this word. Its accepted items are not counted
abbrev pub state_of : {T : Type 0} → ℕ → Option T → State T
state_of word item = record { items = items_in item; cap = Some 1; closed = is_marked word; coming = None; accepted = 0 }

-- the word of a slot that no call holds
abbrev pub word_for : {T : Type 0} → Option T → Bool → ℕ
word_for None false = 0
word_for (Some x) false = PUSHED
word_for None true = CLOSED
word_for (Some x) true = bit_or PUSHED CLOSED

abbrev pub slot_owned : {T : Type 0} → OwnSlot T → Owned T
slot_owned s = record { queue = state_of s.lock s.item; blocks = 0 }

-- no call holds the slot
abbrev pub IsIdle : {T : Type 0} → OwnSlot T → Type 0
IsIdle s = s.lock ≡ word_for s.item (is_marked s.lock)

-- the slot and the call's own place change their content
abbrev pub slot_touched : {T : Type 0} → OwnSlot T → Touch → Op Unit → Option T → OwnSlot T × Option T
slot_touched s touch.Nothing o carried = (s, carried)
slot_touched s _ o carried = (record s { item = carried }, s.item)

-- the word after an operation on it
abbrev pub after_op : Op Unit → ℕ → ℕ
after_op (op.Or w bits) word = bit_or word bits
after_op (op.And w bits) word = bit_and word bits
after_op (op.Exchange w expected new) word = if word == expected then new else word
after_op _ word = word

abbrev pub slot_performed : {T : Type 0} → OwnSlot T → Op Unit → Answer Unit × OwnSlot T
slot_performed s o = (answer.Found s.lock, record s { lock = after_op o s.lock })

abbrev pub slot_touchable : {T : Type 0} → OwnSlot T → Touch → Op Unit → Bool
slot_touchable s t o = true

-- a slot has one word, which is loaded, exchanged, and changed by its bits
abbrev pub slot_operable : {T : Type 0} → OwnSlot T → Op Unit → Bool
slot_operable s (op.Load Lock) = true
slot_operable s (op.Or Lock bits) = true
slot_operable s (op.And Lock bits) = true
slot_operable s (op.Exchange Lock expected new) = true
slot_operable s _ = false

abbrev pub slot_can_touch : {T : Type 0} → OwnSlot T → Touch → Op Unit → Type 0
slot_can_touch s t o = CanTouch slot_touchable slot_touched slot_operable slot_performed s t o

abbrev pub slot_can_perform : {T : Type 0} → OwnSlot T → Op Unit → Type 0
slot_can_perform {T} s o = CanPerform slot_touchable (slot_touched {T = T}) slot_operable slot_performed s o

abbrev pub slot_touches : {T : Type 0} → OwnSlot T → Touch → Op Unit → Option T → OwnSlot T → Option T → Type 0
slot_touches s t o carried after left = Touches slot_touchable slot_touched slot_operable slot_performed s t o carried after left

abbrev pub slot_performs : {T : Type 0} → OwnSlot T → Op Unit → Answer Unit → OwnSlot T → Type 0
slot_performs {T} s o a after = Performs slot_touchable (slot_touched {T = T}) slot_operable slot_performed s o a after

-- a slot has no blocks, so nothing is given up
abbrev pub slot_can_release : {T : Type 0} → OwnSlot T → Unit {0} → Type 0
slot_can_release s b = Unit {0}

abbrev pub slot_releases : {T : Type 0} → OwnSlot T → Unit {0} → OwnSlot T → Type 0
slot_releases s b after = after ≡ s
