-- What the steps of a call do on a ring.
use Rattle.std.specs.Prelude.{◌≡◌, ℕ, ◌+◌, ◌^◌, Bool, true, false, ◌==◌, bit_or, List, length, slice_set, get_or, Option, None, if◌then◌else◌, nat_lt}
use Rattle.queue_steps.specs.declared.steps.types.{Kind.Kind, Kind.Kind as kind, Answer.Answer, Answer.Answer as answer, Op.Op, Op.Op as op, Word.Word as word, Touch.Touch, Touch.Touch as touch}
use Rattle.own_cells.specs.OneSlot.ComputedSteps.{CanTouch, Touches, CanPerform, Performs}

-- what is in a ring: how many slots, the two positions in their words, the stamps, each of which says for which position its slot is free or filled, and the slots
pub record RingState (T : Type 0) : Type 0 where
  pub cap : ℕ
  pub head : ℕ
  pub tail : ℕ
  pub stamps : List ℕ
  pub slots : List (Option T)

abbrev pub kind_of_ring : {T : Type 0} → RingState T → Kind
kind_of_ring r = kind.Bounded r.cap

-- the stamp and the content of the slot of this number; there is none beyond the last
abbrev pub stamp_at : {T : Type 0} → RingState T → ℕ → ℕ
stamp_at r i = get_or r.stamps i 0

abbrev pub item_at : {T : Type 0} → RingState T → ℕ → Option T
item_at r i = get_or r.slots i None

-- the call's own place and a slot change their content
abbrev pub exchanged : {T : Type 0} → RingState T → ℕ → Option T → RingState T × Option T
exchanged r i carried = (record r { slots = slice_set r.slots i carried }, item_at r i)

abbrev pub ring_touched : {T : Type 0} → RingState T → Touch → Op ℕ → Option T → RingState T × Option T
ring_touched r touch.Nothing o carried = (r, carried)
ring_touched r (touch.Put i) o carried = exchanged r i carried
ring_touched r (touch.Swap i) o carried = exchanged r i carried
ring_touched r (touch.Take i) o carried = exchanged r i carried

-- the last line stands for what `ring_operable` excludes
abbrev pub ring_performed : {T : Type 0} → RingState T → Op ℕ → Answer ℕ × RingState T
ring_performed r (op.Load word.Tail) = (answer.Found r.tail, r)
ring_performed r (op.Load word.Head) = (answer.Found r.head, r)
ring_performed r (op.Load (word.Stamp i)) = (answer.Found (stamp_at r i), r)
ring_performed r (op.Exchange word.Tail a b) = (answer.Found r.tail, record r { tail = if r.tail == a then b else r.tail })
ring_performed r (op.Exchange word.Head a b) = (answer.Found r.head, record r { head = if r.head == a then b else r.head })
ring_performed r (op.Or word.Tail bits) = (answer.Found r.tail, record r { tail = bit_or r.tail bits })
ring_performed r (op.Add word.Tail more) = (answer.Found r.tail, record r { tail = r.tail + more })
ring_performed r (op.Store (word.Stamp i) stamp) = (answer.Done, record r { stamps = slice_set r.stamps i stamp })
ring_performed r _ = (answer.Done, r)

abbrev pub ring_touchable : {T : Type 0} → RingState T → Touch → Op ℕ → Bool
ring_touchable r touch.Nothing o = true
ring_touchable r (touch.Put i) o = nat_lt i (length r.slots)
ring_touchable r (touch.Swap i) o = nat_lt i (length r.slots)
ring_touchable r (touch.Take i) o = nat_lt i (length r.slots)

-- a ring's words are its two positions and the stamps of its slots, each with operations of its own
abbrev pub ring_operable : {T : Type 0} → RingState T → Op ℕ → Bool
ring_operable r (op.Load word.Tail) = true
ring_operable r (op.Load word.Head) = true
ring_operable r (op.Load (word.Stamp i)) = nat_lt i (length r.stamps)
ring_operable r (op.Exchange word.Tail a b) = true
ring_operable r (op.Exchange word.Head a b) = true
ring_operable r (op.Or word.Tail bits) = true
ring_operable r (op.Add word.Tail more) = nat_lt (r.tail + more) (2 ^ 64)
ring_operable r (op.Store (word.Stamp i) stamp) = nat_lt i (length r.stamps)
ring_operable r _ = false

abbrev pub ring_can_touch : {T : Type 0} → RingState T → Touch → Op ℕ → Type 0
ring_can_touch r t o = CanTouch ring_touchable ring_touched ring_operable ring_performed r t o

abbrev pub ring_can_perform : {T : Type 0} → RingState T → Op ℕ → Type 0
ring_can_perform {T} r o = CanPerform ring_touchable (ring_touched {T = T}) ring_operable ring_performed r o

abbrev pub ring_touches : {T : Type 0} → RingState T → Touch → Op ℕ → Option T → RingState T → Option T → Type 0
ring_touches r t o carried after left = Touches ring_touchable ring_touched ring_operable ring_performed r t o carried after left

abbrev pub ring_performs : {T : Type 0} → RingState T → Op ℕ → Answer ℕ → RingState T → Type 0
ring_performs {T} r o a after = Performs ring_touchable (ring_touched {T = T}) ring_operable ring_performed r o a after

-- a ring has no blocks, so nothing is given up
abbrev pub ring_can_release : {T : Type 0} → RingState T → ℕ → Type 0
ring_can_release r b = Unit {0}

abbrev pub ring_releases : {T : Type 0} → RingState T → ℕ → RingState T → Type 0
ring_releases r b after = after ≡ r
