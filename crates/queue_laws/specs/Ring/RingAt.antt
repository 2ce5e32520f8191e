-- Where a call on a ring stands between its steps, and what it knows there.
use Rattle.std.proofs.Common.{ℕ, ◌+◌, ◌%◌, ◌<◌, ◌≤◌, ◌≡◌, ◌⊎◌, false, Some, List, length, ◌-◌, Bool, true, Option, None, [], ◌∷◌}
use Rattle.queue_steps.specs.{State.State, Words.position_of, Words.is_shut, Words.slot_at, Words.stamp_filled, Words.stamp_emptied, declared.steps.ring.RingLocal.RingLocal as ring, Kinds.call_value, Looks.call_of_look, Looks.IsCount}
use Rattle.queue_laws.specs.Common.{Moments.HasItems, Moments.IsStarted, Moments.SeenIn, Moments.HeadWas, Pushes.pushes, Stand.Stand, Stand.stand, Stand.empty_handed, Stand.brings}
use Rattle.queue_laws.specs.Ring.RingCells.{Free, Full, Ring, Written, Read, Coming, Swapped, HoldsNone, HoldsOne}
use Rattle.queue_laws.specs.Common.Vocabulary.{Call, Effect, Word, Op, Touch, Look, Local, RingLocal, Next, PushKind, LIMIT, MARK, TAIL_STEP}

-- the slot of the position q is free for it, or the tail has moved on
abbrev pub FreeAt : {A : Type 0} → ℕ → Ring A → ℕ → Type 0
FreeAt cap r q = (q ≤ r.tail) × ((q < r.tail) ⊎ (r.cells (q % cap) ≡ Free q))

-- the slot of the position h is filled for it, or the head has moved on
abbrev pub FullAt : {A : Type 0} → ℕ → Ring A → ℕ → Type 0
FullAt {A} cap r h = (h < r.head) ⊎ ((x : A) × (r.cells (h % cap) ≡ Full h x))

-- a moment at which the tail stood at q, the queue was open, and no more items had left than by now
abbrev pub TailWas : {A : Type 0} → ℕ → ℕ → ℕ → State A → Type 0
TailWas cap q head m = (m.cap ≡ Some cap) × (m.closed ≡ false) × (m.accepted ≡ q) × (q ≤ length m.items + head) × (length m.items ≤ cap)

-- a moment at which the list had room
abbrev pub HasRoom : {A : Type 0} → ℕ → State A → Type 0
HasRoom cap m = (m.cap ≡ Some cap) × (length m.items < cap)

-- after the head was read at h: the list was seen with an item, or nothing was accepted since
abbrev pub SawEmpty : {A : Type 0} → ℕ → Ring A → List (State A) → Type 0
SawEmpty h r ms = IsStarted ms × (h ≤ r.head) × (SeenIn ms HasItems ⊎ (r.tail ≡ h))

-- after the tail was read at q: the list was seen with room, or nothing left since
abbrev pub SawFull : {A : Type 0} → ℕ → ℕ → Ring A → List (State A) → Type 0
SawFull cap q r ms = IsStarted ms × (q ≤ r.tail) × (SeenIn ms (HasRoom cap) ⊎ (r.head + cap ≡ q))

-- a push read the tail at t, of an open queue below its limit
pub record SawTail {A : Type 0} (cap : ℕ) (r : Ring A) (t : ℕ) (ms : List (State A)) (was : Bool) : Type 0 where
  pub unshut : is_shut t ≡ false
  pub below : position_of t < LIMIT
  pub behind : position_of t ≤ r.tail
  pub moment : SeenIn ms (TailWas cap (position_of t) r.head)
  pub opened : was ≡ true

-- a call that touches the slot i, and then stores n as its stamp
abbrev pub stores : {A : Type 0} → RingLocal → (ℕ → Touch) → ℕ → ℕ → Option A → Call A → List (Effect A) → Stand A
stores l touch i n v k es = stand (Local.Ring l) (touch i) (Op.Store (Word.Stamp i) n) v k es

-- Where a call of the party who stands.
pub data At {A : Type 0} (cap : ℕ) (r : Ring A) (who : ℕ) (ms : List (State A)) (was : Bool) : Stand A → Type 0 where
  push_tail : (d : PushKind) (v : A) → HoldsNone r.cells who
      → At cap r who ms was (brings (Local.Ring (ring.PushTail d)) (Op.Load Word.Tail) d v)
  push_stamp : (d : PushKind) (v : A) (t : ℕ) → HoldsNone r.cells who → SawTail cap r t ms was
      → At cap r who ms was (brings (Local.Ring (ring.PushStamp d t)) (Op.Load (Word.Stamp (slot_at cap (position_of t)))) d v)
  claiming : (d : PushKind) (v : A) (t : ℕ) → HoldsNone r.cells who → SawTail cap r t ms was → FreeAt cap r (position_of t)
      → At cap r who ms was (brings (Local.Ring (ring.Claiming d t)) (Op.Exchange Word.Tail t (t + TAIL_STEP)) d v)
  filling : (d : PushKind) (v : A) (q : ℕ) → HoldsOne r.cells who (q % cap) (Written q who v)
      → At cap r who ms was (stores (ring.Filling d) Touch.Put (slot_at cap q) (stamp_filled q) (Some v) (pushes d v) (Effect.Append v ∷ []))
  push_head : (v : A) (t : ℕ) → HoldsNone r.cells who → SawTail cap r t ms was
      → At cap r who ms was (brings (Local.Ring (ring.PushHead t)) (Op.Load Word.Head) PushKind.Push v)
  displacing : (v : A) (t h : ℕ) → HoldsNone r.cells who → SawTail cap r t ms was → h + cap ≡ position_of t → FullAt cap r h
      → At cap r who ms was (brings (Local.Ring (ring.Displacing t)) (Op.Exchange Word.Head (position_of t - cap) (position_of t - cap + 1)) PushKind.Force v)
  arriving : (old v : A) (t h : ℕ) → position_of t < LIMIT → h + cap ≡ position_of t → HoldsOne r.cells who (h % cap) (Coming h who old v)
      → At cap r who ms was (stand (Local.Ring (ring.Arriving t)) Touch.Nothing (Op.Add Word.Tail TAIL_STEP) (Some v) (Call.ForcePush v) (Effect.Front old v ∷ []))
  swapping : (old v : A) (h : ℕ) → HoldsOne r.cells who (h % cap) (Swapped h who old v)
      → At cap r who ms was (stores ring.Swapping Touch.Swap (slot_at cap (h + cap)) (stamp_filled (h + cap)) (Some v) (Call.ForcePush v) (Effect.Front old v ∷ Effect.Arrive ∷ []))
  spending : (d : PushKind) (v : A) → HoldsNone r.cells who → LIMIT ≤ r.tail
      → At cap r who ms was (brings (Local.Ring (ring.ClosingAtLimit d)) (Op.Or Word.Tail MARK) d v)
  pop_head : HoldsNone r.cells who
      → At cap r who ms was (empty_handed (Local.Ring ring.PopHead) (Op.Load Word.Head) Call.Pop)
  pop_stamp : (h : ℕ) → HoldsNone r.cells who → h ≤ r.head
      → At cap r who ms was (empty_handed (Local.Ring (ring.PopStamp h)) (Op.Load (Word.Stamp (slot_at cap h))) Call.Pop)
  taking : (h : ℕ) → HoldsNone r.cells who → h ≤ r.head → FullAt cap r h
      → At cap r who ms was (empty_handed (Local.Ring (ring.Taking h)) (Op.Exchange Word.Head h (h + 1)) Call.Pop)
  emptying : (x : A) (h : ℕ) → HoldsOne r.cells who (h % cap) (Read h who x)
      → At cap r who ms was (stores ring.Emptying Touch.Take (slot_at cap h) (stamp_emptied cap h) None Call.Pop (Effect.Take x ∷ []))
  pop_tail : (h : ℕ) → HoldsNone r.cells who → h ≤ r.head → FreeAt cap r h
      → At cap r who ms was (empty_handed (Local.Ring (ring.PopTail h)) (Op.Load Word.Tail) Call.Pop)
  count_tail : (g : Look) → IsCount A g → HoldsNone r.cells who
      → At cap r who ms was (empty_handed (Local.Ring (ring.CountTail g)) (Op.Load Word.Tail) (call_of_look g))
  count_head : (g : Look) (t : ℕ) → IsCount A g → HoldsNone r.cells who → position_of t ≤ r.tail
      → At cap r who ms was (empty_handed (Local.Ring (ring.CountHead g t)) (Op.Load Word.Head) (call_of_look g))
  count_again : (g : Look) (t h : ℕ) → IsCount A g → HoldsNone r.cells who → SeenIn ms (HeadWas (Some cap) h (position_of t) r.tail)
      → At cap r who ms was (empty_handed (Local.Ring (ring.CountAgain g t h)) (Op.Load Word.Tail) (call_of_look g))
  empty_head : HoldsNone r.cells who
      → At cap r who ms was (empty_handed (Local.Ring ring.EmptyHead) (Op.Load Word.Head) Call.IsEmpty)
  empty_tail : (h : ℕ) → HoldsNone r.cells who → SawEmpty h r ms
      → At cap r who ms was (empty_handed (Local.Ring (ring.EmptyTail h)) (Op.Load Word.Tail) Call.IsEmpty)
  full_tail : HoldsNone r.cells who
      → At cap r who ms was (empty_handed (Local.Ring ring.FullTail) (Op.Load Word.Tail) Call.IsFull)
  full_head : (t : ℕ) → HoldsNone r.cells who → SawFull cap (position_of t) r ms
      → At cap r who ms was (empty_handed (Local.Ring (ring.FullHead t)) (Op.Load Word.Head) Call.IsFull)
  closing : HoldsNone r.cells who
      → At cap r who ms was (empty_handed (Local.Ring ring.Closing) (Op.Or Word.Tail MARK) Call.Close)
  closed_tail : HoldsNone r.cells who
      → At cap r who ms was (empty_handed (Local.Ring ring.ClosedTail) (Op.Load Word.Tail) Call.IsClosed)

-- the first step of a call of a party that holds nothing
abbrev pub Begun : {A : Type 0} → ℕ → Ring A → ℕ → Call A → Next ℕ → Type 0
Begun cap r who c (Next.Step l t o) = At cap r who [] false (stand l t o (call_value c) c [])
Begun cap r who c (Next.Reply x spare) = Unit {0}
