-- Where a call is: the label of its step, as docs/STEPS.md has it, and what it remembers.
use Rattle.std.specs.Prelude.{ℕ, cond, List, [], ◌∷◌, codes, bytes_eq, ◌==◌, Option, Some, None}
use Rattle.queue_steps.specs.declared.steps.{ring.PushKind.PushKind, ring.PushKind.PushKind as push, looks.CallView.CallView, looks.CallView.CallView as view, looks.Look.Look, looks.Look.Look as look, types.Local.Local, types.Local.Local as local, slot.SlotLocal.SlotLocal}
use Rattle.queue_steps.specs.declared.steps.{slot.SlotLocal.SlotLocal as slot, ring.RingLocal.RingLocal, ring.RingLocal.RingLocal as ring, chain.ChainLocal.ChainLocal, chain.ChainLocal.ChainLocal as chain}

-- one slot
abbrev pub slot_label : SlotLocal → List ℕ
slot_label slot.Pushing = codes "P1"
slot_label slot.Pushed = codes "P2"
slot_label (slot.Forcing w) = codes "F1"
slot_label (slot.Forced w) = codes "F2"
slot_label (slot.Popping w) = codes "O1"
slot_label slot.Popped = codes "O2"
slot_label slot.Closing = codes "C1"
slot_label (slot.Looking l) = codes "L1"

-- a ring
abbrev pub ring_label : RingLocal → List ℕ
ring_label (ring.PushTail k) = codes "B1"
ring_label (ring.PushStamp k t) = codes "B2"
ring_label (ring.Claiming k t) = codes "B3"
ring_label (ring.Filling k) = codes "B4"
ring_label (ring.PushHead t) = codes "B5"
ring_label (ring.Displacing t) = codes "F5"
ring_label (ring.Arriving t) = codes "F6"
ring_label ring.Swapping = codes "F7"
ring_label (ring.ClosingAtLimit k) = codes "BS"
ring_label ring.PopHead = codes "O1"
ring_label (ring.PopStamp h) = codes "O2"
ring_label (ring.Taking h) = codes "O3"
ring_label ring.Emptying = codes "O4"
ring_label (ring.PopTail h) = codes "O5"
ring_label (ring.CountTail g) = codes "L1"
ring_label (ring.CountHead g t) = codes "L2"
ring_label (ring.CountAgain g t h) = codes "L3"
ring_label ring.EmptyHead = codes "E1"
ring_label (ring.EmptyTail h) = codes "E2"
ring_label ring.FullTail = codes "G1"
ring_label (ring.FullHead t) = codes "G2"
ring_label ring.Closing = codes "C1"
ring_label ring.ClosedTail = codes "K1"

-- a chain of blocks
abbrev pub chain_label : {B : Type 0} → ChainLocal B → List ℕ
chain_label (chain.PushTail k s) = codes "U1"
chain_label (chain.PushBlock k t s) = codes "U2"
chain_label (chain.Asking k t b) = codes "U3"
chain_label (chain.Installing k t b) = codes "U4"
chain_label (chain.Showing k t b) = codes "U4b"
chain_label (chain.Claiming k t b s) = codes "U5"
chain_label (chain.Laying k t b s) = codes "U6"
chain_label (chain.Opening k t b s) = codes "U7"
chain_label (chain.Chaining k t b s) = codes "U8"
chain_label (chain.Writing k s) = codes "U9"
chain_label (chain.ClosingAtLimit k s) = codes "US"
chain_label chain.PopHead = codes "V1"
chain_label (chain.PopBlock h) = codes "V2"
chain_label (chain.PopTail h b) = codes "V3"
chain_label (chain.Taking h b) = codes "V4"
chain_label (chain.Following h b) = codes "V5"
chain_label (chain.Peeking h b n) = codes "V6"
chain_label (chain.Passing h n more) = codes "V7"
chain_label (chain.Entering h b) = codes "V8"
chain_label (chain.Awaiting h b) = codes "V9"
chain_label (chain.Reading b i) = codes "V10"
chain_label (chain.Walking b i) = codes "W1"
chain_label (chain.Destroying b i) = codes "W2"
chain_label (chain.CountTail g) = codes "Y1"
chain_label (chain.CountHead g t) = codes "Y2"
chain_label (chain.CountAgain g t h) = codes "Y3"
chain_label chain.EmptyHead = codes "E1"
chain_label (chain.EmptyTail h) = codes "E2"
chain_label chain.Closing = codes "C1"
chain_label chain.ClosedTail = codes "L1"

-- the step before which a call stands. One that begins has none yet
abbrev pub local_label : {B : Type 0} → Local B → List ℕ
local_label (local.Begin c) = []
local_label (local.Slot l) = slot_label l
local_label (local.Ring l) = ring_label l
local_label (local.Chain l) = chain_label l

abbrev pub label_text : {B : Type 0} → Option (Local B) → List ℕ
label_text (Some l) = local_label l
label_text None = []

-- the first with this name, or else the last
abbrev pub pick : {L : Type 0} → L → List ℕ → List (List ℕ × L) → L
pick last label [] = last
pick last label ((name, here) ∷ rest) = cond (bytes_eq name label) here (pick last label rest)

abbrev pub or_else : {A : Type 0} → A → Option A → A
or_else a (Some x) = x
or_else a None = a

-- which push a call is, and which look, if it is one
abbrev pub push_of : Option CallView → PushKind
push_of (Some (view.Push p)) = p
push_of _ = push.Push

abbrev pub look_of : Option CallView → Look
look_of (Some (view.Look l)) = l
look_of _ = look.Len

-- a ring: which push or look it is, and two words
abbrev pub ring_at : List ℕ → Option CallView × ℕ × ℕ → RingLocal
ring_at label (which, one, two) = pick ring.ClosedTail label (
    (codes "B1", ring.PushTail (push_of which))
    ∷ (codes "B2", ring.PushStamp (push_of which) one)
    ∷ (codes "B3", ring.Claiming (push_of which) one)
    ∷ (codes "B4", ring.Filling (push_of which))
    ∷ (codes "B5", ring.PushHead one)
    ∷ (codes "F5", ring.Displacing one)
    ∷ (codes "F6", ring.Arriving one)
    ∷ (codes "F7", ring.Swapping)
    ∷ (codes "BS", ring.ClosingAtLimit (push_of which))
    ∷ (codes "O1", ring.PopHead)
    ∷ (codes "O2", ring.PopStamp one)
    ∷ (codes "O3", ring.Taking one)
    ∷ (codes "O4", ring.Emptying)
    ∷ (codes "O5", ring.PopTail one)
    ∷ (codes "L1", ring.CountTail (look_of which))
    ∷ (codes "L2", ring.CountHead (look_of which) one)
    ∷ (codes "L3", ring.CountAgain (look_of which) one two)
    ∷ (codes "E1", ring.EmptyHead)
    ∷ (codes "E2", ring.EmptyTail one)
    ∷ (codes "G1", ring.FullTail)
    ∷ (codes "G2", ring.FullHead one)
    ∷ (codes "C1", ring.Closing)
    ∷ (codes "K1", ring.ClosedTail)
    ∷ [])

-- a chain: which push or look it is, two words, a block, and the one after it or the spare
abbrev pub chain_at : List ℕ → Option CallView × (ℕ × ℕ) × (Option ℕ × Option ℕ) → ChainLocal ℕ
chain_at label (which, (one, two), (block, other)) = pick chain.ClosedTail label (
    (codes "U1", chain.PushTail (push_of which) other)
    ∷ (codes "U2", chain.PushBlock (push_of which) one other)
    ∷ (codes "U3", chain.Asking (push_of which) one other)
    ∷ (codes "U4", chain.Installing (push_of which) one (or_else 0 block))
    ∷ (codes "U4b", chain.Showing (push_of which) one (or_else 0 block))
    ∷ (codes "U5", chain.Claiming (push_of which) one (or_else 0 block) other)
    ∷ (codes "U6", chain.Laying (push_of which) one (or_else 0 block) (or_else 0 other))
    ∷ (codes "U7", chain.Opening (push_of which) one (or_else 0 block) (or_else 0 other))
    ∷ (codes "U8", chain.Chaining (push_of which) one (or_else 0 block) (or_else 0 other))
    ∷ (codes "U9", chain.Writing (push_of which) other)
    ∷ (codes "US", chain.ClosingAtLimit (push_of which) other)
    ∷ (codes "V1", chain.PopHead)
    ∷ (codes "V2", chain.PopBlock one)
    ∷ (codes "V3", chain.PopTail one other)
    ∷ (codes "V4", chain.Taking one (or_else 0 block))
    ∷ (codes "V5", chain.Following one (or_else 0 block))
    ∷ (codes "V6", chain.Peeking one (or_else 0 block) (or_else 0 other))
    ∷ (codes "V7", chain.Passing one (or_else 0 block) (two == 1))
    ∷ (codes "V8", chain.Entering one (or_else 0 block))
    ∷ (codes "V9", chain.Awaiting one (or_else 0 block))
    ∷ (codes "V10", chain.Reading (or_else 0 block) one)
    ∷ (codes "W1", chain.Walking (or_else 0 block) one)
    ∷ (codes "W2", chain.Destroying (or_else 0 block) one)
    ∷ (codes "Y1", chain.CountTail (look_of which))
    ∷ (codes "Y2", chain.CountHead (look_of which) one)
    ∷ (codes "Y3", chain.CountAgain (look_of which) one two)
    ∷ (codes "E1", chain.EmptyHead)
    ∷ (codes "E2", chain.EmptyTail one)
    ∷ (codes "C1", chain.Closing)
    ∷ (codes "L1", chain.ClosedTail)
    ∷ [])
