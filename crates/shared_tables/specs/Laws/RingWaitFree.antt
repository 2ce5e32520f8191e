-- The wait-free calls on a ring take one step or two.
use Rattle.std.specs.Prelude.{◌≡◌, ℕ, Bool, true, false}
use Rattle.queue_laws.specs.Common.Vocabulary.{Call, Kind, Answer, Local, RingLocal, Next}
use Rattle.queue_steps.specs.{declared.steps.ring.RingLocal.RingLocal as ring, RingNext.ring_begin, Kinds.call_kind, Next.CanNext, Next.next_of, WaitFree.is_wait_free, WaitFree.EndsBefore, WaitFree.EndsWaitFree}

module _ (cap : ℕ) where
  abbrev RingEndsBefore : ℕ → Next ℕ → Type 0
  RingEndsBefore n todo = EndsBefore n (Kind.Bounded cap) todo

  empty_ends : (h : ℕ) → (a : Answer ℕ) → CanNext (Kind.Bounded cap) (Local.Ring (ring.EmptyTail h)) a → RingEndsBefore 1 (next_of (Kind.Bounded cap) (Local.Ring (ring.EmptyTail h)) a)
  empty_ends h (Answer.Found n) can = tt
  empty_ends h a can = absurd can.1

  full_ends : (h : ℕ) → (a : Answer ℕ) → CanNext (Kind.Bounded cap) (Local.Ring (ring.FullHead h)) a → RingEndsBefore 1 (next_of (Kind.Bounded cap) (Local.Ring (ring.FullHead h)) a)
  full_ends h (Answer.Found n) can = tt
  full_ends h a can = absurd can.1

  closing_ends : (a : Answer ℕ) → CanNext (Kind.Bounded cap) (Local.Ring ring.Closing) a → RingEndsBefore 2 (next_of (Kind.Bounded cap) (Local.Ring ring.Closing) a)
  closing_ends (Answer.Found n) can = tt
  closing_ends a can = absurd can.1

  closed_ends : (a : Answer ℕ) → CanNext (Kind.Bounded cap) (Local.Ring ring.ClosedTail) a → RingEndsBefore 2 (next_of (Kind.Bounded cap) (Local.Ring ring.ClosedTail) a)
  closed_ends (Answer.Found n) can = tt
  closed_ends a can = absurd can.1

  empty_begins : (a : Answer ℕ) → CanNext (Kind.Bounded cap) (Local.Ring ring.EmptyHead) a → RingEndsBefore 2 (next_of (Kind.Bounded cap) (Local.Ring ring.EmptyHead) a)
  empty_begins (Answer.Found n) can = empty_ends n
  empty_begins a can = absurd can.1

  full_begins : (a : Answer ℕ) → CanNext (Kind.Bounded cap) (Local.Ring ring.FullTail) a → RingEndsBefore 2 (next_of (Kind.Bounded cap) (Local.Ring ring.FullTail) a)
  full_begins (Answer.Found n) can = full_ends n
  full_begins a can = absurd can.1

  -- where those calls begin
  abbrev is_quick : RingLocal → Bool
  is_quick ring.Closing = true
  is_quick ring.ClosedTail = true
  is_quick ring.EmptyHead = true
  is_quick ring.FullTail = true
  is_quick _ = false

  quick_ends : (l : RingLocal) → is_quick l ≡ true → (a : Answer ℕ) → CanNext (Kind.Bounded cap) (Local.Ring l) a → RingEndsBefore 2 (next_of (Kind.Bounded cap) (Local.Ring l) a)
  quick_ends ring.Closing h = closing_ends
  quick_ends ring.ClosedTail h = closed_ends
  quick_ends ring.EmptyHead h = empty_begins
  quick_ends ring.FullTail h = full_begins
  quick_ends l h = cc

  abbrev place_of : Next ℕ → RingLocal
  place_of (Next.Step (Local.Ring l) t o) = l
  place_of _ = ring.PopHead

  pub ring_wait_free : {T : Type 0} (c : Call T) → is_wait_free c ≡ true → EndsWaitFree ℕ (Kind.Bounded cap) (call_kind c)
  ring_wait_free Call.Capacity h = tt
  ring_wait_free c h = quick_ends (place_of (ring_begin cap (call_kind c))) h
