-- Who waits for whom, step by step: a call that goes back at its next step, or by two in a row with no other's between, with the word as it read it, does so beside a call that is half done, or that is to show a chain's first block.
use Rattle.std.specs.Prelude.{◌≡◌, ◌≢◌, ℕ, true, Option, Some, None, List, false, [], ◌∷◌, ◌<◌, count_by}
use Rattle.queue_steps.specs.{SlotNext.unlocked, Words.IsRing, declared.steps.ring.RingLocal.RingLocal as ring, declared.steps.chain.ChainLocal.ChainLocal as chain}
use Rattle.queue_steps.specs.declared.steps.slot.SlotLocal.TheVariants.{Pushing, Pushed, Forcing, Forced, Popping, Popped, Looking}
use Rattle.machine_replay.specs.{Vocabulary.Kind, Vocabulary.Local, Vocabulary.PushKind, Vocabulary.Event, Vocabulary.Running, Played.told_of, Played.world_after, Progress.IsNotAnswered, Progress.IsToShow, Replays.CanReplay, Replays.is_too_large, Within.is_step_of}
use Rattle.machine_steps.specs.{Left.opening_world, Steps.step_of, World.World, World.call_at, Machine.event_of}
use Rattle.machine_memory.specs.SharedMemory.{MemoryState}

-- at this moment of a run another party's call is at such a step
abbrev pub IsBeside : {T : Type 0} → World (MemoryState T) (Running T) → ℕ → (Local ℕ → Type 0) → Type 0
IsBeside {T} w p Such = (q : ℕ) × (q ≢ p) × ((r : Running T) × (call_at w q ≡ Some r) × Such r.local)

-- a call that stands at this step, and goes on as x by one step, and as y by two, if no other call takes one
abbrev pub GoesOn : {T : Type 0} → Kind → MemoryState T → Running T → Running T → Type 0
GoesOn k s r x = (step_of k true s r).call ≡ Some x

abbrev pub GoesOnTwice : {T : Type 0} → Kind → MemoryState T → Running T → Running T → Running T → Type 0
GoesOnTwice k s r x y = ((step_of k true s r).call ≡ Some x) × ((step_of k true (step_of k true s r).shared x).call ≡ Some y)

-- one slot: a push or a forced push has put its item and not unlocked, P2 and F2, or a pop has not, O2
abbrev pub IsToUnlock : Local ℕ → Type 0
IsToUnlock (Local.Slot Pushed) = Unit {0}
IsToUnlock (Local.Slot (Forced seen)) = Unit {0}
IsToUnlock (Local.Slot Popped) = Unit {0}
IsToUnlock _ = ⊥

abbrev pub IsPushToUnlock : Local ℕ → Type 0
IsPushToUnlock (Local.Slot Pushed) = Unit {0}
IsPushToUnlock (Local.Slot (Forced seen)) = Unit {0}
IsPushToUnlock _ = ⊥

abbrev pub IsPopToUnlock : Local ℕ → Type 0
IsPopToUnlock (Local.Slot Popped) = Unit {0}
IsPopToUnlock _ = ⊥

-- of one slot: a push goes back at P1 for a pop alone; with the word as it is, but for the lock, a forced push goes back at F1 for whoever has the lock, and a pop at O1 for a push
pub record SlotWaits {T : Type 0} (w : World (MemoryState T) (Running T)) (p : ℕ) (r x : Running T) : Type 0 where
  pub push : r.local ≡ Local.Slot Pushing → x.local ≡ Local.Slot Pushing → IsBeside w p IsPopToUnlock
  pub force : (seen : ℕ) → r.local ≡ Local.Slot (Forcing (unlocked w.shared.lock)) → x.local ≡ Local.Slot (Forcing seen) → IsBeside w p IsToUnlock
  pub pop : (seen : ℕ) → r.local ≡ Local.Slot (Popping (unlocked w.shared.lock)) → x.local ≡ Local.Slot (Popping seen) → IsBeside w p IsPushToUnlock

abbrev pub SlotCallsWait : Type 0 → Type 0
SlotCallsWait T = (parties p : ℕ) (past : List (Event T)) (r x : Running T) → call_at (world_after Kind.Single (opening_world Kind.Single parties) past) p ≡ Some r
    → GoesOn Kind.Single (world_after Kind.Single (opening_world Kind.Single parties) past).shared r x → SlotWaits (world_after Kind.Single (opening_world Kind.Single parties) past) p r x

-- ring: a push has not stored its stamp, B4, or a forced push that has arrived has not, F7
abbrev pub IsPushToStamp : Local ℕ → Type 0
IsPushToStamp (Local.Ring (ring.Filling d)) = Unit {0}
IsPushToStamp (Local.Ring ring.Swapping) = Unit {0}
IsPushToStamp _ = ⊥

-- a pop has not stored its stamp, O4, or a forced push has taken the front off and not arrived, F6
abbrev pub HasFront : Local ℕ → Type 0
HasFront (Local.Ring ring.Emptying) = Unit {0}
HasFront (Local.Ring (ring.Arriving tail)) = Unit {0}
HasFront _ = ⊥

-- one of these three: O4, F6, F7
abbrev pub HasLastLap : Local ℕ → Type 0
HasLastLap (Local.Ring ring.Emptying) = Unit {0}
HasLastLap (Local.Ring (ring.Arriving tail)) = Unit {0}
HasLastLap (Local.Ring ring.Swapping) = Unit {0}
HasLastLap _ = ⊥

-- a push has not stored its stamp, B4
abbrev pub IsToFill : Local ℕ → Type 0
IsToFill (Local.Ring (ring.Filling d)) = Unit {0}
IsToFill _ = ⊥

-- Of a ring, with the tail or the head as it is: a push or forced push goes back at B2 for B4 or F7, and by way of B5 or F5 for O4 or F6; a pop goes back at O2 for O4, F6 or F7, and by
-- way of O5 for B4.
pub record RingWaits {T : Type 0} (n : ℕ) (w : World (MemoryState T) (Running T)) (p : ℕ) (r : Running T) : Type 0 where
  pub push : (d : PushKind) (x : Running T) → r.local ≡ Local.Ring (ring.PushStamp d w.shared.tail) → GoesOn (Kind.Bounded n) w.shared r x → x.local ≡ Local.Ring (ring.PushTail d) → IsBeside w p IsPushToStamp
  pub full : (d : PushKind) (x y : Running T) → r.local ≡ Local.Ring (ring.PushStamp d w.shared.tail) → GoesOnTwice (Kind.Bounded n) w.shared r x y
      → (x.local ≡ Local.Ring (ring.PushTail d) → ⊥) → y.local ≡ Local.Ring (ring.PushTail d) → IsBeside w p HasFront
  pub pop : (x : Running T) → r.local ≡ Local.Ring (ring.PopStamp w.shared.head) → GoesOn (Kind.Bounded n) w.shared r x → x.local ≡ Local.Ring ring.PopHead → IsBeside w p HasLastLap
  pub empty : (x y : Running T) → r.local ≡ Local.Ring (ring.PopStamp w.shared.head) → GoesOnTwice (Kind.Bounded n) w.shared r x y
      → (x.local ≡ Local.Ring ring.PopHead → ⊥) → y.local ≡ Local.Ring ring.PopHead → IsBeside w p IsToFill

abbrev pub RingCallsWait : Type 0 → ℕ → Type 0
RingCallsWait T n = (parties p : ℕ) (past : List (Event T)) (r : Running T) → call_at (world_after (Kind.Bounded n) (opening_world (Kind.Bounded n) parties) past) p ≡ Some r
    → RingWaits n (world_after (Kind.Bounded n) (opening_world (Kind.Bounded n) parties) past) p r

-- chain: a push moves the tail over a block's end, U6 and U7
abbrev pub IsToMoveTail : Local ℕ → Type 0
IsToMoveTail (Local.Chain (chain.Laying d tail block fresh)) = Unit {0}
IsToMoveTail (Local.Chain (chain.Opening d tail block fresh)) = Unit {0}
IsToMoveTail _ = ⊥

-- a pop moves the head over a block's end, V5 to V8
abbrev pub IsToMoveHead : Local ℕ → Type 0
IsToMoveHead (Local.Chain (chain.Following head block)) = Unit {0}
IsToMoveHead (Local.Chain (chain.Peeking head block after)) = Unit {0}
IsToMoveHead (Local.Chain (chain.Passing head block more)) = Unit {0}
IsToMoveHead (Local.Chain (chain.Entering head block)) = Unit {0}
IsToMoveHead _ = ⊥

-- a push has taken a block's last slot and not linked the next block, U6 to U8
abbrev pub IsToLink : Local ℕ → Type 0
IsToLink (Local.Chain (chain.Laying d tail block fresh)) = Unit {0}
IsToLink (Local.Chain (chain.Opening d tail block fresh)) = Unit {0}
IsToLink (Local.Chain (chain.Chaining d tail block fresh)) = Unit {0}
IsToLink _ = ⊥

-- a push has appended and not written, U6 to U9
abbrev pub IsToWrite : Local ℕ → Type 0
IsToWrite (Local.Chain (chain.Laying d tail block fresh)) = Unit {0}
IsToWrite (Local.Chain (chain.Opening d tail block fresh)) = Unit {0}
IsToWrite (Local.Chain (chain.Chaining d tail block fresh)) = Unit {0}
IsToWrite (Local.Chain (chain.Writing d spare)) = Unit {0}
IsToWrite _ = ⊥

-- Of a chain, a push or forced push goes back at U1 for U6 or U7; a pop goes back at V1 for V5 to V8, and at V3, where it has read that there is no block, and there is none yet, for
-- U4b; and a pop that has taken goes back at V5 for U6 to U8, and at V9 for U6 to U9.
pub record ChainWaits {T : Type 0} (w : World (MemoryState T) (Running T)) (p : ℕ) (r x : Running T) : Type 0 where
  pub push : (d : PushKind) (spare : Option ℕ) → r.local ≡ Local.Chain (chain.PushTail d spare) → x.local ≡ Local.Chain (chain.PushTail d spare) → IsBeside w p IsToMoveTail
  pub pop : r.local ≡ Local.Chain chain.PopHead → x.local ≡ Local.Chain chain.PopHead → IsBeside w p IsToMoveHead
  pub first : (head : ℕ) → r.local ≡ Local.Chain (chain.PopTail head None) → w.shared.head_block ≡ None → x.local ≡ Local.Chain chain.PopHead → IsBeside w p IsToShow
  pub link : (head block : ℕ) → r.local ≡ Local.Chain (chain.Following head block) → x.local ≡ Local.Chain (chain.Following head block) → IsBeside w p IsToLink
  pub item : (head block : ℕ) → r.local ≡ Local.Chain (chain.Awaiting head block) → x.local ≡ Local.Chain (chain.Awaiting head block) → IsBeside w p IsToWrite

abbrev pub ChainCallsWait : Type 0 → Type 0
ChainCallsWait T = (parties p : ℕ) (past : List (Event T)) (r x : Running T) → call_at (world_after Kind.Unbounded (opening_world Kind.Unbounded parties) past) p ≡ Some r
    → GoesOn Kind.Unbounded (world_after Kind.Unbounded (opening_world Kind.Unbounded parties) past).shared r x → ChainWaits (world_after Kind.Unbounded (opening_world Kind.Unbounded parties) past) p r x

-- so it is at each moment of each run
pub record CallsWait (T : Type 0) : Type 0 where
  pub slot : SlotCallsWait T
  pub ring : (n : ℕ) → IsRing n → RingCallsWait T n
  pub chain : ChainCallsWait T

-- a step of `len`, or of another look that counts the items; on one slot, of each look
abbrev pub IsOfLen : Local ℕ → Type 0
IsOfLen (Local.Slot (Looking l)) = Unit {0}
IsOfLen (Local.Ring (ring.CountTail l)) = Unit {0}
IsOfLen (Local.Ring (ring.CountHead l tail)) = Unit {0}
IsOfLen (Local.Ring (ring.CountAgain l tail head)) = Unit {0}
IsOfLen (Local.Chain (chain.CountTail l)) = Unit {0}
IsOfLen (Local.Chain (chain.CountHead l tail)) = Unit {0}
IsOfLen (Local.Chain (chain.CountAgain l tail head)) = Unit {0}
IsOfLen _ = ⊥

-- these events leave the tail, each of them
abbrev pub IsTailKept : {T : Type 0} → Kind → World (MemoryState T) (Running T) → List (Event T) → Type 0
IsTailKept k w [] = Unit {0}
IsTailKept k w (e ∷ es) = ((event_of k true w e).0.shared.tail ≡ w.shared.tail) × IsTailKept k (event_of k true w e).0 es

-- a call of `len` that is in progress at a moment of a run, and while the tail is left, takes fewer than five steps before its reply, whatever the other parties do and wherever they stand
abbrev pub LenWaitsForNobody : Type 0 → Type 0
LenWaitsForNobody T = (k : Kind) → CanReplay k → is_too_large k ≡ false → (parties p : ℕ) (past stretch : List (Event T)) (r : Running T) → call_at (world_after k (opening_world k parties) past) p ≡ Some r → IsOfLen r.local
    → IsTailKept k (world_after k (opening_world k parties) past) stretch → IsNotAnswered p stretch (told_of k (world_after k (opening_world k parties) past) stretch) → count_by (is_step_of p) stretch < 5
