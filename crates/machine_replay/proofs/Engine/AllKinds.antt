-- Every kind of queue that the machine has keeps the laws, and so every run of it conforms.
use Rattle.std.proofs.Common.{ℕ, ◌+◌, ◌≤◌, ◌≡◌, Bool, nat_lt, false, is_none, if◌then◌else◌, List, [], ◌∷◌, ◌++◌, length, refl, arith, ◌∙◌, ap, sym, subst}
use Rattle.machine_replay.specs.Vocabulary.{Call, Kind, MAX_CAPACITY, Event, Told, Peak, Begin, Step, Running}
use Rattle.queue_steps.specs.Words.{IsRing}
use Rattle.machine_replay.specs.{Book.opening, Conforms.capacity_of, Replays.CanReplay, Replays.is_too_large, Peaks.opening_peak, Peaks.peaked}
use Rattle.machine_memory.{specs.SharedMemory.MemoryState, proofs.Presence.Sparing}
use Rattle.machine_steps.specs.{Steps.CanStart, Left.left_of, Left.opening_world, Left.HasSlot, Machine.event_of, Machine.CanHandle, Machine.Handles, Machine.Passes, Machine.PassesAll, World.World, World.call_at}
use Rattle.machine_replay.proofs.{Engine.KindLaws.KindLaws, Slot.Left.slot_laws, Ring.Kind.ring_laws, Chain.Kind.chain_laws, Replays.Peaking.Run-length, Replays.Peaking.peaked-if}
use Rattle.machine_replay.proofs.Engine.SoFar.{SoFar, so_far-first, so_far-more, so_far-can, so_far-grows, so_far-none, so_far-room}
use Rattle.std.proofs.lemmas.Bool.{ltb-false}
use Rattle.machine_steps.proofs.EventPresence.{event-sparing}

-- the machine has queues of this kind
abbrev pub HasMachine : Kind → Type 0
HasMachine (Kind.Bounded n) = IsRing n
HasMachine x = Unit {0}

pub laws_of : (T : Type 0) (k : Kind) → HasMachine k → KindLaws T k
laws_of T Kind.Single has = slot_laws T
laws_of T (Kind.Bounded n) has = ring_laws T n has
laws_of T Kind.Unbounded has = chain_laws T

-- every call can begin
can_start : {T : Type 0} (k : Kind) → HasMachine k → (c : Call T) → CanStart k c
can_start Kind.Single has (Call.Push v) = record { goes_on = has; replies = tt }
can_start (Kind.Bounded n) has (Call.Push v) = record { goes_on = has; replies = tt }
can_start Kind.Unbounded has (Call.Push v) = record { goes_on = has; replies = tt }
can_start k has c = record { goes_on = has; replies = assumption }

-- what is known after these events, of a queue of any kind
pub record KnownAfter {T : Type 0} (k : Kind) (parties : ℕ) (past : List (Event T)) (told : List (Told T)) (w : World (MemoryState T) (Running T)) (peak : Peak) : Type 0 where
  pub has : HasMachine k
  pub so_far : SoFar (laws_of T k has) parties past told w peak

pub known-first : {T : Type 0} (k : Kind) (parties : ℕ) → HasMachine k → KnownAfter {T = T} k parties [] [] (opening_world k parties) opening_peak
known-first {T} k parties has = record { has = has; so_far = so_far-first (laws_of T k has) parties }

-- any event can be handled
pub known-can : {T : Type 0} (k : Kind) (parties : ℕ) (past : List (Event T)) (told : List (Told T)) (w : World (MemoryState T) (Running T)) (peak : Peak) → KnownAfter k parties past told w peak → (e : Event T) → CanHandle k w e
known-can {T} k parties past told w peak known (Begin p c) = can_start k known.has c
known-can {T} k parties past told w peak known (Step p granted) = λ ok. so_far-can (laws_of T k known.has) parties past told w peak known.so_far ok p

-- the peak after one event more, as a loop finds it: where no number of a block was given out, it stays
pub known-peak : {T : Type 0} (k : Kind) (parties : ℕ) (past : List (Event T)) (told : List (Told T)) (w w' : World (MemoryState T) (Running T)) (peak : Peak) (e : Event T) (t : Told T) (n n' : ℕ)
    → KnownAfter k parties past told w peak → Handles k w e w' t → n ≡ length w.shared.blocks → n' ≡ length w'.shared.blocks
    → (if nat_lt n n' then peaked w' peak else peak) ≡ peaked w' peak
known-peak k parties past told w w' peak e t n n' known handles en en' =
    peaked-if w w' peak n n' en en' (subst (λ v. Sparing w.shared.blocks v.shared.blocks) (sym handles.world) (event-sparing k handles.ok w e)) known.so_far.covers

-- after one event more, where the allocator granted what was asked for or not
pub known-more : {T : Type 0} (k : Kind) (parties : ℕ) (past : List (Event T)) (told : List (Told T)) (w : World (MemoryState T) (Running T)) (peak : Peak) (ok : Bool) (e : Event T)
    → KnownAfter k parties past told w peak → KnownAfter k parties (past ++ e ∷ []) (told ++ (event_of k ok w e).1 ∷ []) (event_of k ok w e).0 (peaked (event_of k ok w e).0 peak)
known-more {T} k parties past told w peak ok e known = record { has = known.has; so_far = so_far-more (laws_of T k known.has) parties past told w peak ok e known.so_far }

-- what is left is no more than the events, and an event leaves one more at most
pub known-room : {T : Type 0} (k : Kind) (parties : ℕ) (past : List (Event T)) (told : List (Told T)) (w : World (MemoryState T) (Running T)) (peak : Peak) → KnownAfter k parties past told w peak → length (left_of k w) ≤ length past
known-room {T} k parties past told w peak known = so_far-room (laws_of T k known.has) parties past told w peak known.so_far

pub known-grows : {T : Type 0} (k : Kind) (parties : ℕ) (past : List (Event T)) (told : List (Told T)) (w : World (MemoryState T) (Running T)) (peak : Peak) (ok : Bool) (e : Event T)
    → KnownAfter k parties past told w peak → length (left_of k (event_of k ok w e).0) ≤ length (left_of k w) + 1
known-grows {T} k parties past told w peak ok e known = so_far-grows (laws_of T k known.has) parties past told w peak ok e known.so_far

-- a party is in a call of the book just where it is in one of the machine
pub known-none : {T : Type 0} (k : Kind) (parties : ℕ) (past : List (Event T)) (told : List (Told T)) (w : World (MemoryState T) (Running T)) (peak : Peak)
    → (known : KnownAfter k parties past told w peak) → (p : ℕ) → is_none (known.so_far.book.open_call p) ≡ is_none (call_at w p)
known-none {T} k parties past told w peak known p = so_far-none (laws_of T k known.has) parties past told w peak known.so_far p

-- what was told of each event is one thing
pub known-length : {T : Type 0} (k : Kind) (parties : ℕ) (past : List (Event T)) (told : List (Told T)) (w : World (MemoryState T) (Running T)) (peak : Peak) → KnownAfter k parties past told w peak → length past ≡ length told
known-length k parties past told w peak known = Run-length (capacity_of k) parties (opening (capacity_of k)) past told known.so_far.book known.so_far.run

-- the machine has the queue that `replay` is asked for
pub has_machine : (k : Kind) → CanReplay k → is_too_large k ≡ false → HasMachine k
has_machine (Kind.Bounded n) can small = (can, ltb-false MAX_CAPACITY n small)
has_machine k can small = tt

pub has_slot : (k : Kind) → HasMachine k → HasSlot k
has_slot (Kind.Bounded n) has = let many = has.0 in omega arith
has_slot k has = tt

-- the machine comes from its opening by these events, and all is known of it, whatever was told
pub record InOrder {T : Type 0} (k : Kind) (parties : ℕ) (past : List (Event T)) (w : World (MemoryState T) (Running T)) : Type 0 where
  pub told : List (Told T)
  pub peak : Peak
  pub known : KnownAfter k parties past told w peak
  pub plays : PassesAll k (opening_world k parties) past w

pub in_order-first : {T : Type 0} (k : Kind) (parties : ℕ) → HasMachine k → InOrder {T = T} k parties [] (opening_world k parties)
in_order-first k parties has = record { told = []; peak = opening_peak; known = known-first k parties has; plays = refl }

pub in_order-can : {T : Type 0} (k : Kind) (parties : ℕ) (past : List (Event T)) (w : World (MemoryState T) (Running T)) → InOrder k parties past w → (e : Event T) → CanHandle k w e
in_order-can k parties past w s e = known-can k parties past s.told w s.peak s.known e

PassesAll-more : {T : Type 0} (k : Kind) (w v last : World (MemoryState T) (Running T)) (es : List (Event T)) (e : Event T) → PassesAll k w es v → Passes k v e last → PassesAll k w (es ++ e ∷ []) last
PassesAll-more k w v last [] e plays pass = (pass.0, pass.1 ∙ ap (λ z. (event_of k pass.0 z e).0) plays)
PassesAll-more k w v last (x ∷ es) e plays pass = (plays.0, PassesAll-more k (event_of k plays.0 w x).0 v last es e plays.1 pass)

pub in_order-next : {T : Type 0} (k : Kind) (parties : ℕ) (past : List (Event T)) (w w' : World (MemoryState T) (Running T)) (e : Event T) → InOrder k parties past w → Passes k w e w' → InOrder k parties (past ++ e ∷ []) w'
in_order-next {T} k parties past w w' e s pass = record {
  told = s.told ++ (event_of k pass.0 w e).1 ∷ [];
  peak = peaked w' s.peak;
  known = subst {A = World (MemoryState T) (Running T)} (λ v. KnownAfter k parties (past ++ e ∷ []) (s.told ++ (event_of k pass.0 w e).1 ∷ []) v (peaked v s.peak)) (sym pass.1) (known-more k parties past s.told w s.peak pass.0 e s.known);
  plays = PassesAll-more k (opening_world k parties) w w' past e s.plays pass;
}
