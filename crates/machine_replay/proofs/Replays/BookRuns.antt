-- At each point of a run there is a reader's book.
use Rattle.std.proofs.Common.{ℕ, true, List, [], ◌∷◌, ◌++◌, append_assoc, append-nil}
use Rattle.machine_replay.specs.{Vocabulary.Kind, Vocabulary.Event, Vocabulary.Told, Vocabulary.Peak, Vocabulary.Running, Peaks.opening_peak, Peaks.peaked, Played.told_of, Played.world_after, BookRuns.EventsHaveBooks, BookRuns.HasBook, BookRuns.RunsHaveBooks}
use Rattle.machine_steps.specs.{Left.opening_world, Machine.event_of, Machine.world_of, World.World}
use Rattle.machine_memory.specs.SharedMemory.{MemoryState}
use Rattle.machine_replay.proofs.Engine.{AllKinds.KnownAfter, AllKinds.has_machine, AllKinds.known-first, AllKinds.known-more, MachineRuns.machine_run-known, SoFar.so_far-left}

has_book : {T : Type 0} (k : Kind) (parties : ℕ) (past : List (Event T)) (told : List (Told T)) (w : World (MemoryState T) (Running T)) (peak : Peak) → KnownAfter k parties past told w peak → HasBook k parties past told w
has_book k parties past told w peak known = record { last = known.so_far.book; run = known.so_far.run; left = so_far-left _ parties past told w peak known.so_far }

-- events whose requests are granted
known-granted : {T : Type 0} (k : Kind) (parties : ℕ) (past es : List (Event T)) (told : List (Told T)) (w : World (MemoryState T) (Running T)) (peak : Peak) → KnownAfter k parties past told w peak
    → (top : Peak) × KnownAfter k parties (past ++ es) (told ++ told_of k w es) (world_after k w es) top
known-granted k parties past [] told w peak known = (peak, rw (append-nil past, append-nil told) known)
known-granted {T} k parties past (e ∷ es) told w peak known =
    let made = event_of k true w e in
    let next = known-more k parties past told w peak true e known in
    let all = known-granted k parties (past ++ e ∷ []) es (told ++ made.1 ∷ []) made.0 (peaked made.0 peak) next in
    (all.0, rw (append_assoc past (e ∷ []) es, append_assoc told (made.1 ∷ []) (told_of k made.0 es)) at all.1)

pub runs_have_books : {T A : Type 0} → RunsHaveBooks T A
runs_have_books k parties events told c on = has_book k parties events told (world_of c.machine) c.peak (machine_run-known k parties events told c on)

pub events_have_books : {T : Type 0} → EventsHaveBooks T
events_have_books {T} k parties events can small =
    let w : World (MemoryState T) (Running T) = opening_world k parties in
    let known = known-granted k parties [] events [] w opening_peak (known-first k parties (has_machine k can small)) in
    has_book k parties events (told_of k w events) (world_after k w events) known.0 known.1
