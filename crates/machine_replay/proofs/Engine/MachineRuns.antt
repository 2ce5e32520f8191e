-- A run of the machine, one event after another, is a run of the book.
use Rattle.std.proofs.Common.{◌≡◌, ◌∙◌, ℕ, ◌+◌, ◌≤◌, nat_lt, Bool, false, if◌then◌else◌, Option, Some, None, is_some, List, [], ◌∷◌, ◌++◌, length, refl, sym, ap, arith, append_assoc, append-nil}
use Rattle.std.proofs.lemmas.Bool.{le-ltb}
use Rattle.machine_replay.specs.{Vocabulary.Kind, Vocabulary.Event, Vocabulary.Told, Vocabulary.Peak, Vocabulary.Step, Vocabulary.Skipped, Vocabulary.Running, declared.machine_run.MachineRun.MachineRun, declared.machine_run.RunEnd.RunEnd, MachineRuns.Comes, MachineRuns.Continues, MachineRuns.EndsAs}
use Rattle.machine_replay.specs.{MachineRuns.IsMachineRun, MachineRuns.KeepsRun, MachineRuns.IsSomeMachineRun, Peaks.opening_peak, Peaks.peaked, Replays.CanReplay, Replays.is_too_large}
use Rattle.machine_memory.specs.{SharedMemory.MemoryState, Room.HasCount, Present.present}
use Rattle.machine_steps.specs.{Left.HasSlot, Left.left_of, Left.opening_world, Machine.CanHandle, Machine.Handles, Machine.event_of, Machine.world_of, World.World, World.call_at}
use Rattle.machine_replay.proofs.Engine.AllKinds.{KnownAfter, has_machine, has_slot, known-can, known-first, known-grows, known-more, known-peak, known-room}
use Rattle.machine_replay.proofs.{Replays.Played.run-made, Engine.SoFar.so_far-left}

-- a run goes on by one event
Comes-more : {T : Type 0} (k : Kind) (w v last : World (MemoryState T) (Running T)) (p q top : Peak) (es : List (Event T)) (ts : List (Told T)) (e : Event T) (t : Told T)
    → Comes k w p es ts v q → Handles k v e last t → top ≡ peaked last q → Comes k w p (es ++ e ∷ []) (ts ++ t ∷ []) last top
Comes-more k w v last p q top [] [] e t comes handles is =
    let world = handles.world ∙ ap (λ z. (event_of k handles.ok z e).0) comes.0 in
    let told = handles.told_is ∙ ap (λ z. (event_of k handles.ok z e).1) comes.0 in
    (handles.ok, told, (world, is ∙ ap (λ z. peaked z q) world ∙ ap (λ r. peaked (event_of k handles.ok w e).0 r) comes.1))
Comes-more k w v last p q top (x ∷ es) (y ∷ ts) e t comes handles is =
    (comes.0, comes.1, Comes-more k (event_of k comes.0 w x).0 v last (peaked (event_of k comes.0 w x).0 p) q top es ts e t comes.2 handles is)
Comes-more k w v last p q top es ts e t comes handles is = absurd comes

-- what is known of a run is known where it has come
Comes-known : {T : Type 0} (k : Kind) (parties : ℕ) (w last : World (MemoryState T) (Running T)) (p top : Peak) (past es : List (Event T)) (told ts : List (Told T))
    → KnownAfter k parties past told w p → Comes k w p es ts last top → KnownAfter k parties (past ++ es) (told ++ ts) last top
Comes-known {T} k parties w last p top past [] told [] known comes =
    rw (append-nil past, append-nil told, comes.0, comes.1) known
Comes-known {T} k parties w last p top past (x ∷ es) told (y ∷ ts) known comes =
    let next = known-more k parties past told w p comes.0 x known in
    let same : KnownAfter k parties (past ++ x ∷ []) (told ++ y ∷ []) (event_of k comes.0 w x).0 (peaked (event_of k comes.0 w x).0 p) = rw comes.1 next in
    let all = Comes-known k parties (event_of k comes.0 w x).0 last (peaked (event_of k comes.0 w x).0 p) top (past ++ x ∷ []) es (told ++ y ∷ []) ts same comes.2 in
    rw (append_assoc past (x ∷ []) es, append_assoc told (y ∷ []) ts) at all
Comes-known k parties w last p top past [] told (y ∷ ts) known comes = absurd comes
Comes-known k parties w last p top past (x ∷ es) told [] known comes = absurd comes

pub machine_run-known : {T A : Type 0} (k : Kind) (parties : ℕ) (es : List (Event T)) (ts : List (Told T)) (c : MachineRun T A) → IsMachineRun k parties es ts c → KnownAfter k parties es ts (world_of c.machine) c.peak
machine_run-known k parties es ts c on = Comes-known k parties (opening_world k parties) (world_of c.machine) opening_peak c.peak [] es [] ts (known-first k parties (has_machine k on.can on.small)) on.comes

-- before the first event
pub machine_run-first : {T A : Type 0} (k : Kind) (parties : ℕ) (c : MachineRun T A) → CanReplay k → is_too_large k ≡ false → c.machine.kind ≡ k → world_of c.machine ≡ opening_world k parties → c.peak ≡ opening_peak → HasCount c.machine.memory
    → IsMachineRun k parties [] [] c
machine_run-first {T} k parties c can small kind_is world peak counted =
    let none = known-room k parties [] [] (opening_world {T = T} k parties) opening_peak (known-first k parties (has_machine k can small)) in
    record {
      can = can;
      small = small;
      kind_is = kind_is;
      comes = (world, peak);
      counted = counted;
      few = let same = ap (λ w. length (left_of k w)) world in omega (arith, none, same);
    }

-- any event can be handled
pub machine_run-can : {T A : Type 0} (c : MachineRun T A) → IsSomeMachineRun c → (e : Event T) → CanHandle c.machine.kind (world_of c.machine) e
machine_run-can c on e =
    let known = machine_run-known on.0 on.1 on.2 on.3 c on.4 in
    rw on.4.kind_is (known-can on.0 on.1 on.2 on.3 (world_of c.machine) c.peak known e)

-- after one event more, as `handle` finds it
pub machine_run-next : {T A : Type 0} (c d : MachineRun T A) (e : Event T) (t : Told T) (n : ℕ)
    → Handles c.machine.kind (world_of c.machine) e (world_of d.machine) t → d.machine.kind ≡ c.machine.kind → HasCount d.machine.memory → n ≡ length c.machine.memory.blocks.items
    → d.peak ≡ (if nat_lt n (length d.machine.memory.blocks.items) then peaked (world_of d.machine) c.peak else c.peak) → d.handled ≡ c.handled + 1 → Continues c e t d
machine_run-next c d e t n handles same_kind counted numbers peak handled k parties es ts on =
    let known = machine_run-known k parties es ts c on in
    let here : Handles k (world_of c.machine) e (world_of d.machine) t = rw on.kind_is at handles in
    let top = peak ∙ known-peak k parties es ts (world_of c.machine) (world_of d.machine) c.peak e t n (length d.machine.memory.blocks.items) known here numbers refl in
    let grows = known-grows k parties es ts (world_of c.machine) c.peak here.ok e known in
    let left = ap (λ w. length (left_of k w)) here.world in
    record {
      can = on.can;
      small = on.small;
      kind_is = same_kind ∙ on.kind_is;
      comes = Comes-more k (opening_world k parties) (world_of c.machine) (world_of d.machine) opening_peak c.peak d.peak es ts e t on.comes here top;
      counted = counted;
      few = omega (arith, on.few, grows, left, handled);
    }

-- the same machine, with the same peak and as many events, has come the same way
pub machine_run-same : {T A : Type 0} (c d : MachineRun T A) → d.machine.kind ≡ c.machine.kind → world_of d.machine ≡ world_of c.machine → d.machine.memory.alive ≡ c.machine.memory.alive → d.peak ≡ c.peak → d.handled ≡ c.handled
    → KeepsRun c d
machine_run-same c d kind_is world alive peak handled k parties es ts on =
    record {
      can = on.can;
      small = on.small;
      kind_is = kind_is ∙ on.kind_is;
      comes = rw (world, peak) on.comes;
      counted = alive ∙ on.counted ∙ ap (λ w. present w.shared.blocks) (sym world);
      few = rw (world, handled) on.few;
    }

pub none-there : {X : Type 0} (o : Option X) → is_some o ≡ false → o ≡ None
none-there None e = refl
none-there (Some x) e = cc

-- the step of a party between calls is skipped
pub machine_run-skip : {T A : Type 0} (c : MachineRun T A) (p : ℕ) (granted : Bool) → call_at (world_of c.machine) p ≡ None → Continues c (Step p granted) Skipped c
machine_run-skip c p granted none k parties es ts on =
    let known = machine_run-known k parties es ts c on in
    let here : Handles k (world_of c.machine) (Step p granted) (world_of c.machine) Skipped = record { ok = false; world = rw none refl; told_is = rw none refl } in
    let n = length c.machine.memory.blocks.items in
    let stays : c.peak ≡ peaked (world_of c.machine) c.peak = rw (le-ltb c.peak.blocks (present c.machine.memory.blocks.items) known.so_far.covers) refl in
    record {
      can = on.can;
      small = on.small;
      kind_is = on.kind_is;
      comes = Comes-more k (opening_world k parties) (world_of c.machine) (world_of c.machine) opening_peak c.peak c.peak es ts (Step p granted) Skipped on.comes here stays;
      counted = on.counted;
      few = on.few;
    }

-- what it takes to end the run
pub machine_run-slot : {T A : Type 0} (c : MachineRun T A) → IsSomeMachineRun c → HasSlot c.machine.kind
machine_run-slot c on = rw on.4.kind_is (has_slot on.0 (has_machine on.0 on.4.can on.4.small))

pub machine_run-room : {T A : Type 0} (c : MachineRun T A) → IsSomeMachineRun c → length (left_of c.machine.kind (world_of c.machine)) ≤ c.handled
machine_run-room c on = rw on.4.kind_is on.4.few

-- what a run leaves
pub machine_run-ends : {T A : Type 0} (c : MachineRun T A) (r : RunEnd T A) (k : Kind) (parties : ℕ) (es : List (Event T)) (ts : List (Told T)) → r.left.items ≡ left_of c.machine.kind (world_of c.machine) → r.peak ≡ c.peak
    → IsMachineRun k parties es ts c → EndsAs k parties es ts r
machine_run-ends {T} c r k parties es ts left peak on =
    let known = machine_run-known k parties es ts c on in
    let here : r.left.items ≡ left_of k (world_of c.machine) = rw on.kind_is at left in
    let made = run-made k parties es ts c on in
    record {
      made = made.told;
      last = known.so_far.book;
      run = known.so_far.run;
      left = here ∙ so_far-left _ parties es ts (world_of c.machine) c.peak known.so_far;
      peak = rw peak known.so_far.highest;
      peak_is = peak ∙ made.peak;
      no_blocks = rw peak known.so_far.no_blocks;
    }
