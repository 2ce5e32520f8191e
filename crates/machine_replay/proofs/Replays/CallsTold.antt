-- The calls that the machine has are those that the events, and what was told of them, tell of.
use Rattle.std.proofs.Common.{◌≡◌, ◌∙◌, ◌↔◌, ℕ, Bool, IsTrue, Option, Some, None, is_some, is_none, refl, sym}
use Rattle.machine_replay.specs.{declared.machine_run.MachineRun.MachineRun, Conforms.capacity_of, MachineRuns.TellsCall}
use Rattle.machine_steps.specs.{Machine.world_of, World.call_at}
use Rattle.machine_replay.proofs.{Engine.AllKinds.known-none, Engine.MachineRuns.machine_run-known, Replays.SkipsAll.run-whole}

none-same : {X Y : Type 0} (o : Option X) (r : Option Y) → is_none o ≡ is_none r → is_some o ≡ is_some r
none-same None (Some y) e = cc
none-same (Some x) None e = cc
none-same o r e = refl

-- what holds where there is a value, and only there, is known by whether there is one
tells : {X P : Type 0} (o : Option X) → ((x : X) → o ≡ Some x → P) → (o ≡ None → P → ⊥) → IsTrue (is_some o) ↔ P
tells None there none = (λ e. cc, λ p. absurd (none refl p))
tells (Some x) there none = (λ e. there x refl, λ p. refl)

-- whether the machine has a call of the party tells whether the party is in one
pub machine_run-call : {T A : Type 0} (c : MachineRun T A) (p : ℕ) (says : Bool) → says ≡ is_some (call_at (world_of c.machine) p) → TellsCall c p says
machine_run-call c p says is k parties events told on =
    let known = machine_run-known k parties events told c on in
    let fair = run-whole (capacity_of k) parties events told known.so_far.book known.so_far.run in
    let same : says ≡ is_some (known.so_far.book.open_call p) = is ∙ sym (none-same (known.so_far.book.open_call p) (call_at (world_of c.machine) p) (known-none k parties events told (world_of c.machine) c.peak known p)) in
    rw same (tells (known.so_far.book.open_call p) (fair.inside p) (fair.outside p))
