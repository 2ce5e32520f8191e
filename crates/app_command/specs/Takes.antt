-- What turns make of a run of the machine, and of what is written.
use Rattle.std.specs.Prelude.{◌≡◌, ℕ, List, ◌++◌, length, map}
use Rattle.queue_steps.specs.declared.steps.types.Kind.{Kind}
use Rattle.machine_replay.specs.{MachineRuns.IsMachineRun, declared.machine_run.MachineRun.MachineRun}
use Rattle.machine_memory.specs.declared.types.{Event.Event, Told.Told}
use Rattle.app_command.specs.{Turns.turn_event, Turns.turns_text, declared.turns.Turn.Turn}

-- something was told of each of these turns, which lead the run on to d; and that is written
pub record Taken {A : Type 0} (turns : List Turn) (k : Kind) (parties : ℕ) (events : List (Event ℕ)) (told : List (Told ℕ)) (old : List ℕ) (d : MachineRun ℕ A) (new : List ℕ) : Type 0 where
  pub more : List (Told ℕ)
  pub each : length more ≡ length turns
  pub on : IsMachineRun k parties (events ++ map turn_event turns) (told ++ more) d
  pub written : new ≡ old ++ turns_text turns more

-- whatever brought the run to c, these turns are taken
abbrev pub Takes : {A : Type 0} → List Turn → MachineRun ℕ A → List ℕ → MachineRun ℕ A → List ℕ → Type 0
Takes turns c old d new = (k : Kind) (parties : ℕ) (events : List (Event ℕ)) (told : List (Told ℕ)) → IsMachineRun k parties events told c → Taken turns k parties events told old d new
