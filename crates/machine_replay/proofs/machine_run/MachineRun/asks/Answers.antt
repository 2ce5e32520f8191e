use Rattle.std.proofs.Common.{sym, ◌∙◌}
use Rattle.machine_steps.specs.Machine.{world_of}
use Rattle.machine_replay.proofs.Replays.Played.{event-plain}
use Rattle.machine_replay.proofs.machine_run.MachineRun.asks.Goals as goal

pub returns : goal.returns
returns g c =
    let is = rw c.deref.ensures.value at c.is_asking.ensures in
    record { plain = λ none granted. event-plain c.args.self.now.machine.kind (world_of c.args.self.now.machine) c.args.party granted (sym is ∙ none) }
