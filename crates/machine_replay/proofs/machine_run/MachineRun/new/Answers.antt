use Rattle.std.proofs.Common.{◌∙◌, sym}
use Rattle.machine_replay.proofs.Engine.MachineRuns.{machine_run-first}
use Rattle.machine_replay.proofs.machine_run.MachineRun.new.Goals as goal

pub returns-clause-opens : goal.returns-clause-opens
returns-clause-opens g c =
    machine_run-first c.args.kind c.args.parties (record { machine = c.in_ok-new.field-0; peak = c.opening.result; handled = 0 }) c.requires (sym c.too_large.ensures ∙ c.if-too_large.false) c.in_ok-new.ensures.kind c.in_ok-new.ensures.world c.opening.ensures c.in_ok-new.ensures.counted
