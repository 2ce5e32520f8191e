use Rattle.std.proofs.Common.{ℕ, OnOk, replicate, string_bytes, ap, subst, sym}
use Rattle.app_command.specs.{Takes.Takes, Turns.turn_count}
use Rattle.app_command.proofs.replay.take_line.Goals as goal

pub returns-in-Run : goal.returns-in-Run
returns-in-Run g c =
    subst {A = ℕ} (λ n. OnOk c.take_run.result (Takes (replicate n c.args.turn) c.args.run.now (string_bytes c.args.text.now) c.take_run.new.run (string_bytes c.take_run.new.text))) (sym (ap turn_count c.in-Run.is)) c.take_run.ensures
