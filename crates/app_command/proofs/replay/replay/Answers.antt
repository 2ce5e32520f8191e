use Rattle.app_text.specs.Actions.{replay_line_text, IsReplayLine}
use Rattle.app_command.{specs.Reports.IsReport, proofs.Running.written}
use Rattle.app_command.proofs.replay.replay.Goals as goal

pub returns : goal.returns
returns g c =
    let read = rw c.deref.ensures.value at c.in_ok-lines.ensures in
    let told = rw c.deref-2.ensures.value at c.in-Ok.ensures in
    let wrote = rw c.as_bytes.ensures.value at c.write_output.ensures.written in
    let begun = rw c.as_bytes.ensures.value at c.write_output.ensures.begun in
    written IsReplayLine replay_line_text (IsReport c.args.kind c.args.parties) _ _ _ c.in_ok-bytes.bytes.items c.in_ok-lines.lines.items _ _ c.in_ok-bytes.ensures read told wrote begun
