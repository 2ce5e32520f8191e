use Rattle.std.proofs.Common.{rules}
use Rattle.app_text.specs.Calls.{call_text, IsCallOfWord}
use Rattle.app_command.{specs.Scripts.IsTranscript, proofs.Running.written_on}
use Rattle.app_command.proofs.script.script.Goals as goal

pub returns-in_err-bytes : goal.returns-in_err-bytes
returns-in_err-bytes g c = search rules

pub returns : goal.returns
returns g c =
    let read = rw c.deref.ensures.value at c.in_ok-calls.ensures in
    let wrote = rw c.deref-2.ensures.value at c.transcript.ensures in
    written_on IsCallOfWord call_text (IsTranscript c.args.kind) _ _ _ c.in_ok-bytes.bytes.items c.in_ok-calls.calls.items _ c.in_ok-bytes.ensures read wrote
