use Rattle.std.proofs.Common.{◌<◌, ◌≤◌, length, string_bytes, arith}
use Rattle.app_command.proofs.Taking.{to-first, to-next, to-end}
use Rattle.app_command.proofs.replay.take_lines.Goals as goal

pub loop-index-init : goal.loop-index-init
loop-index-init g c = to-first c.args.lines.now c.args.run.now (string_bytes c.args.text.now)

pub loop-index-preserved : goal.loop-index-preserved
loop-index-preserved g c =
    let within : c.loop-index.index < length c.args.lines.now = omega arith in
    to-next c.loop-index.index c.args.lines.now c.args.run.now c.loop-index.run c.take_line.new.run (string_bytes c.args.text.now) (string_bytes c.loop-index.text) (string_bytes c.take_line.new.text) _ within c.loop-index.invariant c.in_ok-take_line.ensures

pub returns : goal.returns
returns g c =
    let past : length c.args.lines.now ≤ c.loop-index.index = omega arith in
    to-end c.loop-index.index c.args.lines.now c.args.run.now c.loop-index.run (string_bytes c.args.text.now) (string_bytes c.loop-index.text) past c.loop-index.invariant
