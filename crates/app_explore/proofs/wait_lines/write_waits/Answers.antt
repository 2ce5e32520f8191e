use Rattle.std.proofs.Common.{string_bytes}
use Rattle.app_explore.{specs.Listed.listed_wait, proofs.Waiting.wait_more}
use Rattle.app_explore.proofs.wait_lines.write_waits.Goals as goal

pub loop-index-preserved : goal.loop-index-preserved
loop-index-preserved g c =
    wait_more listed_wait c.args.waits.now c.loop-index.index c.index-waits-index.result (string_bytes c.args.text.now) (string_bytes c.loop-index.text) (string_bytes c.write_wait.new.text)
    c.loop-index-test.true c.index-waits-index.is c.loop-index.invariant c.in_ok-write_wait.ensures
