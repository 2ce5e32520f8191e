use Rattle.machine_explore.{specs.Waiting.side_key, specs.Waiting.wait_key, specs.Waiting.wait_of, proofs.Waited.contains_made}
use Rattle.machine_explore.proofs.check_waits.is_listed.Goals as goal

pub returns-then-is_between : goal.returns-then-is_between
returns-then-is_between g c = λ yes.
    contains_made wait_of wait_key c.args.waits.now c.loop-wait.wait-index c.wait-item.result (side_key c.args.waiter, side_key c.args.other) c.loop-wait-test.true c.wait-item.is (c.is_between.ensures c.if-is_between.true)
