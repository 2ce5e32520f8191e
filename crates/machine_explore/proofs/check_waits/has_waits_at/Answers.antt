use Rattle.std.proofs.Common.{◌<◌, arith, below_more, map}
use Rattle.machine_explore.specs.{Waiting.wait_key, Waiting.wait_of, WaitTables.HasWaitsOf}
use Rattle.machine_explore.proofs.check_waits.has_waits_at.Goals as goal

pub loop-waiter-init : goal.loop-waiter-init
loop-waiter-init g c = λ p none. let no : ⊥ = omega (arith, none) in absurd no

pub loop-waiter-preserved : goal.loop-waiter-preserved
loop-waiter-preserved g c =
    below_more (λ p. HasWaitsOf c.args.program.now.parties.items (map wait_key (map wait_of c.args.waits.now)) c.args.position.now p) c.loop-waiter.waiter c.loop-waiter.invariant (c.in_ok-has_waits_of.ensures c.if-not-branch.false)

pub returns : goal.returns
returns g c =
    λ yes p h.
    let all = c.loop-waiter-test.false in
    let count = c.len-waiter-end.ensures in
    let ok = c.args.program.now.parties.ok.0 in
    let below : p < c.loop-waiter.waiter = omega (arith, all, count, ok, h) in
    c.loop-waiter.invariant p below
