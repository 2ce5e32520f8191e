use Rattle.std.proofs.Common.{◌<◌, arith, below_more, map}
use Rattle.std.specs.Prelude.{Contains}
use Rattle.machine_explore.specs.{Waiting.wait_key, Waiting.wait_of, WaitTables.WaitsThere, WaitTables.key_there}
use Rattle.machine_explore.proofs.check_waits.has_waits_of.Goals as goal

pub returns-then-not-branch : goal.returns-then-not-branch
returns-then-not-branch g c = λ yes q there. let no : ⊥ = c.in_ok-may_be_sent_back.ensures c.if-not-branch.true there.back in absurd no

pub returns-then-not-branch-2 : goal.returns-then-not-branch-2
returns-then-not-branch-2 g c = λ yes q there. let no : ⊥ = c.in_ok-may_go_round.ensures c.if-not-branch-2.true there.round in absurd no

pub loop-other-init : goal.loop-other-init
loop-other-init g c = λ q none. let no : ⊥ = omega (arith, none) in absurd no

pub loop-other-preserved : goal.loop-other-preserved
loop-other-preserved g c =
    let calls = c.args.program.now.parties.items in
    let s = c.args.position.now in
    let p = c.args.waiter in
    below_more (λ q. WaitsThere calls s p q → Contains (map wait_key (map wait_of c.args.waits.now)) (key_there calls s p q)) c.loop-other.other c.loop-other.invariant (c.has_wait.ensures c.if-not-has_wait.false)

pub returns : goal.returns
returns g c =
    λ yes q there.
    let all = c.loop-other-test.false in
    let count = c.len-other-end.ensures in
    let ok = c.args.program.now.parties.ok.0 in
    let lt = there.there in
    let below : q < c.loop-other.other = omega (arith, all, count, ok, lt) in
    c.loop-other.invariant q below there
