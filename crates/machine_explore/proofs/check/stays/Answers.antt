use Rattle.std.proofs.Common.{◌<◌, below_more, arith, subst}
use Rattle.machine_explore.specs.{Moves.led, Tables.Stays}
use Rattle.machine_explore.proofs.check.stays.Goals as goal

pub loop-party-init : goal.loop-party-init
loop-party-init g c = λ p none. let no : ⊥ = omega (arith, none) in absurd no

pub loop-party-preserved : goal.loop-party-preserved
loop-party-preserved g c =
    let calls = c.args.program.now.parties.items in
    let s = c.args.position.now in
    let here = subst (λ l. Stays (led s.kind) c.args.refuses calls l s c.loop-party.party) c.deref-in-loop-party.ensures.value (c.in_ok-stays_by.ensures c.if-not-branch.false) in
    below_more (λ p. Stays (led s.kind) c.args.refuses calls c.args.table.now.positions.items s p) c.loop-party.party c.loop-party.invariant here

pub returns : goal.returns
returns g c =
    λ yes p h.
    let all = c.loop-party-test.false in
    let count = c.len-count.ensures in
    let ok = c.args.program.now.parties.ok.0 in
    let below : p < c.loop-party.party = omega (arith, all, count, ok, h) in
    c.loop-party.invariant p below
