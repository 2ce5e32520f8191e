use Rattle.std.{proofs.Common.map, proofs.Common.subst, proofs.lemmas.List.take_all, proofs.lemmas.List.Elements.All-more, specs.List.All}
use Rattle.machine_explore.specs.{Positions.Standing, Waiting.wait_key, Waiting.wait_of, WaitTables.HasWaitsAt}
use Rattle.machine_explore.proofs.check_waits.have_waits.Goals as goal

pub loop-position-preserved : goal.loop-position-preserved
loop-position-preserved g c =
    let P : Standing → Type 0 = λ s. HasWaitsAt c.args.program.now.parties.items (map wait_key (map wait_of c.args.waits.now)) s in
    All-more P c.args.positions.now c.loop-position.position-index c.position-item.result c.loop-position-test.true c.loop-position.invariant (subst P c.position-item.is (c.in_ok-has_waits_at.ensures c.if-not-branch.false))

pub returns : goal.returns
returns g c =
    λ yes.
    subst (λ l. All (HasWaitsAt c.args.program.now.parties.items (map wait_key (map wait_of c.args.waits.now))) l) (take_all c.loop-position.position-index c.args.positions.now c.loop-position-test.false) c.loop-position.invariant
