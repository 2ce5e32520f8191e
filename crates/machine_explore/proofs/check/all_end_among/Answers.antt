use Rattle.std.{proofs.Common.map, proofs.Common.subst, proofs.lemmas.List.take_all, proofs.lemmas.List.Elements.All-more, specs.List.All}
use Rattle.machine_explore.specs.{Positions.Standing, Reports.outcome_in, Tables.EndsAmong}
use Rattle.machine_explore.proofs.check.all_end_among.Goals as goal

pub loop-position-preserved : goal.loop-position-preserved
loop-position-preserved g c =
    let P : Standing → Type 0 = λ s. EndsAmong c.args.program.now.parties.items (map outcome_in c.args.outcomes.now) s in
    All-more P c.args.positions.now c.loop-position.position-index c.position-item.result c.loop-position-test.true c.loop-position.invariant (subst P c.position-item.is (c.in_ok-ends_among.ensures c.if-not-branch.false))

pub returns : goal.returns
returns g c =
    λ yes.
    subst (λ l. All (EndsAmong c.args.program.now.parties.items (map outcome_in c.args.outcomes.now)) l) (take_all c.loop-position.position-index c.args.positions.now c.loop-position-test.false) c.loop-position.invariant
