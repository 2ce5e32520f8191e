use Rattle.std.proofs.Common.{map, subst}
use Rattle.machine_explore.specs.{Explored.HasNoOther, Reports.outcome_in}
use Rattle.machine_explore.proofs.explore.show.Goals as goal

pub returns : goal.returns
returns g c =
    let t = c.args.problem.now in
    record {
      no_other = subst (λ l. HasNoOther t.kind t.refuses t.program.before t.program.parties.items (map outcome_in l)) c.deref.ensures.value (c.in_ok-check.ensures c.if-not-branch.false);
      shown = c.in_ok-outcomes.ensures;
    }
