use Rattle.std.{proofs.Common.map, proofs.Common.subst, specs.List.All}
use Rattle.machine_explore.{specs.Explored.HasNoOther, specs.Reports.outcome_in, specs.Tables.EndsAmong, proofs.NoOther.answered, proofs.NoOther.no_other}
use Rattle.machine_explore.proofs.check.check.Goals as goal

pub returns : goal.returns
returns g c =
    let calls = c.args.program.now.parties.items in
    let table = c.args.table.now.positions.items in
    let outcomes = map outcome_in c.args.outcomes.now in
    let closed = c.in_ok-is_closed.ensures c.if-not-branch.false in
    answered (All (EndsAmong calls outcomes) c.deref.result.now) (HasNoOther c.args.kind c.args.refuses c.args.program.now.before calls outcomes) c.all_end_among.result
    (λ ends. no_other c.args.kind c.args.refuses c.args.program.now.before calls table outcomes closed (subst (λ l. All (EndsAmong calls outcomes) l) c.deref.ensures.value ends)) c.all_end_among.ensures
