use Rattle.app_explore.proofs.Ordered.{are_outcomes, outcome_texts}
use Rattle.app_explore.proofs.listing.outcome_list.Goals as goal

pub returns-clause-are : goal.returns-clause-are
returns-clause-are g c =
    let t = c.args.problem.now in
    are_outcomes t.kind t.refuses t.program.before t.program.parties.items c.in_ok-outcomes.field-0.outcomes.items c.in_ok-sorted_by_text.field-0.items c.in_ok-outcomes.ensures c.in_ok-sorted_by_text.ensures

pub returns-clause-texts : goal.returns-clause-texts
returns-clause-texts g c = outcome_texts c.in_ok-sorted_by_text.field-0.items c.in_ok-sorted_by_text.ensures.texts
