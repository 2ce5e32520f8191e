use Rattle.std.proofs.Common.{◌∙◌, ◌-◌, Some, ap, map, sym}
use Rattle.std.{proofs.lemmas.Option.slice_get-get_or, proofs.lemmas.Option.slice_get-map, specs.Prelude.option_map, specs.Prelude.slice_get}
use Rattle.app_explore.specs.Listed.{listed_outcome, listed_schedule}
use Rattle.app_explore.proofs.listing.trace_outcome.Goals as goal

pub returns : goal.returns
returns g c =
    let i = c.args.number - 1 in
    let all = c.in_ok-list.list.outcomes.items in
    let one = c.in-Some.outcome.now in
    let at = c.in-Some.ensures.lookup.3 in
    let there = ap (λ l. slice_get l i) (sym c.deref.ensures.value) ∙ slice_get-get_or c.deref.result.now i one at.0 ∙ ap Some (sym (at.1 one)) in
    record {
      schedules = map listed_schedule all;
      outcomes = map listed_outcome all;
      are = c.in_ok-list.ensures.are;
      outcome = slice_get-map listed_outcome all i ∙ ap (option_map listed_outcome) there ∙ ap Some (sym c.in_ok-trace.ensures.outcome);
      schedule = listed_schedule one;
      there = slice_get-map listed_schedule all i ∙ ap (option_map listed_schedule) there;
      trace = c.in_ok-trace.ensures.trace;
    }
