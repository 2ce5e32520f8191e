use Rattle.std.{proofs.Common.subst, proofs.Common.sym, proofs.lemmas.List.Elements.All-push, specs.List.All}
use Rattle.machine_explore.specs.Reports.{IsShownOutcome}
use Rattle.machine_explore.proofs.explore.show_outcomes.Goals as goal

pub loop-found-preserved : goal.loop-found-preserved
loop-found-preserved g c =
    let t = c.args.problem.now in
    let before = c.loop-found.invariant in (
      tt,
      tt,
      subst (λ l. All (IsShownOutcome t.kind t.refuses t.program.before t.program.parties.items) l) (sym c.in_ok-push.ensures.items)
          (All-push (IsShownOutcome t.kind t.refuses t.program.before t.program.parties.items) c.loop-found.shown.items c.in_ok-outcome.outcome before.2 c.in_ok-outcome.ensures),
    )
