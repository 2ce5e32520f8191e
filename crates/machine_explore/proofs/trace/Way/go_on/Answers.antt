use Rattle.std.proofs.Common.{◌≡◌, false, true}
use Rattle.std.proofs.lemmas.Bool.{not-false}
use Rattle.machine_explore.proofs.trace.Way.go_on.Goals as goal
use Rattle.machine_explore.proofs.trace.Way.go_on.Goals.{else-not-step-via-then-not-step+else-not-refuses, else-not-step-via-else-not-step}

pub returns-clause-more : goal.returns-clause-more
returns-clause-more g c = λ yes.
    let may : c.args.refuses ≡ false → c.args.step.granted ≡ true = λ never.
    elim c.else-not-step.branch [ else-not-step-via-then-not-step+else-not-refuses w ↦ (let some = w.if-not-refuses.false in cc) | else-not-step-via-else-not-step w ↦ not-false c.args.step.granted w.if-not-step.false ] in
    record {
      may = may;
      one = c.in-Some.entry;
      seen_is = c.in_ok-push.ensures.items;
      is = rw c.in-Some.is at c.in_ok-entry.ensures;
    }
