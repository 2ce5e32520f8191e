use Rattle.std.proofs.Common.{map, subst}
use Rattle.machine_explore.specs.Waiting.{HasNoOtherWait, wait_of}
use Rattle.machine_explore.proofs.explore.explore_waits.Goals as goal

pub returns : goal.returns
returns g c =
    let t = c.args.problem.now in
    record {
      no_other = subst (λ l. HasNoOtherWait t.kind t.refuses t.program.before t.program.parties.items (map wait_of l)) c.deref-2.ensures.value (c.in_ok-check_waits.ensures c.if-not-branch.false);
      shown = c.in_ok-waits.ensures;
    }
