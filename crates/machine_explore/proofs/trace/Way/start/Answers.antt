use Rattle.std.proofs.Common.{◌∙◌, [], ap, subst, sym}
use Rattle.machine_steps.specs.Left.{left_of}
use Rattle.machine_explore.{specs.Traces.IsUnderWay, proofs.Showing.under_way-first}
use Rattle.machine_explore.proofs.trace.Way.start.Goals as goal

pub returns : goal.returns
returns g c = λ refuses.
    let s = c.in-Some.position in
    let start = rw c.in-Some.is at c.in_ok-position.ensures in
    record {
      start = s;
      starts = start;
      opens = c.in_ok-opening.ensures ∙ ap (λ k. left_of k s.world) start.kind;
      on = subst (λ l. IsUnderWay c.args.kind refuses c.args.program.now.parties.items s.world [] l s) (sym c.new-entries.ensures.items) (under_way-first c.args.kind refuses c.args.program.now.before c.args.program.now.parties.items s start);
    }
