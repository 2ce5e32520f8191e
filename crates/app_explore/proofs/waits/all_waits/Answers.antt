use Rattle.std.proofs.{Common.map, lemmas.Result.IfOk-weaker}
use Rattle.machine_explore.specs.Waiting.{wait_of}
use Rattle.app_explore.{specs.Listed.AreListed, specs.Listed.listed_wait, specs.WaitLines.wait_text, specs.Waits.AreWaits, proofs.Ordered.are_waits}
use Rattle.app_explore.proofs.waits.all_waits.Goals as goal

pub returns : goal.returns
returns g c =
    let t = c.args.problem.now in
    let waits = c.in_ok-waits.waits.items in
    IfOk-weaker c.sorted_by_text.result (λ all. AreListed (λ x. wait_text (wait_of x)) waits all.items) (λ all. AreWaits t.kind t.refuses t.program.before t.program.parties.items (map listed_wait all.items))
    (λ all is. are_waits t.kind t.refuses t.program.before t.program.parties.items waits all.items c.in_ok-waits.ensures is) c.sorted_by_text.ensures
