use Rattle.std.proofs.Common.{◌≤◌, List, length, drop, arith}
use Rattle.std.proofs.lemmas.{List.drop_all, List.at_drop_more, Bool.Decides.nat_tests}
use Rattle.history_check.specs.declared.recorded.Move.{Move}
use Rattle.history_check.proofs.show.shows.Goals as goal

pub loop-next-init : goal.loop-next-init
loop-next-init g c = rw c.in_ok-stage.ensures (λ h. h)

pub loop-next-preserved : goal.loop-next-preserved
loop-next-preserved g c =
    λ h.
    let first = at_drop_more (λ (x : List Move). x) c.args.moves.now c.loop-next.next-index Move.Event c.loop-next-test.true in
    let takes = rw c.in-Some.is at c.in_ok-then.ensures in
    c.loop-next.invariant (rw first (c.take.new.self, drop c.in-Some.then c.args.events.now, takes, h))

pub returns : goal.returns
returns g c =
    λ over.
    let past : length c.args.events.now ≤ c.loop-next.at = grind (arith, nat_tests, over) in
    let none = drop_all c.loop-next.next-index c.args.moves.now c.loop-next-test.false in
    c.loop-next.invariant (rw none (drop_all c.loop-next.at c.args.events.now past))
