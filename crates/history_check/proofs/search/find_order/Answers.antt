use Rattle.history_check.{specs.Legal.opening, proofs.Deciding.nobody}
use Rattle.history_check.proofs.search.find_order.Goals as goal

pub loop-event-init : goal.loop-event-init
loop-event-init g c = record {
  foresees = c.in_ok-ahead.ensures;
  survives = λ legal. (opening c.args.rules c.args.parties, legal.0, rw c.in_ok-stage.ensures at c.in_ok-add.ensures.has, legal.1);
}

pub go_past-requires : goal.go_past-requires
go_past-requires g c = record { noted = rw c.in-Some.ensures.0 at c.loop-event.invariant.foresees }

pub loop-event-preserved : goal.loop-event-preserved
loop-event-preserved g c = record {
  foresees = c.go_past.ensures;
  survives = λ legal.
      let passes = rw c.in-Some-2.is at c.in_ok-next.ensures in
      let survives = rw c.in-Some.ensures.0 at (c.loop-event.invariant.survives legal) in
      rw c.shorten.ensures (passes c.in-Some.others.now (rw c.in-Some.ensures.0 at c.loop-event.invariant.foresees) survives);
}

pub returns-then-is_empty : goal.returns-then-is_empty
returns-then-is_empty g c =
    λ legal.
    let passes = rw c.in-Some-2.is at c.in_ok-next.ensures in
    let survives = rw c.in-Some.ensures.0 at (c.loop-event.invariant.survives legal) in
    nobody c.in-Some-2.next c.in-Some.others.now (c.is_empty.ensures c.if-is_empty.true) (passes c.in-Some.others.now (rw c.in-Some.ensures.0 at c.loop-event.invariant.foresees) survives)
