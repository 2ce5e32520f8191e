use Rattle.std.proofs.Common.{◌-◌}
use Rattle.queue_laws.specs.Common.Vocabulary.{Call, STEPS_ALONE}
use Rattle.call_driver.specs.OnWay.{Stood}
use Rattle.shared_calls.proofs.pausing.go_round.Given as goal

-- some call has taken a step, and whichever call had, has taken one
abbrev pub invariant-loop : goal.invariant-loop
invariant-loop g l =
    let m = g.M.Site in
    record {
      going : (c : Call g.row.M-Item.Denot) × (first : g.row.M-Seat.Denot) × Stood m (STEPS_ALONE - 1) l.kind l.call l.site first c l.progress l.carried l.seat;
      stood : (c : Call g.row.M-Item.Denot) (first : g.row.M-Seat.Denot)
          → Stood m (STEPS_ALONE - 1) l.kind l.call l.site first c l.initial.progress l.initial.carried l.initial.seat
          → Stood m (STEPS_ALONE - 1) l.kind l.call l.site first c l.progress l.carried l.seat;
    }
