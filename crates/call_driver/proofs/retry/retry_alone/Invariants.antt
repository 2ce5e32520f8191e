use Rattle.std.proofs.Common.{◌-◌}
use Rattle.queue_steps.specs.declared.{sizes.TheConstants.STEPS_ALONE, model.Call.Call}
use Rattle.call_driver.specs.OnWay.{Before}
use Rattle.call_driver.proofs.retry.retry_alone.Given as goal

-- the call ends within the steps that are left, whichever it is
abbrev pub invariant-loop : goal.invariant-loop
invariant-loop g l =
    let m = g.M.Site in
    record {
      going : (c : Call g.row.M-Item.Denot) × (first : g.row.M-Seat.Denot) × Before m (STEPS_ALONE - l.counter) l.kind l.call l.site first c l.progress l.carried l.seat;
      goes : (c : Call g.row.M-Item.Denot) (first : g.row.M-Seat.Denot)
          → Before m STEPS_ALONE l.kind l.call l.site first c l.initial.progress l.initial.carried l.initial.seat
          → Before m (STEPS_ALONE - l.counter) l.kind l.call l.site first c l.progress l.carried l.seat;
    }
