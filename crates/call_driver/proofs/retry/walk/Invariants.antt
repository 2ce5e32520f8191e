use Rattle.std.proofs.Common.{ℕ}
use Rattle.queue_steps.specs.declared.model.Call.{Call}
use Rattle.call_driver.specs.OnWay.{Stood}
use Rattle.call_driver.proofs.retry.walk.Given as goal

-- some call has taken a step, and whichever call had, has taken one
abbrev pub invariant-loop : goal.invariant-loop
invariant-loop g l =
    let m = g.M.Site in
    record {
      going : (n : ℕ) × (c : Call g.row.M-Item.Denot) × (first : g.row.M-Seat.Denot) × Stood m n l.kind l.call l.site first c l.progress l.carried l.seat;
      stood : (n : ℕ) (c : Call g.row.M-Item.Denot) (first : g.row.M-Seat.Denot)
          → Stood m n l.kind l.call l.site first c l.initial.progress l.initial.carried l.initial.seat
          → Stood m n l.kind l.call l.site first c l.progress l.carried l.seat;
    }
