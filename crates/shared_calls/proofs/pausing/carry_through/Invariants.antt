use Rattle.queue_laws.specs.Common.Vocabulary.{Call}
use Rattle.shared_calls.specs.Leaving.{IsLeft}
use Rattle.shared_calls.proofs.pausing.carry_through.Given as goal

-- the call is still on its way, whichever it is
abbrev pub invariant-loop : goal.invariant-loop
invariant-loop g l =
    let m = g.M.Site in
    record {
      going : (c : Call g.row.M-Item.Denot) × (first : g.row.M-Seat.Denot) × IsLeft m l.site first c l.left l.seat;
      goes : (c : Call g.row.M-Item.Denot) (first : g.row.M-Seat.Denot) → IsLeft m l.site first c l.initial.left l.initial.seat → IsLeft m l.site first c l.left l.seat;
    }
