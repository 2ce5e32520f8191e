use Rattle.std.proofs.Common.{◌-◌, ◌<◌, ◌≤◌}
use Rattle.queue_laws.specs.Common.Vocabulary.{Call}
use Rattle.shared_calls.specs.{Pausing.IsStood, Settling.left_at, Settling.MayWait, Halts.next_at}
use Rattle.shared_calls.proofs.pausing.settle.Given as goal

-- some call stands there, whichever stood at first; and after each turn it is a step nearer to where it has had no effect
abbrev pub invariant-loop-turn : goal.invariant-loop-turn
invariant-loop-turn g l =
    let m = g.M.Site in
    record {
      going : (c : Call g.row.M-Item.Denot) × (first : g.row.M-Seat.Denot) × IsStood m l.site first c l.left l.seat;
      stood : (c : Call g.row.M-Item.Denot) (first : g.row.M-Seat.Denot) → IsStood m l.site first c l.initial.left l.initial.seat → IsStood m l.site first c l.left l.seat;
      nearer : ¬ (MayWait l.initial.left.kind (next_at l.initial.left)) → ¬ (MayWait l.left.kind (next_at l.left)) × (0 < l.turn → left_at (next_at l.left) ≤ 5 - l.turn);
    }
