-- All that a ring owes the machine.
use Rattle.std.proofs.Common.{ℕ, ap}
use Rattle.queue_steps.specs.Words.{IsRing}
use Rattle.machine_replay.specs.Vocabulary.{Kind}
use Rattle.machine_replay.proofs.{Engine.KindLaws.Rules, Engine.KindLaws.KindLaws, Engine.Counted.counted-none, Ring.Laws.RingHolds, Ring.Laws.RingIdle, Ring.Laws.RingFits, Ring.Laws.ring_steps, Ring.Opening.ring_opens, Ring.Opening.ring_all_idle, Ring.Left.ring_leaves}
use Rattle.queue_laws.specs.Ring.{RingCells.Ring, RingOpening.opening_ring}

-- a ring of n slots keeps the laws of the machine
abbrev pub ring_rules : {T : Type 0} (n : ℕ) → IsRing n → Rules T (Kind.Bounded n)
ring_rules {T} n ring = record {
  G = Ring T;
  Holds = RingHolds n;
  Idle = RingIdle;
  Fits = RingFits n;
  laws = ring_steps n;
  first = opening_ring T;
  opens = ring_opens T n ring;
  all_idle = ring_all_idle T;
}

-- and owes no more
pub ring_laws : (T : Type 0) (n : ℕ) → IsRing n → KindLaws T (Kind.Bounded n)
ring_laws T n ring = record {
  rules = ring_rules n ring;
  leaves = λ parties w b sim. ring_leaves n parties w b sim;
  counts = λ parties w b sim. counted-none w b n sim.holds.no_blocks (ap (λ q. q.cap) sim.holds.queue_is);
}
