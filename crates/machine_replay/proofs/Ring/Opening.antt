-- The machine of a ring at its beginning.
use Rattle.std.proofs.Common.{ℕ, Some, refl}
use Rattle.queue_steps.specs.{State.start, Words.IsRing}
use Rattle.machine_replay.{specs.Vocabulary.Kind, proofs.Ring.Laws.RingHolds, proofs.Ring.Laws.RingIdle}
use Rattle.machine_memory.specs.Opening.{opening_shared}
use Rattle.queue_laws.{specs.Ring.RingOpening.opening_ring, proofs.Ring.RingOpening.opening_ok, proofs.Ring.RingOpening.opening_codes}

pub ring_opens : (A : Type 0) (cap : ℕ) → IsRing cap → RingHolds {A = A} cap (opening_shared (Kind.Bounded cap)) (start (Some cap) 0) (opening_ring A)
ring_opens A cap ring = record { ok = opening_ok A cap ring; codes = opening_codes A cap; queue_is = refl; no_blocks = refl }

pub ring_all_idle : (A : Type 0) (p : ℕ) → RingIdle (opening_ring A) p
ring_all_idle A p = λ k e. cc
