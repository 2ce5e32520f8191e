-- The opening of a chain: the words stand for it, and every party is idle.
use Rattle.std.proofs.{Common.ℕ, Common.None, Common.[], Common.refl, Common.arith, lemmas.List.get_or_past}
use Rattle.queue_steps.specs.State.{start}
use Rattle.machine_replay.{specs.Vocabulary.Kind, proofs.Chain.Fits.ChainIdle, proofs.Chain.Holding.ChainHolds}
use Rattle.queue_laws.proofs.Chain.ChainFirst.{first, first_ok, first_idle, first_spares}
use Rattle.machine_memory.specs.Opening.{opening_shared}

pub chain_opens : (A : Type 0) → ChainHolds {A = A} (opening_shared Kind.Unbounded) (start None 0) first
chain_opens A = record {
  ok = first_ok;
  codes = record {
    ends = refl;
    unused = λ f low. refl;
    name = λ f. get_or_past [] f None (omega arith);
  };
  queue_is = refl;
}

pub chain_all_idle : (A : Type 0) (p : ℕ) → ChainIdle (first {A = A}) p
chain_all_idle A p = (first_idle A p, first_spares A p)
