-- The chain before the first call: no item, and no block.
use Rattle.std.proofs.Common.{ℕ, inl, false, None, [], refl, arith}
use Rattle.queue_laws.specs.Chain.ChainCells.{Free, Unread, Rests, Stands, Unlinked, Hidden, Before, Unused, Chain, ChainOk, Write, HoldsOnly, Nothing}
use Rattle.queue_laws.specs.Chain.ChainPasses.{Spares}

-- nothing was accepted, and no name was given out
abbrev pub first : {A : Type 0} → Chain A
first = record {
  head = 0;
  tail = 0;
  closed = false;
  items = [];
  writers = λ n. Free;
  readers = λ n. Unread;
  mover = Rests;
  passer = Stands;
  blocks = 0;
  names = λ b. 0;
  uses = λ f. Unused;
  links = λ b. Unlinked;
  shown = Hidden;
  front = 0;
  known = false;
  walks = λ b. Before;
}

pub first_ok : {A : Type 0} → ChainOk (first {A = A})
first_ok = record {
  count = refl;
  most = omega arith;
  item = λ n. omega arith;
  laid = inl (refl, refl);
  link = λ b. omega arith;
  name = λ b lt. absurd (omega arith);
  named = λ f b e. cc;
  fronted = refl;
  seen = (refl, refl, refl, refl, refl);
  opens = λ who e. cc;
  reaches = λ who e. cc;
  knows = λ e s. cc;
  walk = λ b e. cc;
}

-- every party is idle
pub first_idle : (A : Type 0) (who : ℕ) → HoldsOnly (first {A = A}) who Nothing
first_idle A who (Write n) e = cc
first_idle A who x e = cc

pub first_spares : (A : Type 0) (who : ℕ) → Spares (first {A = A}) who None
first_spares A who f e = cc
