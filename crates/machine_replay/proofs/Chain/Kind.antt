-- All that a chain of blocks owes the machine.
use Rattle.std.proofs.Common.{ℕ, Option, Some, None}
use Rattle.machine_replay.specs.{Vocabulary.Kind, Vocabulary.Running, Book.Book, Book.Open}
use Rattle.queue_laws.{specs.Chain.ChainCells.Chain, proofs.Chain.ChainFirst.first}
use Rattle.machine_memory.specs.SharedMemory.{MemoryState}
use Rattle.machine_steps.specs.{Steps.CanStep, Steps.step_of, Steps.start_of, World.World, World.call_at}
use Rattle.machine_replay.proofs.Engine.Events as engine
use Rattle.machine_replay.proofs.Chain.{Holding.ChainHolds, Fits.ChainIdle, Fits.ChainFits, Laws.chain_steps, Stands.steps_stand, Opening.chain_opens, Opening.chain_all_idle, Counted.StandsAt, Counted.chain_counted, Left.chain_left}
use Rattle.machine_replay.proofs.Engine.KindLaws.{Rules, KindLaws, SimulatesOf, IsCounted}

-- each party of a run on a chain stands between its calls or in one
party_stands : {A : Type 0} (s : MemoryState A) (g : Chain A) (p : ℕ) (r : Option (Running A)) (o : Option (Open A)) (busy : ℕ) (b : Book A)
    → engine.Party A (MemoryState A) (Running A) (Chain A) None (step_of Kind.Unbounded) (start_of Kind.Unbounded) (CanStep Kind.Unbounded) ChainHolds ChainIdle ChainFits busy s b.queue g p r o → StandsAt g p r
party_stands s g p None None busy b h = h
party_stands s g p (Some r) (Some o) busy b h = record { moments = o.moments; call = o.call; effects = o.effects; here = h.here; spares = h.spares }
party_stands s g p r o busy b h = absurd h

-- the blocks of a run
counts : {A : Type 0} (parties : ℕ) (w : World (MemoryState A) (Running A)) (b : Book A) → SimulatesOf A Kind.Unbounded (Chain A) ChainHolds ChainIdle ChainFits parties w b → IsCounted w b
counts parties w b sim = chain_counted w b sim.g sim.holds sim.busy_is (λ p. party_stands w.shared sim.g p (call_at w p) (b.open_call p) b.busy b (sim.each p))

-- a chain of blocks keeps the laws of the machine
abbrev pub chain_rules : (T : Type 0) → Rules T Kind.Unbounded
chain_rules T = record {
  G = Chain T;
  Holds = ChainHolds;
  Idle = ChainIdle;
  Fits = ChainFits;
  laws = chain_steps (steps_stand T);
  first = first;
  opens = chain_opens T;
  all_idle = chain_all_idle T;
}

-- and owes no more
pub chain_laws : (T : Type 0) → KindLaws T Kind.Unbounded
chain_laws T = record {
  rules = chain_rules T;
  leaves = λ parties w b sim. chain_left w b sim.g sim.holds (λ p. party_stands w.shared sim.g p (call_at w p) (b.open_call p) b.busy b (sim.each p));
  counts = counts;
}
