-- A chain: a call that has appended replies by its fourth step, whatever the other parties do.
use Rattle.std.proofs.Common.{ℕ, ◌<◌, ◌≤◌, ◌≡◌, Bool, Option, Some, List, subst, arith}
use Rattle.queue_steps.specs.{State.State, declared.steps.chain.ChainLocal.ChainLocal as chain}
use Rattle.machine_replay.specs.{Vocabulary.Kind, Vocabulary.Op, Vocabulary.Touch, Vocabulary.Local, Vocabulary.Running, Progress.AppendsReplyWithin}
use Rattle.queue_laws.specs.{Common.Stand.Stand, Chain.ChainCells.Chain, Chain.ChainAt.At, Chain.ChainAt.laying, Chain.ChainAt.opening, Chain.ChainAt.chaining, Chain.ChainAt.writing}
use Rattle.machine_replay.proofs.{Engine.StandOf.running_of, Progress.Appended.HasAppend, Progress.Appended.appends_reply, Chain.Kind.chain_rules}
use Rattle.machine_memory.specs.SharedMemory.{MemoryState}
use Rattle.machine_steps.specs.Steps.{step_of}

-- how many steps a call has before it that has appended
to_write : Local ℕ → ℕ
to_write (Local.Chain (chain.Laying d tail block fresh)) = 4
to_write (Local.Chain (chain.Opening d tail block fresh)) = 3
to_write (Local.Chain (chain.Chaining d tail block fresh)) = 2
to_write _ = 1

append_within : {A : Type 0} {c : Chain A} {who : ℕ} {ms : List (State A)} {k : Stand A} → At c who ms k → HasAppend k.effects → (0 < to_write k.local) × (to_write k.local ≤ 4)
unfolding to_write
append_within (laying d v n name f holds mine lays fresh) had = (omega arith, omega arith)
append_within (opening d v n name f holds mine opens links named) had = (omega arith, omega arith)
append_within (chaining d v n name f holds mine links named) had = (omega arith, omega arith)
append_within (writing d v n name spare holds mine spare_is) had = (omega arith, omega arith)
append_within x had = absurd had

nearer_write : {A : Type 0} (l : Local ℕ) (t : Touch) (o : Op ℕ) (v : Option A) (r' : Running A) (m : ℕ) → Some (record { local = l; touch = t; op = o; carried = v }) ≡ Some r' → to_write l < m → to_write r'.local < m
nearer_write {A} l t o v r' m e lt = let same : ◌≡◌ {A = Running A} (record { local = l; touch = t; op = o; carried = v }) r' = cc in subst (λ z. to_write z.local < m) same lt

append_falls : {A : Type 0} {c : Chain A} {who : ℕ} {ms : List (State A)} {k : Stand A} (ok : Bool) (s : MemoryState A) (r' : Running A) → At c who ms k → HasAppend k.effects
    → (step_of Kind.Unbounded ok s (running_of k)).call ≡ Some r' → to_write r'.local < to_write k.local
unfolding to_write
append_falls ok s r' (laying d v n name f holds mine lays fresh) had goes = nearer_write _ _ _ _ r' 4 goes (omega arith)
append_falls ok s r' (opening d v n name f holds mine opens links named) had goes = nearer_write _ _ _ _ r' 3 goes (omega arith)
append_falls ok s r' (chaining d v n name f holds mine links named) had goes = nearer_write _ _ _ _ r' 2 goes (omega arith)
append_falls ok s r' (writing d v n name spare holds mine spare_is) had goes = cc
append_falls ok s r' x had goes = absurd had

pub chain_appends : (A : Type 0) → AppendsReplyWithin A Kind.Unbounded 4
chain_appends A = appends_reply A Kind.Unbounded (chain_rules A) (record {
  before = to_write;
  most = 4;
  within = λ busy s Q g p r o f had. append_within f.here had;
  falls = λ busy ok s Q g p r r' o f had goes. append_falls ok s r' f.here had goes;
})
