-- Where a call on a chain stands in the machine, by the laws of the chain, and where it stands after each step: nothing here knows a cell.
use Rattle.std.proofs.Common.{ℕ, ◌≡◌, ◌≢◌, true, Option, None, List, [], ◌∷◌, sym, subst, arith}
use Rattle.queue_steps.specs.{State.State, Kinds.call_kind, Kinds.call_value, ChainNext.chain_begin, ChainNext.chain_next}
use Rattle.machine_replay.specs.{Vocabulary.Call, Vocabulary.Reply, Vocabulary.Effect, Vocabulary.Kind, Vocabulary.Answer, Vocabulary.Next, Vocabulary.Running, Book.Open, Book.after_own, Book.begun, Book.is_wait_free, Book.joined, Book.watched}
use Rattle.queue_laws.specs.{Common.Effects.with_effect, Chain.ChainCells.Chain, Chain.ChainCells.queue_of, Chain.ChainCells.ChainOk, Chain.ChainCells.HoldsOnly, Chain.ChainCells.Nothing, Chain.ChainPasses.Passes, Chain.ChainPasses.Spares, Chain.ChainPasses.spare_in, Chain.ChainAt.At}
use Rattle.queue_laws.specs.Chain.{ChainAnswers.Answers, ChainAnswers.tail_word, ChainAnswers.head_word, ChainAfter.chain_of, ChainAfter.after_of, ChainAfter.carried_of, ChainAfter.left_by}
use Rattle.machine_replay.proofs.{Engine.StandOf.stand_of, Chain.Moments.chain_begun, Chain.Moments.allowed_in, Engine.Moments.same_moments}
use Rattle.machine_replay.proofs.Progress.FewSteps.{FewSteps, few_begun, few_joined, few_watched, few_own, few_stays}
use Rattle.queue_laws.proofs.Chain.{ChainFacts.holds_stays, ChainAt.at_stays, ChainStart.Begins, ChainStart.at_begun, ChainGiven.spares_stay, ChainRight.NextOkSpares, ChainRight.step_right, ChainRanksStep.alone_falls, ChainRanksStep.wait_free_falls, ChainRanksStep.wait_free_small}
use Rattle.queue_laws.proofs.Chain.ChainRanks.{rank, longest, rank_small, rank_some, Falls}
use Rattle.machine_memory.specs.SharedMemory.{MemoryState}
use Rattle.machine_steps.specs.Steps.{CanStep, step_of, start_of, running_after, reply_after}
use Rattle.machine_replay.proofs.Engine.Events as engine

-- a party between calls holds no part and has no spare
abbrev pub ChainIdle : {A : Type 0} → Chain A → ℕ → Type 0
ChainIdle g p = HoldsOnly g p Nothing × Spares g p None

-- where the party's call stands, that it has no spare but that in its hands, and that it has few steps before it
pub record ChainFits {A : Type 0} (busy : ℕ) (s : MemoryState A) (Q : State A) (g : Chain A) (p : ℕ) (x : Running A) (o : Open A) : Type 0 where
  pub here : At g p o.moments (stand_of x o.call o.effects)
  pub spares : Spares g p (spare_in x.local)
  pub few : FewSteps busy o (rank g x.local) longest

-- the engine's words at a chain, for any shared memory that stands for it
abbrev pub ChainGoes : (A : Type 0) (Stands : MemoryState A → State A → Chain A → Type 0) → ℕ → MemoryState A → State A → Chain A → ℕ → Open A → Option (Running A) → Option (Reply A) → Type 0
ChainGoes A Stands = engine.NextFits A (MemoryState A) (Running A) (Chain A) None (step_of Kind.Unbounded) (start_of Kind.Unbounded) (CanStep Kind.Unbounded) Stands ChainIdle ChainFits

abbrev ChainBegins : (A : Type 0) (Stands : MemoryState A → State A → Chain A → Type 0) → MemoryState A → State A → Chain A → ℕ → Call A → Option (Running A) → Option (Reply A) → Type 0
ChainBegins A Stands = engine.BeginsWell A (MemoryState A) (Running A) (Chain A) None (step_of Kind.Unbounded) (start_of Kind.Unbounded) (CanStep Kind.Unbounded) Stands ChainIdle ChainFits

-- the block that a reply gives up makes no difference to the count
falls_left : {A : Type 0} (r : Chain A) (n : Next ℕ) (m : ℕ) → Falls r n m → Falls (left_by r n) n m
falls_left r (Next.Step l t o) m h = h
falls_left r (Next.Reply x spare) m h = tt

module _ {A : Type 0} (Stands : MemoryState A → State A → Chain A → Type 0) (busy : ℕ) where
  -- where the call stands after its step, or its reply
  goes_on : (s : MemoryState A) (g : Chain A) (p : ℕ) (o : Open A) (n : Next ℕ) (v : Option A) (es : List (Effect A)) (m : ℕ)
      → FewSteps busy o m longest → (busy ≡ 1 → Falls g n m) → (is_wait_free o.call ≡ true → Falls g n m) → NextOkSpares g p (queue_of g ∷ o.moments) n v o.call es
      → ChainGoes A Stands busy s (queue_of g) g p (after_own busy o (queue_of g) es) (running_after n v) (reply_after n v)
  goes_on s g p o (Next.Step l t x) v es m few falls hurry ends =
      let less = few_own busy o (queue_of g) es m (rank g l) longest (rank_small (tail_word g) (head_word g) l) falls hurry few in
      (record { here = ends.0; spares = ends.1; few = less }, few_stays busy (after_own busy o (queue_of g) es) (rank g l) longest (omega arith) (rank_some (tail_word g) (head_word g) l) (chain_begun ends.0) less)
  goes_on s g p o (Next.Reply x spare) v es m few falls hurry ends =
      let y = ends.2 in
      rw y.1 ((ends.0, ends.1), (y.2, λ e. allowed_in o.call y.0 (queue_of g ∷ o.moments) (y.3 e)))

  -- where a call stands after the step that got this answer
  pub chain_goes : (s t : MemoryState A) (Q : State A) (g : Chain A) (p : ℕ) (x : Running A) (o : Open A) (a : Answer ℕ)
      → (ok : ChainOk g) (found : Answers g x.op a) (f : ChainFits busy s Q g p x o) → (busy ≡ 1 → (j : ℕ) → j ≢ p → ChainIdle g j)
      → ChainGoes A Stands busy t (queue_of (left_by (after_of f.here a) (chain_next (chain_of x.local) a))) (left_by (after_of f.here a) (chain_next (chain_of x.local) a)) p
      (after_own busy o (queue_of (left_by (after_of f.here a) (chain_next (chain_of x.local) a))) (with_effect o.effects (step_right f.here a ok found f.spares).e))
      (running_after (chain_next (chain_of x.local) a) (carried_of f.here)) (reply_after (chain_next (chain_of x.local) a) (carried_of f.here))
  chain_goes s t Q g p x o a ok found f quiet =
      let right = step_right f.here a ok found f.spares in
      let r = after_of f.here a in
      let n = chain_next (chain_of x.local) a in
      goes_on t (left_by r n) p o n (carried_of f.here) (with_effect o.effects right.e) (rank g x.local) f.few
      (λ one. falls_left r n (rank g x.local) (alone_falls f.here a ok found (λ j ne. (quiet one j ne).0)))
      (λ e. falls_left r n (rank g x.local) (wait_free_falls f.here a found e)) right.ends

-- a call of another party stands where it stood
pub chain_watched : {A : Type 0} (busy busy' : ℕ) (s t : MemoryState A) (Q : State A) (g h : Chain A) (p j : ℕ) (x : Running A) (o : Open A) → ChainOk g → ChainOk h → j ≢ p → Passes p g h → busy ≢ 1
    → ChainFits busy s Q g j x o → ChainFits busy' t (queue_of h) h j x (watched (queue_of h) o)
chain_watched busy busy' s t Q g h p j x o ok after ne pass many f = record {
  here = subst (λ ms. At h j ms (stand_of x o.call o.effects)) (same_moments (queue_of h) o.moments) (at_stays ok after ne pass f.here);
  spares = spares_stay p j (spare_in x.local) ne pass f.spares;
  few = few_watched busy busy' (queue_of h) o (rank g x.local) (rank h x.local) longest many (rank_small (tail_word h) (head_word h) x.local) (λ e. let same = (wait_free_small h f.here e).1 in omega arith) f.few;
}

-- a party between calls stays so
pub chain_idle : {A : Type 0} (g h : Chain A) (p j : ℕ) → j ≢ p → Passes p g h → ChainIdle g j → ChainIdle h j
chain_idle g h p j ne pass idle = (holds_stays p j Nothing ne pass idle.0, spares_stay p j None ne pass idle.1)

-- where another call begins
pub chain_joins : {A : Type 0} (busy busy' : ℕ) (s : MemoryState A) (Q : State A) (g : Chain A) (p : ℕ) (x : Running A) (o : Open A) → ChainFits busy s Q g p x o → ChainFits busy' s Q g p x (joined o)
chain_joins busy busy' s Q g p x o f = record { here = f.here; spares = f.spares; few = few_joined busy busy' o (rank g x.local) longest f.few }

-- a call just begun
fresh : {A : Type 0} (s : MemoryState A) (Q : State A) (g : Chain A) (p : ℕ) (k : Call A) (x : Running A) → At g p [] (stand_of x k []) → Spares g p (spare_in x.local) → (busy : ℕ) → ChainFits busy s Q g p x (begun k)
fresh s Q g p k x here spares busy = record {
  here = here;
  spares = spares;
  few = few_begun busy k (rank g x.local) longest (rank_small (tail_word g) (head_word g) x.local) (λ e. (wait_free_small g here e).0);
}

pub chain_begins : {A : Type 0} (Stands : MemoryState A → State A → Chain A → Type 0) (s : MemoryState A) (Q : State A) (g : Chain A) (p : ℕ) (k : Call A) → Q.cap ≡ None → ChainIdle g p
    → ChainBegins A Stands s Q g p k (start_of Kind.Unbounded k).call (start_of Kind.Unbounded k).reply
chain_begins {A} Stands s Q g p k open_ended idle = by (chain_begin (call_kind k)) (at_begun k)
  where
    by : (n : Next ℕ) → Begins k n → ChainBegins A Stands s Q g p k (running_after n (call_value k)) (reply_after n (call_value k))
    by (Next.Step l t o) (steps, touch, light, on, here) = (steps, fresh s Q g p k _ (here g p [] idle.0) (subst (λ f. Spares g p f) (sym light) idle.1))
    by (Next.Reply x spare) (none, given, (y, fill, tells, right)) = rw fill (none, right Q open_ended)
