-- A chain keeps the laws of the engine, where each step of a call leaves words, links and blocks that stand for the chain after it.
use Rattle.std.proofs.Common.{ℕ, ◌≡◌, ◌≢◌, Bool, Option, None, List, refl, sym, ap, subst}
use Rattle.queue_steps.specs.{State.State, Next.CanNext, Next.next_of, ChainNext.chain_next}
use Rattle.machine_replay.specs.{Vocabulary.Call, Vocabulary.Effect, Vocabulary.Kind, Vocabulary.Next, Vocabulary.Running, Book.Open, Book.Moves, Book.after_own}
use Rattle.queue_laws.specs.{Common.Effects.with_effect, Chain.ChainCells.Chain, Chain.ChainCells.queue_of, Chain.ChainAt.At, Chain.ChainAnswers.Answers, Chain.ChainPasses.Spares, Chain.ChainPasses.spare_in}
use Rattle.queue_laws.specs.Chain.ChainAfter.{chain_of, after_of, carried_of, left_by}
use Rattle.machine_replay.proofs.{Engine.StandOf.stand_of, Engine.KindLaws.LawsOf, Chain.Coded.CodesShared, Chain.Holding.ChainHolds, Chain.Moments.chain_moves}
use Rattle.machine_replay.proofs.Chain.Fits.{ChainIdle, ChainFits, ChainGoes, chain_goes, chain_watched, chain_idle, chain_joins, chain_begins}
use Rattle.queue_laws.proofs.Chain.{ChainStep.is_chain, ChainRight.NextOkSpares, ChainRight.step_right}
use Rattle.machine_memory.specs.{SharedMemory.MemoryState, SharedMemory.CanTouch, SharedMemory.CanOperate, SharedMemory.block_touched, SharedMemory.slots_there, EffectOf.effect_of}
use Rattle.machine_steps.specs.Steps.{CanReply, CanStep, after_touch, answer_to, carried_then, shared_then, next_after, running_after, reply_after, step_of, start_of}
use Rattle.machine_replay.proofs.Engine.Events as engine

-- what the call does after its step, by what it found
abbrev pub next_on : {A : Type 0} → Bool → MemoryState A → Running A → Next ℕ
next_on ok s x = chain_next (chain_of x.local) (answer_to ok s x)

-- the chain after the step, and after the block that is given up then, if there is one
abbrev pub chain_then : {A : Type 0} (ok : Bool) (s : MemoryState A) (g : Chain A) (p : ℕ) (ms : List (State A)) (x : Running A) (k : Call A) (es : List (Effect A)) → At g p ms (stand_of x k es) → Chain A
chain_then ok s g p ms x k es at = left_by (after_of at (answer_to ok s x)) (next_on ok s x)

-- the step of a call can be taken, it answers for the chain and hands the call what the chain says, and what it leaves stands for the chain after it
pub record StepStands {A : Type 0} (ok : Bool) (s : MemoryState A) (g : Chain A) (p : ℕ) (ms : List (State A)) (x : Running A) (k : Call A) (es : List (Effect A)) (at : At g p ms (stand_of x k es)) : Type 0 where
  pub touches : CanTouch x.touch (slots_there s (block_touched x.op))
  pub operates : CanOperate (after_touch s x) x.op
  pub found : Answers g x.op (answer_to ok s x)
  pub carried : carried_then s x ≡ carried_of at
  pub codes : CodesShared (shared_then Kind.Unbounded ok s x) (chain_then ok s g p ms x k es at)

-- each step of each call does so
abbrev pub StepsStand : Type 0 → Type 0
StepsStand A = (ok : Bool) (s : MemoryState A) (Q : State A) (g : Chain A) (p : ℕ) (ms : List (State A)) (x : Running A) (k : Call A) (es : List (Effect A))
    → ChainHolds s Q g → (at : At g p ms (stand_of x k es)) → Spares g p (spare_in x.local) → StepStands ok s g p ms x k es at

-- the step function at a local state of a chain
same_next : {A : Type 0} (ok : Bool) (s : MemoryState A) (g : Chain A) (p : ℕ) (ms : List (State A)) (x : Running A) (k : Call A) (es : List (Effect A)) → At g p ms (stand_of x k es)
    → next_after Kind.Unbounded ok s x ≡ next_on ok s x
same_next ok s g p ms x k es at = ap (λ l. next_of Kind.Unbounded l (answer_to ok s x)) (is_chain at)

-- a call may reply at its step: its value is there
can_reply : {A : Type 0} (s : Chain A) (p : ℕ) (ms : List (State A)) (n : Next ℕ) (v : Option A) (k : Call A) (es : List (Effect A)) → NextOkSpares s p ms n v k es → CanReply n v
can_reply s p ms (Next.Step l t o) v k es ends = tt
can_reply s p ms (Next.Reply x spare) v k es ends = rw ends.2.1 refl

can_step : {A : Type 0} (stands : StepsStand A) (busy : ℕ) (ok : Bool) (s : MemoryState A) (Q : State A) (g : Chain A) (p : ℕ) (x : Running A) (o : Open A) → ChainHolds s Q g → ChainFits busy s Q g p x o → CanStep Kind.Unbounded ok s x
can_step stands busy ok s Q g p x o holds f =
    let step = stands ok s Q g p o.moments x o.call o.effects holds f.here f.spares in
    let right = step_right f.here (answer_to ok s x) holds.ok step.found f.spares in
    let after = chain_then ok s g p o.moments x o.call o.effects f.here in
    record {
      touches = step.touches;
      operates = step.operates;
      goes_on = subst (λ l. CanNext Kind.Unbounded l (answer_to ok s x)) (sym (is_chain f.here)) right.goes_on;
      replies = subst (λ n. CanReply n (carried_then s x)) (sym (same_next ok s g p o.moments x o.call o.effects f.here))
          (subst (λ v. CanReply (next_on ok s x) v) (sym step.carried) (can_reply after p _ (next_on ok s x) (carried_of f.here) o.call _ right.ends));
    }

-- the engine's words at the shared memory of a chain
abbrev ChainStepsWell : (A : Type 0) → ℕ → MemoryState A → State A → Chain A → ℕ → Open A → Running A → Bool → Type 0
ChainStepsWell A busy s Q g p o x ok = engine.StepsWell A (MemoryState A) (Running A) (Chain A) None (step_of Kind.Unbounded) (start_of Kind.Unbounded) (CanStep Kind.Unbounded) ChainHolds ChainIdle ChainFits busy s Q g p o (step_of Kind.Unbounded ok s x)

steps_well : {A : Type 0} (stands : StepsStand A) (busy : ℕ) (ok : Bool) (s : MemoryState A) (Q : State A) (g : Chain A) (p : ℕ) (x : Running A) (o : Open A)
    → ChainHolds s Q g → ChainFits busy s Q g p x o → (busy ≡ 1 → (j : ℕ) → j ≢ p → ChainIdle g j) → ChainStepsWell A busy s Q g p o x ok
steps_well {A} stands busy ok s Q g p x o holds f quiet =
    let a = answer_to ok s x in
    let step = stands ok s Q g p o.moments x o.call o.effects holds f.here f.spares in
    let right = step_right f.here a holds.ok step.found f.spares in
    let after = chain_then ok s g p o.moments x o.call o.effects f.here in
    let t = shared_then Kind.Unbounded ok s x in
    let es = with_effect o.effects right.e in
    record {
      after = queue_of after;
      kept = after;
      effects = es;
      holds = record { ok = right.ok; codes = step.codes; queue_is = refl };
      moves = subst (λ l. Moves Q o (effect_of Kind.Unbounded l a) (queue_of after) es) (sym (is_chain f.here)) (chain_moves Q g after o (chain_of x.local) a right.e holds.queue_is right.told right.makes);
      goes = subst (λ n. ChainGoes A ChainHolds busy t (queue_of after) after p (after_own busy o (queue_of after) es) (running_after n (carried_then s x)) (reply_after n (carried_then s x))) (sym (same_next ok s g p o.moments x o.call o.effects f.here))
          (subst (λ v. ChainGoes A ChainHolds busy t (queue_of after) after p (after_own busy o (queue_of after) es) (running_after (next_on ok s x) v) (reply_after (next_on ok s x) v)) (sym step.carried)
          (chain_goes ChainHolds busy s t Q g p x o a holds.ok step.found f quiet));
      idle = λ j ne idle. chain_idle g after p j ne right.passes idle;
      others = λ busy' j y m ne many h. chain_watched busy busy' s t Q g after p j y m holds.ok right.ok ne right.passes many h;
    }

-- each step of a call on a chain is right
pub chain_steps : {A : Type 0} → StepsStand A → LawsOf A Kind.Unbounded (Chain A) ChainHolds ChainIdle ChainFits
chain_steps stands = record {
  can_step = λ busy ok s Q g p x o holds f. can_step stands busy ok s Q g p x o holds f;
  steps_well = λ busy ok s Q g p x o holds f quiet. steps_well stands busy ok s Q g p x o holds f quiet;
  begins_well = λ s Q g p k holds idle. chain_begins ChainHolds s Q g p k (ap (λ q. q.cap) holds.queue_is) idle;
  joins_well = λ busy busy' s Q g p x o f. chain_joins busy busy' s Q g p x o f;
}
