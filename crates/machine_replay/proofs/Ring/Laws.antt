-- A ring keeps the laws of the engine.
use Rattle.std.proofs.Common.{ℕ, ◌≤◌, ◌≡◌, ◌≢◌, ◌||◌, not, ◌∙◌, inl, Bool, true, false, Option, Some, List, [], ◌∷◌, refl, sym, ap, subst, arith}
use Rattle.queue_steps.specs.{State.State, Next.CanNext, Next.next_of, WaitFree.is_wait_free, Replies.IsRightAt}
use Rattle.machine_replay.specs.{Vocabulary.Call, Vocabulary.Reply, Vocabulary.Effect, Vocabulary.Kind, Vocabulary.Next, Vocabulary.Running, Book.Open, Book.Allows, Book.after_own, Book.begun, Book.joined}
use Rattle.queue_laws.specs.{Common.Effects.Leads, Common.Effects.with_effect, Ring.RingCells.Ring, Ring.RingCells.queue_of, Ring.RingCells.RingOk, Ring.RingCells.HoldsNone, Ring.RingPasses.Passes, Ring.RingAt.At, Ring.RingWords.Codes}
use Rattle.machine_replay.proofs.{Engine.StandOf.stand_of, Engine.Moments.any_in, Engine.Moments.same_moments, Progress.FewSteps.FewSteps, Progress.FewSteps.few_begun, Progress.FewSteps.few_joined, Progress.FewSteps.few_watched, Progress.FewSteps.few_own, Progress.FewSteps.few_stays}
use Rattle.machine_replay.proofs.{Engine.KindLaws.LawsOf, Engine.Plain.IsPlain, Engine.Plain.plain-can, Engine.Plain.plain-step, Engine.Plain.plain-blocks, Ring.Coded.part, Ring.Coded.same_step, Ring.Moments.ring_begun, Ring.Moments.ring_moves}
use Rattle.queue_laws.specs.Ring.RingShared as ring
use Rattle.queue_laws.proofs.Ring.{RingPasses.none_stays, RingAt.at_stays, RingRanks.rank, RingRanks.rank_small, RingRanks.rank_some, RingRanks.longest, RingRanks.wait_free_rank, RingStepOk.IsQuiet, RingStepOk.NextOk, RingStepOk.IsEffect, RingStep.step_good, RingStart.at_first}
use Rattle.machine_steps.specs.World.{StepOutcome}
use Rattle.machine_memory.specs.SharedMemory.{MemoryState, CanTouch, CanOperate, slots_there, block_touched}
use Rattle.machine_steps.specs.Steps.{CanStep, CanReply, after_touch, answer_to, step_of, start_of, next_after, carried_then, running_after, reply_after, after_operation}
use Rattle.machine_replay.proofs.Engine.Events as engine

-- the ring stands for the state, and the words and slots for the ring
pub record RingHolds {A : Type 0} (cap : ℕ) (s : MemoryState A) (Q : State A) (g : Ring A) : Type 0 where
  pub ok : RingOk cap g
  pub codes : Codes cap g (part s)
  pub queue_is : Q ≡ queue_of cap g
  pub no_blocks : s.blocks ≡ []

abbrev pub RingIdle : {A : Type 0} → Ring A → ℕ → Type 0
RingIdle g p = HoldsNone g.cells p

-- where the party's call stands, and that it has few steps before it
pub record RingFits {A : Type 0} (cap busy : ℕ) (s : MemoryState A) (Q : State A) (g : Ring A) (p : ℕ) (x : Running A) (o : Open A) : Type 0 where
  pub here : At cap g p o.moments o.was_open (stand_of x o.call o.effects)
  pub few : FewSteps busy o (rank cap g x.local) longest

-- what the step of a call on a ring does, in the machine's words
record RingStepped {A : Type 0} (cap : ℕ) (s : MemoryState A) (g : Ring A) (p : ℕ) (ms : List (State A)) (was : Bool) (x : Running A) (k : Call A) (es : List (Effect A)) : Type 0 where
  after : Ring A
  e : Option (Effect A)
  touches : CanTouch x.touch (slots_there s (block_touched x.op))
  operates : CanOperate (after_touch s x) x.op
  goes_on : CanNext (Kind.Bounded cap) x.local (answer_to true s x)
  is_plain : IsPlain x.op
  ok : RingOk cap after
  codes : Codes cap after (part (after_operation true s x))
  told : IsEffect cap was x.local (answer_to true s x) e
  makes : Leads (queue_of cap g) e (queue_of cap after)
  passes : Passes p g after
  goes : NextOk cap g after p (queue_of cap after ∷ ms) (was || not after.closed) (next_after (Kind.Bounded cap) true s x) (carried_then s x) k (with_effect es e) (rank cap g x.local)

stands : {A : Type 0} (cap : ℕ) (s : MemoryState A) (g : Ring A) (p : ℕ) (ms : List (State A)) (was : Bool) (x : Running A) (k : Call A) (es : List (Effect A))
    → RingOk cap g → Codes cap g (part s) → At cap g p ms was (stand_of x k es) → RingStepped cap s g p ms was x k es
stands cap s g p ms was x k es ok codes at =
    let good = step_good ok codes at in
    let after = good.after in
    let same = same_step s x good.touches good.operates in
    let n = next_of (Kind.Bounded cap) x.local (ring.answered (ring.touched (part s) x.touch x.carried) x.op) in
    record {
      after = after;
      e = good.e;
      touches = same.touches;
      operates = same.operates;
      goes_on = subst (λ a. CanNext (Kind.Bounded cap) x.local a) (sym same.answers) good.goes_on;
      is_plain = same.is_plain;
      ok = good.ok;
      codes = subst (λ c. Codes cap after c) (sym same.leaves) good.codes;
      told = subst (λ a. IsEffect cap was x.local a good.e) (sym same.answers) good.told;
      makes = good.makes;
      passes = good.passes;
      goes = subst (λ a. NextOk cap g after p (queue_of cap after ∷ ms) (was || not after.closed) (next_of (Kind.Bounded cap) x.local a) (carried_then s x) k (with_effect es good.e) (rank cap g x.local)) (sym same.answers)
          (subst (λ v. NextOk cap g after p (queue_of cap after ∷ ms) (was || not after.closed) n v k (with_effect es good.e) (rank cap g x.local)) (sym same.carries) good.goes);
    }

module _ {A : Type 0} (cap : ℕ) (r s : Ring A) (who : ℕ) (ms : List (State A)) (was : Bool) where
  -- a call may reply at its step: its value is there
  can_reply : (n : Next ℕ) (v : Option A) (k : Call A) (es : List (Effect A)) (m : ℕ)
      → NextOk cap r s who ms was n v k es m → CanReply n v
  can_reply (Next.Step l t o) v k es m goes = tt
  can_reply (Next.Reply x spare) v k es m goes = rw goes.2.1 refl

pub ring_can_step : {A : Type 0} (cap busy : ℕ) (granted : Bool) (s : MemoryState A) (Q : State A) (g : Ring A) (p : ℕ) (x : Running A) (o : Open A)
    → RingHolds cap s Q g → RingFits cap busy s Q g p x o → CanStep (Kind.Bounded cap) granted s x
ring_can_step cap busy granted s Q g p x o holds f =
    let step = stands cap s g p o.moments o.was_open x o.call o.effects holds.ok holds.codes f.here in
    plain-can (Kind.Bounded cap) granted s x.local x.touch x.op x.carried step.is_plain (record {
      touches = step.touches;
      operates = step.operates;
      goes_on = step.goes_on;
      replies = can_reply cap g step.after p (queue_of cap step.after ∷ o.moments) (o.was_open || not step.after.closed) (next_after (Kind.Bounded cap) true s x) (carried_then s x) o.call (with_effect o.effects step.e) (rank cap g x.local) step.goes;
    })

-- the engine's words at a ring
abbrev RingGoes : (A : Type 0) → ℕ → ℕ → MemoryState A → State A → Ring A → ℕ → Open A → Option (Running A) → Option (Reply A) → Type 0
RingGoes A cap = engine.NextFits A (MemoryState A) (Running A) (Ring A) (Some cap) (step_of (Kind.Bounded cap)) (start_of (Kind.Bounded cap)) (CanStep (Kind.Bounded cap)) (RingHolds cap) RingIdle (RingFits cap)

abbrev RingMadeWell : (A : Type 0) → ℕ → ℕ → MemoryState A → State A → Ring A → ℕ → Open A → StepOutcome (MemoryState A) (Running A) A → Type 0
RingMadeWell A cap busy s Q g p o t = engine.StepsWell A (MemoryState A) (Running A) (Ring A) (Some cap) (step_of (Kind.Bounded cap)) (start_of (Kind.Bounded cap)) (CanStep (Kind.Bounded cap)) (RingHolds cap) RingIdle (RingFits cap) busy s Q g p o t

abbrev RingStepsWell : (A : Type 0) → ℕ → ℕ → MemoryState A → State A → Ring A → ℕ → Open A → Running A → Bool → Type 0
RingStepsWell A cap busy s Q g p o x granted = RingMadeWell A cap busy s Q g p o (step_of (Kind.Bounded cap) granted s x)

module _ {A : Type 0} (cap busy : ℕ) (s : MemoryState A) (g g' : Ring A) (p : ℕ) (o : Open A) where
  -- where the call stands after its step
  goes_well : (n : Next ℕ) (v : Option A) (es : List (Effect A)) (m : ℕ)
      → (busy ≡ 1 → IsQuiet g p) → FewSteps busy o m longest
      → NextOk cap g g' p (queue_of cap g' ∷ o.moments) (o.was_open || not g'.closed) n v o.call es m
      → RingGoes A cap busy s (queue_of cap g') g' p (after_own busy o (queue_of cap g') es) (running_after n v) (reply_after n v)
  goes_well (Next.Step l t x) v es m quiet few goes =
      let less = few_own busy o (queue_of cap g') es m (rank cap g' l) longest (rank_small cap g' l) (λ one. goes.1 (λ _. quiet one)) (λ e. goes.1 (λ f. let no : true ≡ false = sym e ∙ f in cc)) few in
      (record { here = goes.0; few = less }, few_stays busy (after_own busy o (queue_of cap g') es) (rank cap g' l) longest (omega arith) (rank_some cap g' l) (ring_begun goes.0) less)
  goes_well (Next.Reply x spare) v es m quiet few goes =
      let y = goes.2 in
      rw y.1 (goes.0, (y.2, λ e. any_in (queue_of cap g' ∷ o.moments) (λ m. IsRightAt m o.call y.0) (Allows o.call y.0) (λ m right. inl right) (y.3 e)))

steps_granted : {A : Type 0} (cap busy : ℕ) (s : MemoryState A) (Q : State A) (g : Ring A) (p : ℕ) (x : Running A) (o : Open A)
    → RingHolds cap s Q g → RingFits cap busy s Q g p x o → (busy ≡ 1 → (j : ℕ) → j ≢ p → RingIdle g j)
    → RingStepsWell A cap busy s Q g p o x true
steps_granted {A} cap busy s Q g p x o holds f quiet =
    let step = stands cap s g p o.moments o.was_open x o.call o.effects holds.ok holds.codes f.here in
    let after = step.after in
    let t = step_of (Kind.Bounded cap) true s x in
    record {
      after = queue_of cap after;
      kept = after;
      effects = with_effect o.effects step.e;
      holds = record {
        ok = step.ok;
        codes = step.codes;
        queue_is = refl;
        no_blocks = plain-blocks (Kind.Bounded cap) true s x step.is_plain holds.no_blocks;
      };
      moves = ring_moves cap Q (queue_of cap g) (queue_of cap after) o x.local (answer_to true s x) step.e holds.queue_is step.told step.makes;
      goes = goes_well cap busy t.shared g after p o (next_after (Kind.Bounded cap) true s x) (carried_then s x) (with_effect o.effects step.e) (rank cap g x.local) quiet f.few step.goes;
      idle = λ j ne idle. none_stays p j ne step.passes idle;
      others = λ busy' j y m ne many h. record {
        here = subst (λ ms. At cap after j ms m.was_open (stand_of y m.call m.effects)) (same_moments (queue_of cap after) m.moments) (at_stays holds.ok step.ok ne step.passes h.here);
        few = few_watched busy busy' (queue_of cap after) m (rank cap g y.local) (rank cap after y.local) longest many (rank_small cap after y.local) (λ e. let same = wait_free_rank after h.here e in omega arith) h.few;
      };
    }

pub ring_steps_well : {A : Type 0} (cap busy : ℕ) (granted : Bool) (s : MemoryState A) (Q : State A) (g : Ring A) (p : ℕ) (x : Running A) (o : Open A)
    → RingHolds cap s Q g → RingFits cap busy s Q g p x o → (busy ≡ 1 → (j : ℕ) → j ≢ p → RingIdle g j)
    → RingStepsWell A cap busy s Q g p o x granted
ring_steps_well {A} cap busy granted s Q g p x o holds f quiet =
    let step = stands cap s g p o.moments o.was_open x o.call o.effects holds.ok holds.codes f.here in
    subst (λ t. RingMadeWell A cap busy s Q g p o t) (sym (plain-step (Kind.Bounded cap) granted s x.local x.touch x.op x.carried step.is_plain)) (steps_granted cap busy s Q g p x o holds f quiet)

-- a call just begun
fresh : {A : Type 0} (cap : ℕ) (s : MemoryState A) (Q : State A) (g : Ring A) (p : ℕ) (k : Call A) (x : Running A)
    → At cap g p [] false (stand_of x k []) → (is_wait_free k ≡ true → rank cap g x.local ≤ 2) → (busy : ℕ) → RingFits cap busy s Q g p x (begun k)
fresh cap s Q g p k x at wait_free busy = record { here = at; few = few_begun busy k (rank cap g x.local) longest (rank_small cap g x.local) wait_free }

pub ring_begins_well : {A : Type 0} (cap : ℕ) (s : MemoryState A) (Q : State A) (g : Ring A) (p : ℕ) (k : Call A) → RingHolds cap s Q g → RingIdle g p
    → engine.BeginsWell A (MemoryState A) (Running A) (Ring A) (Some cap) (step_of (Kind.Bounded cap)) (start_of (Kind.Bounded cap)) (CanStep (Kind.Bounded cap)) (RingHolds cap) RingIdle (RingFits cap)
    s Q g p k (start_of (Kind.Bounded cap) k).call (start_of (Kind.Bounded cap) k).reply
ring_begins_well cap s Q g p Call.Capacity holds idle = (refl, sym (ap (λ q. q.cap) holds.queue_is))
ring_begins_well cap s Q g p k holds idle = (refl, fresh cap s Q g p k _ (at_first cap g p k idle) (λ e. first_of (cc, omega arith)))

pub ring_joins_well : {A : Type 0} (cap busy busy' : ℕ) (s : MemoryState A) (Q : State A) (g : Ring A) (p : ℕ) (x : Running A) (o : Open A) → RingFits cap busy s Q g p x o → RingFits cap busy' s Q g p x (joined o)
ring_joins_well cap busy busy' s Q g p x o f = record { here = f.here; few = few_joined busy busy' o (rank cap g x.local) longest f.few }

-- each step of a call on a ring is right
pub ring_steps : {A : Type 0} (cap : ℕ) → LawsOf A (Kind.Bounded cap) (Ring A) (RingHolds cap) RingIdle (RingFits cap)
ring_steps cap = record {
  can_step = λ busy granted s Q g p x o holds f. ring_can_step cap busy granted s Q g p x o holds f;
  steps_well = λ busy granted s Q g p x o holds f quiet. ring_steps_well cap busy granted s Q g p x o holds f quiet;
  begins_well = λ s Q g p k holds idle. ring_begins_well cap s Q g p k holds idle;
  joins_well = λ busy busy' s Q g p x o f. ring_joins_well cap busy busy' s Q g p x o f;
}
