-- A call that has had an effect comes nearer to its reply by each step, but for a pop on a chain.
use Rattle.std.proofs.Common.{◌≡◌, ◌≤◌, ℕ, suc, Bool, true, false, if◌then◌else◌, refl, arith}
use Rattle.queue_laws.specs.Common.Vocabulary.{Kind, Op, Touch, Answer, Local, Next, SlotLocal, RingLocal, ChainLocal}
use Rattle.queue_steps.specs.{declared.steps.ring.RingLocal.RingLocal as ring, declared.steps.chain.ChainLocal.ChainLocal as chain, Next.CanNext, Next.next_of, SlotNext.slot_next, RingNext.ring_next, RingNext.FitsRing, ChainNext.chain_next, ChainNext.FitsChain}
use Rattle.queue_laws.specs.Slot.SlotEarly as slots
use Rattle.queue_laws.specs.Ring.RingEarly as rings
use Rattle.queue_laws.specs.Chain.ChainEarly as chains
use Rattle.shared_calls.specs.{Early.is_early, Settling.ring_left, Settling.chain_left, Settling.steps_left, Settling.left_at, Settling.MayWait, Halts.is_early_step}

module _ {B : Type 0} where
  -- no more than m steps are left, and no more than 4
  abbrev pub Near : Kind → ℕ → Next B → Type 0
  Near k m n = ¬ (MayWait k n) × (left_at n ≤ 4) × (left_at n ≤ m)

module _ (B : Type 0) where
  slot_nearer : (l : SlotLocal) (w : ℕ) → slots.is_early l ≡ false → Near {B = B} Kind.Single 1 (slot_next l w)
  slot_nearer SlotLocal.Pushed w late = (λ h. h, omega arith, omega arith)
  slot_nearer (SlotLocal.Forced seen) w late = (λ h. h, omega arith, omega arith)
  slot_nearer SlotLocal.Popped w late = (λ h. h, omega arith, omega arith)
  slot_nearer _ w late = absurd (let f : true ≡ false = late in cc)

module _ {B : Type 0} where
  ring_nearer : (n : ℕ) (l : RingLocal) (a : Answer B) → rings.is_early l ≡ false → FitsRing n l a → Near (Kind.Bounded n) (ring_left l) (ring_next n l a)
  ring_nearer n (ring.Filling d) Answer.Done late fits = (λ h. h, omega arith, omega arith)
  ring_nearer n (ring.Filling d) _ late fits = absurd fits
  ring_nearer n (ring.Arriving t) (Answer.Found x) late fits = (λ h. h, omega arith, omega arith)
  ring_nearer n (ring.Arriving t) _ late fits = absurd fits
  ring_nearer n ring.Swapping Answer.Done late fits = (λ h. h, omega arith, omega arith)
  ring_nearer n ring.Swapping _ late fits = absurd fits
  ring_nearer n ring.Emptying Answer.Done late fits = (λ h. h, omega arith, omega arith)
  ring_nearer n ring.Emptying _ late fits = absurd fits
  ring_nearer n _ a late fits = absurd (let f : true ≡ false = late in cc)

  chain_nearer : (l : ChainLocal B) (a : Answer B) → chains.is_early l ≡ false → FitsChain l a → ¬ (chains.is_bound l ≡ true) → Near Kind.Unbounded (chain_left l) (chain_next l a)
  chain_nearer (chain.Showing d t b) Answer.Done late fits stays = (λ e. absurd (let f : false ≡ true = e in cc), omega arith, omega arith)
  chain_nearer (chain.Showing d t b) _ late fits stays = absurd fits
  chain_nearer (chain.Laying d t b s) Answer.Done late fits stays = (λ e. absurd (let f : false ≡ true = e in cc), omega arith, omega arith)
  chain_nearer (chain.Laying d t b s) _ late fits stays = absurd fits
  chain_nearer (chain.Opening d t b s) (Answer.Found x) late fits stays = (λ e. absurd (let f : false ≡ true = e in cc), omega arith, omega arith)
  chain_nearer (chain.Opening d t b s) _ late fits stays = absurd fits
  chain_nearer (chain.Chaining d t b s) Answer.Done late fits stays = (λ e. absurd (let f : false ≡ true = e in cc), omega arith, omega arith)
  chain_nearer (chain.Chaining d t b s) _ late fits stays = absurd fits
  chain_nearer (chain.Writing d s) (Answer.Found x) late fits stays = (λ h. h, omega arith, omega arith)
  chain_nearer (chain.Writing d s) _ late fits stays = absurd fits
  chain_nearer (chain.Following h b) a late fits stays = absurd (stays refl)
  chain_nearer (chain.Peeking h b x) a late fits stays = absurd (stays refl)
  chain_nearer (chain.Passing h b m) a late fits stays = absurd (stays refl)
  chain_nearer (chain.Entering h b) a late fits stays = absurd (stays refl)
  chain_nearer (chain.Awaiting h b) a late fits stays = absurd (stays refl)
  chain_nearer (chain.Reading b i) a late fits stays = absurd (stays refl)
  chain_nearer (chain.Walking b i) a late fits stays = absurd (stays refl)
  chain_nearer (chain.Destroying b i) a late fits stays = absurd (stays refl)
  chain_nearer _ a late fits stays = absurd (let f : true ≡ false = late in cc)

  -- after a step from a place where the call has had an effect
  pub nearer : (k : Kind) (l : Local B) (t : Touch) (o : Op B) (a : Answer B) → is_early l ≡ false → CanNext k l a → ¬ (MayWait k (Next.Step l t o)) → Near k (steps_left l) (next_of k l a)
  nearer Kind.Single (Local.Slot l) t o (Answer.Found w) late can stays = slot_nearer B l w late
  nearer (Kind.Bounded n) (Local.Ring l) t o a late can stays = ring_nearer n l a late can.1
  nearer Kind.Unbounded (Local.Chain l) t o a late can stays = chain_nearer l a late can stays
  nearer k (Local.Begin c) t o a late can stays = absurd (let f : true ≡ false = late in cc)
  nearer k l t o a late can stays = absurd can

  -- where no step is left, the call has had no effect
  pub all_done : (n : Next B) → left_at n ≤ 0 → is_early_step n ≡ true
  all_done (Next.Step l t o) none = go (is_early l) none
    where
      go : (b : Bool) → (if b then 0 else suc (steps_left l)) ≤ 0 → b ≡ true
      go true le = refl
      go false le = absurd (omega (arith, le))
  all_done (Next.Reply r spare) none = absurd (omega (arith, none))

  -- of a call that has had an effect, one step less than before it is left
  pub left_late : (l : Local B) (t : Touch) (o : Op B) → is_early l ≡ false → left_at (Next.Step l t o) ≡ suc (steps_left l)
  left_late l t o late = rw late refl

  pub left_early : (l : Local B) (t : Touch) (o : Op B) → is_early l ≡ true → left_at (Next.Step l t o) ≡ 0
  left_early l t o early = rw early refl
