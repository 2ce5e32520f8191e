-- How few steps a call in progress has before it: at most so many while it is alone, and two if it is wait-free.
use Rattle.std.proofs.Common.{◌≡◌, ◌≢◌, ℕ, ◌+◌, ◌<◌, ◌≤◌, true, List, inl, inr, refl, arith}
use Rattle.std.proofs.lemmas.Bool.Decides.{eqb_tells}
use Rattle.machine_replay.specs.{Vocabulary.Call, Vocabulary.Effect, Vocabulary.STEPS_ALONE, Vocabulary.WAIT_FREE_STEPS, Book.Open, Book.IsBegun, Book.Stays, Book.after_own, Book.begun, Book.is_wait_free, Book.joined, Book.watched}
use Rattle.queue_steps.specs.State.{State}

-- the call has n steps before it, and with those that it took alone no more than most, which bounds every call; a wait-free one has two in all
pub record FewSteps {T : Type 0} (busy : ℕ) (o : Open T) (n most : ℕ) : Type 0 where
  pub low : n ≤ most
  pub alone : busy ≡ 1 → o.alone + n ≤ most
  pub crowd : busy ≢ 1 → o.alone ≡ 0
  pub wait_free : is_wait_free o.call ≡ true → o.steps + n ≤ WAIT_FREE_STEPS

-- a call just begun
pub few_begun : {T : Type 0} (busy : ℕ) (k : Call T) (n most : ℕ) → n ≤ most → (is_wait_free k ≡ true → n ≤ WAIT_FREE_STEPS) → FewSteps busy (begun k) n most
few_begun busy k n most low wait_free = record { low = low; alone = λ e. omega (arith, low); crowd = λ e. refl; wait_free = λ e. let two = wait_free e in omega arith }

-- a call in progress where another begins
pub few_joined : {T : Type 0} (busy busy' : ℕ) (o : Open T) (n most : ℕ) → FewSteps busy o n most → FewSteps busy' (joined o) n most
few_joined busy busy' o n most c = record { low = c.low; alone = λ e. let low = c.low in omega arith; crowd = λ e. refl; wait_free = c.wait_free }

-- after a step of another party, which may make what the call has read another word
pub few_watched : {T : Type 0} (busy busy' : ℕ) (Q : State T) (o : Open T) (n m most : ℕ) → busy ≢ 1 → m ≤ most → (is_wait_free o.call ≡ true → m ≤ n) → FewSteps busy o n most → FewSteps busy' (watched Q o) m most
few_watched busy busy' Q o n m most many low same c = record {
  low = low;
  alone = λ e. let zero = c.crowd many in omega arith;
  crowd = λ e. c.crowd many;
  wait_free = λ e. let old = c.wait_free e in let less = same e in omega arith;
}

-- after its own step: it has fewer steps before it where it is alone, and where it is wait-free
pub few_own : {T : Type 0} (busy : ℕ) (o : Open T) (Q : State T) (es : List (Effect T)) (n m most : ℕ) → m ≤ most → (busy ≡ 1 → m < n) → (is_wait_free o.call ≡ true → m < n)
    → FewSteps busy o n most → FewSteps busy (after_own busy o Q es) m most
few_own {T} busy o Q es n m most low falls hurry c = record {
  low = low;
  alone = λ e. elim (eqb_tells busy 1) [ inl t ↦ rw t.0 (let old = c.alone e in let less = falls e in omega arith) | inr f ↦ absurd (f.1 e) ];
  crowd = λ ne. elim (eqb_tells busy 1) [ inl t ↦ absurd (ne t.1) | inr f ↦ rw f.0 refl ];
  wait_free = λ e. let old = c.wait_free e in let less = hurry e in omega arith;
}

-- a call that has a step before it goes on
pub few_stays : {T : Type 0} (busy : ℕ) (o : Open T) (n most : ℕ) → most < STEPS_ALONE → 0 < n → IsBegun o.call o.effects → FewSteps busy o n most → Stays o
few_stays busy o n most small some begins c = record {
  is_begun = begins;
  alone = elim (eqb_tells busy 1) [ inl t ↦ (let old = c.alone t.1 in omega arith) | inr f ↦ (let zero = c.crowd f.1 in omega arith) ];
  wait_free = λ e. let old = c.wait_free e in omega arith;
}
