-- The machine's words and slots at each step of a call on a ring: what the laws of the ring say of them.
use Rattle.std.proofs.Common.{ℕ, ◌+◌, ◌<◌, ◌^◌, ◌≡◌, ◌∙◌, true, Option, None, refl, sym, ap, subst}
use Rattle.machine_replay.specs.Vocabulary.{Word, Op, Touch, Answer, Running}
use Rattle.queue_laws.specs.Common.Operations.{op_word, op_makes, answer_for}
use Rattle.queue_laws.specs.Ring.RingShared as ring
use Rattle.queue_laws.proofs.Ring.RingStepOk.{operates_on}
use Rattle.machine_memory.specs.SharedMemory.{MemoryState, HasWord, word_at, put_word, CanTouch, CanOperate, slots_there, block_touched, answered, operated, touched, handed}
use Rattle.machine_steps.specs.Steps.{after_touch, after_operation, answer_to, carried_then}
use Rattle.machine_replay.proofs.Engine.Plain.{IsPlainWord, IsPlain, plain-untouched}

module _ {T : Type 0} where
  -- the ring's part of what is shared
  abbrev pub part : MemoryState T → ring.Shared T
  part s = record { head = s.head; tail = s.tail; stamps = s.stamps; slots = s.slots }

  word_same : (s : MemoryState T) (w : Word ℕ) → ring.HasWord (part s) w → word_at s w ≡ ring.word_at (part s) w
  word_same s Word.Lock has = absurd has
  word_same s (Word.State b i) has = absurd has
  word_same s w has = refl

  word_has : (s : MemoryState T) (w : Word ℕ) → ring.HasWord (part s) w → HasWord s w
  word_has s (Word.Stamp i) has = has
  word_has s Word.Lock has = absurd has
  word_has s (Word.State b i) has = absurd has
  word_has s w has = tt

  plain_word : (s : MemoryState T) (w : Word ℕ) → ring.HasWord (part s) w → IsPlainWord w
  plain_word s Word.Lock has = absurd has
  plain_word s (Word.State b i) has = absurd has
  plain_word s w has = tt

  word_put : (s : MemoryState T) (w : Word ℕ) (x : ℕ) → ring.HasWord (part s) w → part (put_word s w x) ≡ ring.put_word (part s) w x
  word_put s Word.Lock x has = absurd has
  word_put s (Word.State b i) x has = absurd has
  word_put s w x has = refl

  -- what an operation makes of a word it makes of the ring's
  made : (s : MemoryState T) (o : Op ℕ) → ring.HasWord (part s) (op_word o)
      → part (put_word s (op_word o) (op_makes o (word_at s (op_word o)))) ≡ ring.put_word (part s) (op_word o) (op_makes o (ring.word_at (part s) (op_word o)))
  made s o has = word_put s (op_word o) (op_makes o (word_at s (op_word o))) has ∙ ap (λ n. ring.put_word (part s) (op_word o) (op_makes o n)) (word_same s (op_word o) has)

  touch_same : (s : MemoryState T) (t : Touch) (v : Option T) → part (touched t None s v) ≡ ring.touched (part s) t v
  touch_same s Touch.Nothing v = refl
  touch_same s t v = refl

  hand_same : (s : MemoryState T) (t : Touch) (v : Option T) → handed t None s v ≡ ring.handed (part s) t v
  hand_same s Touch.Nothing v = refl
  hand_same s t v = refl

  touches_same : (s : MemoryState T) (t : Touch) → ring.CanTouch (part s) t → CanTouch t (slots_there s None)
  touches_same s Touch.Nothing can = tt
  touches_same s t can = can

  -- an operation on a word of the ring is a plain one of the machine, and does the same to the ring
  same_operation : (s : MemoryState T) (o : Op ℕ) → ring.CanOperate (part s) o → CanOperate s o × (answered true s o ≡ ring.answered (part s) o) × (part (operated true s o) ≡ ring.operated (part s) o) × IsPlain o
  same_operation s (Op.LoadLink l) can = absurd can
  same_operation s (Op.StoreLink l f) can = absurd can
  same_operation s (Op.Install f) can = absurd can
  same_operation s Op.Ask can = absurd can
  same_operation s (Op.Load w) can = (word_has s w can, ap (λ n. Answer.Found n) (word_same s w can), refl, plain_word s w can)
  same_operation s (Op.Add w x) (has, fits) = ((word_has s w has, subst (λ n. n + x < 2 ^ 64) (sym (word_same s w has)) fits), ap (λ n. Answer.Found n) (word_same s w has), made s (Op.Add w x) has, plain_word s w has)
  same_operation s o can =
      let has = operates_on (part s) o can in
      (word_has s (op_word o) has, ap (answer_for o) (word_same s (op_word o) has), made s o has, plain_word s (op_word o) has)

  -- what is shared after the touch of the call's next step, on the ring
  abbrev after_ring : MemoryState T → Running T → ring.Shared T
  after_ring s x = ring.touched (part s) x.touch x.carried

  -- a step of the machine is the step of its ring
  pub record SameStep (s : MemoryState T) (x : Running T) : Type 0 where
    pub touches : CanTouch x.touch (slots_there s (block_touched x.op))
    pub operates : CanOperate (after_touch s x) x.op
    pub answers : answer_to true s x ≡ ring.answered (after_ring s x) x.op
    pub carries : carried_then s x ≡ ring.handed (part s) x.touch x.carried
    pub leaves : part (after_operation true s x) ≡ ring.operated (after_ring s x) x.op
    pub is_plain : IsPlain x.op

  pub same_step : (s : MemoryState T) (x : Running T) → ring.CanTouch (part s) x.touch → ring.CanOperate (after_ring s x) x.op → SameStep s x
  same_step s x touches can = record {
    touches = subst (λ b. CanTouch x.touch (slots_there s b)) (sym none) (touches_same s x.touch touches);
    operates = subst (λ b. CanOperate (touched x.touch b s x.carried) x.op) (sym none) same.0;
    answers = ap (λ b. answered true (touched x.touch b s x.carried) x.op) none ∙ (same.1 ∙ ap (λ p. ring.answered p x.op) (touch_same s x.touch x.carried));
    carries = ap (λ b. handed x.touch b s x.carried) none ∙ hand_same s x.touch x.carried;
    leaves = ap (λ b. part (operated true (touched x.touch b s x.carried) x.op)) none ∙ (same.2 ∙ ap (λ p. ring.operated p x.op) (touch_same s x.touch x.carried));
    is_plain = same.3;
  }
    where
      after : MemoryState T
      after = touched x.touch None s x.carried

      here : ring.CanOperate (part after) x.op
      here = subst (λ p. ring.CanOperate p x.op) (sym (touch_same s x.touch x.carried)) can

      same : CanOperate after x.op × (answered true after x.op ≡ ring.answered (part after) x.op) × (part (operated true after x.op) ≡ ring.operated (part after) x.op) × IsPlain x.op
      same = same_operation after x.op here

      none : block_touched x.op ≡ None
      none = plain-untouched x.op same.3
