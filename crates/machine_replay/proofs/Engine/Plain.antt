-- Operations on the words of a queue with a capacity: they need no block, and where there is none, none comes.
use Rattle.std.proofs.Common.{◌≡◌, ◌∙◌, ℕ, Bool, true, Option, Some, None, [], refl, ap}
use Rattle.machine_replay.specs.Vocabulary.{Kind, Word, Op, Touch, Local, Running}
use Rattle.queue_laws.specs.Common.Operations.{OnWord, op_word, op_makes}
use Rattle.machine_memory.specs.{Blocks.without, SharedMemory.MemoryState, SharedMemory.word_at, SharedMemory.put_word, SharedMemory.operated, SharedMemory.block_touched, SharedMemory.touched}
use Rattle.machine_steps.specs.Steps.{after_touch, after_operation, shared_then, step_of, CanStep}

abbrev pub IsPlainWord : Word ℕ → Type 0
IsPlainWord (Word.State b i) = ⊥
IsPlainWord _ = Unit {0}

-- the operation is one on such a word
abbrev pub IsPlain : Op ℕ → Type 0
IsPlain o = OnWord IsPlainWord o

-- it does not hang on what the allocator does
pub plain-step : {T : Type 0} (k : Kind) (ok : Bool) (s : MemoryState T) (l : Local ℕ) (t : Touch) (o : Op ℕ) (v : Option T) → IsPlain o
    → step_of k ok s (record { local = l; touch = t; op = o; carried = v }) ≡ step_of k true s (record { local = l; touch = t; op = o; carried = v })
plain-step k ok s l t (Op.LoadLink _) v p = absurd p
plain-step k ok s l t (Op.StoreLink _ _) v p = absurd p
plain-step k ok s l t (Op.Install _) v p = absurd p
plain-step k ok s l t Op.Ask v p = absurd p
plain-step k ok s l t o v p = refl

pub plain-can : {T : Type 0} (k : Kind) (ok : Bool) (s : MemoryState T) (l : Local ℕ) (t : Touch) (o : Op ℕ) (v : Option T) → IsPlain o
    → CanStep k true s (record { local = l; touch = t; op = o; carried = v }) → CanStep k ok s (record { local = l; touch = t; op = o; carried = v })
plain-can k ok s l t (Op.LoadLink _) v p c = absurd p
plain-can k ok s l t (Op.StoreLink _ _) v p c = absurd p
plain-can k ok s l t (Op.Install _) v p c = absurd p
plain-can k ok s l t Op.Ask v p c = absurd p
plain-can k ok s l t o v p c = record { touches = c.touches; operates = c.operates; goes_on = c.goes_on; replies = c.replies }

put_word-blocks : {T : Type 0} (s : MemoryState T) (w : Word ℕ) (x : ℕ) → IsPlainWord w → (put_word s w x).blocks ≡ s.blocks
put_word-blocks s (Word.State _ _) x p = absurd p
put_word-blocks s w x p = refl

operated-blocks : {T : Type 0} (ok : Bool) (s : MemoryState T) (o : Op ℕ) → IsPlain o → (operated ok s o).blocks ≡ s.blocks
operated-blocks ok s (Op.Load w) p = refl
operated-blocks ok s (Op.LoadLink _) p = absurd p
operated-blocks ok s (Op.StoreLink _ _) p = absurd p
operated-blocks ok s (Op.Install _) p = absurd p
operated-blocks ok s Op.Ask p = absurd p
operated-blocks ok s o p = put_word-blocks s (op_word o) (op_makes o (word_at s (op_word o))) p

untouched : (w : Word ℕ) → IsPlainWord w → block_touched (Op.Load w) ≡ None
untouched (Word.State _ _) p = absurd p
untouched w p = refl

untouched-or : (w : Word ℕ) (x : ℕ) → IsPlainWord w → block_touched (Op.Or w x) ≡ None
untouched-or (Word.State _ _) x p = absurd p
untouched-or w x p = refl

pub plain-untouched : (o : Op ℕ) → IsPlain o → block_touched o ≡ None
plain-untouched (Op.Load w) p = untouched w p
plain-untouched (Op.Or w x) p = untouched-or w x p
plain-untouched (Op.LoadLink _) p = absurd p
plain-untouched (Op.StoreLink _ _) p = absurd p
plain-untouched (Op.Install _) p = absurd p
plain-untouched Op.Ask p = absurd p
plain-untouched o p = refl

touched-blocks : {T : Type 0} (s : MemoryState T) (t : Touch) (b : Option ℕ) (v : Option T) → b ≡ None → (touched t b s v).blocks ≡ s.blocks
touched-blocks s (Touch.Put i) (Some b) v e = cc
touched-blocks s (Touch.Swap i) (Some b) v e = cc
touched-blocks s (Touch.Take i) (Some b) v e = cc
touched-blocks s t b v e = refl

pub without-none : {T : Type 0} (b : Option ℕ) → without {T = T} b [] ≡ []
without-none None = refl
without-none (Some b) = refl

-- no block comes by such a step
pub plain-blocks : {T : Type 0} (k : Kind) (ok : Bool) (s : MemoryState T) (x : Running T) → IsPlain x.op → s.blocks ≡ [] → (shared_then k ok s x).blocks ≡ []
plain-blocks k ok s x p none =
    let same : (after_operation ok s x).blocks ≡ [] = operated-blocks ok (after_touch s x) x.op p ∙ touched-blocks s x.touch (block_touched x.op) x.carried (plain-untouched x.op p) ∙ none in
    ap (without _) same ∙ without-none _
