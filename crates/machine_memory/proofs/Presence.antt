-- No operation makes more blocks than there were, unless one was granted.
use Rattle.std.proofs.Common.{◌≡◌, ℕ, ◌+◌, ◌≤◌, zero, suc, Bool, true, false, if◌then◌else◌, Option, Some, None, is_some, List, [], ◌∷◌, ◌++◌, length, refl, arith, get_or, set, length-append}
use Rattle.std.proofs.lemmas.List.{length-set}
use Rattle.queue_steps.specs.declared.steps.types.{Link.Link, Link.Link as link, Op.Op, Op.Op as op, Touch.Touch, Touch.Touch as touch, Word.Word, Word.Word as word}
use Rattle.queue_laws.specs.Common.Operations.{op_word, op_makes}
use Rattle.machine_memory.specs.{declared.blocks.BlockPlace.BlockPlace, Blocks.BlockState, Blocks.fresh_block, Blocks.block_of, Blocks.with_place, Blocks.with_next, Blocks.without, SharedMemory.MemoryState, SharedMemory.word_at, SharedMemory.put_word, SharedMemory.put_link, SharedMemory.put_at}
use Rattle.machine_memory.specs.{SharedMemory.touched, SharedMemory.operated, Present.present}
use Rattle.machine_memory.proofs.Busy.{one_if}

-- where one of these gives way to one that is not more, there are not more
present-set : {X : Type 0} (xs : List (Option X)) (i : ℕ) (x : Option X) → one_if x ≤ one_if (get_or xs i None) → present (set xs i x) ≤ present xs
present-set [] i x le = omega arith
present-set (None ∷ xs) zero None le = omega arith
present-set (None ∷ xs) zero (Some x) le = absurd (omega arith)
present-set (Some y ∷ xs) zero None le = omega arith
present-set (Some y ∷ xs) zero (Some x) le = omega arith
present-set (None ∷ xs) (suc i) x le = present-set xs i x le
present-set (Some y ∷ xs) (suc i) x le = let a = present-set xs i x le in omega arith

-- where one that is there gives way to another, or none to none, there are as many
present-same : {X : Type 0} (xs : List (Option X)) (i : ℕ) (x : Option X) → one_if x ≡ one_if (get_or xs i None) → present (set xs i x) ≡ present xs
present-same [] i x same = refl
present-same (None ∷ xs) zero None same = refl
present-same (None ∷ xs) zero (Some x) same = absurd (omega arith)
present-same (Some y ∷ xs) zero None same = absurd (omega arith)
present-same (Some y ∷ xs) zero (Some x) same = refl
present-same (None ∷ xs) (suc i) x same = present-same xs i x same
present-same (Some y ∷ xs) (suc i) x same = let a = present-same xs i x same in omega arith

-- where a block is written, there are as many
pub written-present : {X : Type 0} (xs : List (Option X)) (i : ℕ) (x y : X) → get_or xs i None ≡ Some x → present (set xs i (Some y)) ≡ present xs
written-present xs i x y there = present-same xs i (Some y) (rw there refl)

-- where a block is taken away, if it is there, there is one less
pub taken-present : {X : Type 0} (xs : List (Option X)) (i : ℕ) → present xs ≡ present (set xs i None) + (if is_some (get_or xs i None) then 1 else 0)
taken-present [] i = refl
taken-present (None ∷ xs) zero = omega arith
taken-present (Some y ∷ xs) zero = refl
taken-present (None ∷ xs) (suc i) = taken-present xs i
taken-present (Some y ∷ xs) (suc i) = let a = taken-present xs i in omega arith

-- where one is put behind the others, there is one more
pub granted-present : {X : Type 0} (xs : List (Option X)) (x : X) → present (xs ++ Some x ∷ []) ≡ present xs + 1
granted-present [] x = refl
granted-present (None ∷ xs) x = granted-present xs x
granted-present (Some y ∷ xs) x = let a = granted-present xs x in omega arith

-- there are no more than places for them
pub present-few : {X : Type 0} (xs : List (Option X)) → present xs ≤ length xs
present-few [] = omega arith
present-few (None ∷ xs) = let a = present-few xs in omega arith
present-few (Some y ∷ xs) = let a = present-few xs in omega arith

-- as many numbers are given out, and no more blocks are there
abbrev pub NoMore : {T : Type 0} → List (Option (BlockState T)) → List (Option (BlockState T)) → Type 0
NoMore bs cs = (length cs ≡ length bs) × (present cs ≤ present bs)

pub none_more : {T : Type 0} (bs : List (Option (BlockState T))) → NoMore bs bs
none_more bs = (refl, omega arith)

changed-none : {T : Type 0} (bs : List (Option (BlockState T))) (b : ℕ) (x : Option (BlockState T)) → one_if x ≤ one_if (block_of bs b) → NoMore bs (set bs b x)
changed-none bs b x le = (length-set bs b x, present-set bs b x le)

with_place-one : {T : Type 0} (i : ℕ) (x : BlockPlace T) (o : Option (BlockState T)) → one_if (with_place i x o) ≤ one_if o
with_place-one i x None = omega arith
with_place-one i x (Some k) = omega arith

with_next-one : {T : Type 0} (n : Option ℕ) (o : Option (BlockState T)) → one_if (with_next n o) ≤ one_if o
with_next-one n None = omega arith
with_next-one n (Some k) = omega arith

pub without-none : {T : Type 0} (b : Option ℕ) (bs : List (Option (BlockState T))) → NoMore bs (without b bs)
without-none None bs = none_more bs
without-none (Some b) bs = changed-none bs b None (omega arith)

put_word-none : {T : Type 0} (s : MemoryState T) (w : Word ℕ) (x : ℕ) → NoMore s.blocks (put_word s w x).blocks
put_word-none s word.Lock x = none_more s.blocks
put_word-none s word.Head x = none_more s.blocks
put_word-none s word.Tail x = none_more s.blocks
put_word-none s (word.Stamp i) x = none_more s.blocks
put_word-none s (word.State b i) x = changed-none s.blocks b (with_place i _ (block_of s.blocks b)) (with_place-one i _ (block_of s.blocks b))

put_link-none : {T : Type 0} (s : MemoryState T) (l : Link ℕ) (f : ℕ) → NoMore s.blocks (put_link s l f).blocks
put_link-none s link.HeadBlock f = none_more s.blocks
put_link-none s link.TailBlock f = none_more s.blocks
put_link-none s (link.Next b) f = changed-none s.blocks b (with_next (Some f) (block_of s.blocks b)) (with_next-one (Some f) (block_of s.blocks b))

put_at-none : {T : Type 0} (s : MemoryState T) (b : Option ℕ) (i : ℕ) (v : Option T) → NoMore s.blocks (put_at s b i v).blocks
put_at-none s None i v = none_more s.blocks
put_at-none s (Some b) i v = changed-none s.blocks b (with_place i _ (block_of s.blocks b)) (with_place-one i _ (block_of s.blocks b))

pub touched-none : {T : Type 0} (t : Touch) (b : Option ℕ) (s : MemoryState T) (v : Option T) → NoMore s.blocks (touched t b s v).blocks
touched-none touch.Nothing b s v = none_more s.blocks
touched-none (touch.Put i) b s v = put_at-none s b i v
touched-none (touch.Swap i) b s v = put_at-none s b i v
touched-none (touch.Take i) b s v = put_at-none s b i v

-- a number is given out, or no more blocks are there
abbrev pub Sparing : {T : Type 0} → List (Option (BlockState T)) → List (Option (BlockState T)) → Type 0
Sparing bs cs = (length bs ≤ length cs) × (length cs ≡ length bs → present cs ≤ present bs)

pub sparing : {T : Type 0} (bs cs : List (Option (BlockState T))) → NoMore bs cs → Sparing bs cs
sparing bs cs h = ((let a = h.0 in omega arith), λ same. h.1)

pub operated-sparing : {T : Type 0} (ok : Bool) (s : MemoryState T) (o : Op ℕ) → Sparing s.blocks (operated ok s o).blocks
operated-sparing ok s (op.Load w) = sparing s.blocks s.blocks (none_more s.blocks)
operated-sparing ok s (op.LoadLink l) = sparing s.blocks s.blocks (none_more s.blocks)
operated-sparing ok s (op.StoreLink l f) = sparing s.blocks _ (put_link-none s l f)
operated-sparing ok s (op.Install f) = sparing s.blocks s.blocks (none_more s.blocks)
operated-sparing {T} true s op.Ask =
    let long : length (s.blocks ++ Some fresh_block ∷ []) ≡ length s.blocks + 1 = length-append s.blocks (Some fresh_block ∷ []) in
    (omega (arith, long), λ same. absurd (omega (arith, long, same)))
operated-sparing false s op.Ask = sparing s.blocks s.blocks (none_more s.blocks)
operated-sparing ok s o = sparing s.blocks _ (put_word-none s (op_word o) (op_makes o (word_at s (op_word o))))
