-- One turn of each loop that makes the list that is left.
use Rattle.std.proofs.Common.{◌≡◌, ◌∙◌, ℕ, suc, ◌+◌, ◌-◌, ◌<◌, ◌≤◌, Option, None, List, [], ◌∷◌, ◌++◌, length, get_or, set, refl, sym, ap, arith, append_assoc, length-append}
use Rattle.std.specs.Option.{option_to_list}
use Rattle.queue_steps.specs.Words.{slot_at}
use Rattle.machine_memory.specs.SharedMemory.{MemoryState}
use Rattle.machine_replay.specs.Vocabulary.{Kind, Running}
use Rattle.machine_steps.specs.{Left.written_by, Left.all_written, Left.gathered, Left.left_of, Left.listed_in, World.World}

pub all_written-append : {T : Type 0} (xs : List (Option (Running T))) (x : Option (Running T)) (slots : List (Option T)) → all_written (xs ++ x ∷ []) slots ≡ written_by x (all_written xs slots)
all_written-append [] x slots = refl
all_written-append (y ∷ xs) x slots = all_written-append xs x (written_by y slots)

-- the next position is gathered
pub gathered-turn : {T : Type 0} (n p end : ℕ) (slots : List (Option T)) → p < end
    → gathered n p (end - p) slots ≡ option_to_list (get_or slots (slot_at n p) None) ++ gathered n (p + 1) (end - (p + 1)) (set slots (slot_at n p) None)
gathered-turn n p end slots lt =
    let e : end - p ≡ suc (end - (p + 1)) = omega arith in
    rw e refl

-- what is gathered so far and what is still to come, after one position more
pub gathered-next : {T : Type 0} (n p end : ℕ) (slots : List (Option T)) (left all : List T) → p < end → left ++ gathered n p (end - p) slots ≡ all
    → (left ++ option_to_list (get_or slots (slot_at n p) None)) ++ gathered n (p + 1) (end - (p + 1)) (set slots (slot_at n p) None) ≡ all
gathered-next n p end slots left all lt e =
    append_assoc left (option_to_list (get_or slots (slot_at n p) None)) (gathered n (p + 1) (end - (p + 1)) (set slots (slot_at n p) None))
    ∙ ap (λ l. left ++ l) (sym (gathered-turn n p end slots lt)) ∙ e

-- there is room for it
pub gathered-room : {T : Type 0} (n p end : ℕ) (slots : List (Option T)) (left all : List T) → p < end → left ++ gathered n p (end - p) slots ≡ all
    → length left + length (option_to_list (get_or slots (slot_at n p) None)) ≤ length all
gathered-room n p end slots left all lt e =
    let f = gathered-next n p end slots left all lt e in
    let l = length-append (left ++ option_to_list (get_or slots (slot_at n p) None)) (gathered n (p + 1) (end - (p + 1)) (set slots (slot_at n p) None)) in
    let m = length-append left (option_to_list (get_or slots (slot_at n p) None)) in
    let k = ap length f in
    omega (arith, l, m, k)

-- a machine with slots holds what they hold, once every call that is about to write has written
pub left-slots : {T : Type 0} (k : Kind) (w : World (MemoryState T) (Running T)) → (k ≡ Kind.Unbounded → ⊥) → left_of k w ≡ listed_in k w.shared.lock w.shared.head w.shared.tail (all_written w.calls w.shared.slots)
left-slots Kind.Unbounded w never = absurd (never refl)
left-slots k w never = refl
