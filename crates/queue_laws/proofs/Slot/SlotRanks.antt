-- One slot: a call alone comes nearer to its reply, a wait-free call replies at once, and a step touches what is there.
use Rattle.std.proofs.Common.{◌≡◌, ℕ, ◌<◌, ◌≤◌, ◌==◌, Bool, true, false, Option, List, if◌then◌else◌, refl, arith}
use Rattle.queue_steps.specs.{Next.CanNext, Next.next_of, WaitFree.is_wait_free, SlotNext.is_marked, SlotNext.is_pushed, declared.steps.slot.SlotLocal.TheVariants.Pushing, declared.steps.slot.SlotLocal.TheVariants.Forcing, declared.steps.slot.SlotLocal.TheVariants.Popping}
use Rattle.queue_laws.specs.{Common.Vocabulary.Kind, Common.Vocabulary.Look, Common.Vocabulary.Local, Common.Vocabulary.Next, Common.Stand.Stand, Slot.SlotHolder.SlotHolder}
use Rattle.queue_laws.specs.Slot.SlotShared.{CanTouch, CanOperate, one_slot, answered, operated, touched}
use Rattle.queue_laws.proofs.Common.Ranks.{either_small, either_some}
use Rattle.queue_laws.specs.Slot.SlotRows.{Codes, free_empty, free_full, At, push_try, push_put, force_try_empty, force_try_full, force_put_empty, force_put_full, pop_try, pop_take, close_try, look_at}

-- how many steps a call takes from here at most, while no other party has the lock
abbrev pub rank : Local ℕ → ℕ → ℕ
rank (Local.Slot Pushing) word = if word == 0 then 2 else 1
rank (Local.Slot (Forcing s)) word = if is_marked word then 1 else (if word == s then 2 else 3)
rank (Local.Slot (Popping s)) word = if word == s then 2 else (if is_pushed word then 3 else 1)
rank _ word = 1

-- it has replied, or has fewer steps left
abbrev pub Falls : Next ℕ → ℕ → ℕ → Type 0
Falls (Next.Step l t o) n word = rank l word < n
Falls (Next.Reply x spare) n word = Unit {0}

-- alone, a call comes nearer to its reply
pub step_falls : {T : Type 0} {x : Stand T} {word : ℕ} {slot : Option T} {h : SlotHolder T} {items : List T} {c : Bool}
    → At x h → Codes word slot h items c → Falls (next_of Kind.Single x.local (answered (touched (one_slot word slot) x.touch x.carried) x.op)) (rank x.local word) (operated (touched (one_slot word slot) x.touch x.carried) x.op).lock
step_falls (push_try v) (free_empty false) = omega arith
step_falls (push_try v) (free_full true x) = tt
step_falls (force_try_empty v) (free_empty false) = omega arith
step_falls (force_try_empty v) (free_full false x) = omega arith
step_falls (force_try_full v) (free_empty false) = omega arith
step_falls (force_try_full v) (free_full false x) = omega arith
step_falls (pop_try true) (free_empty true) = tt
step_falls (pop_try true) (free_full true x) = omega arith
step_falls (pop_try false) (free_empty true) = tt
step_falls (pop_try false) (free_full true x) = omega arith
step_falls (look_at Look.IsClosed) st = tt
step_falls (pop_try v) (free_full false x) = omega arith
step_falls x st = tt

-- the call ends
abbrev pub IsReplying : Next ℕ → Type 0
IsReplying (Next.Step l t o) = ⊥
IsReplying (Next.Reply x spare) = Unit {0}

-- a wait-free call replies at each step
pub wait_free_ends : {T : Type 0} {x : Stand T} {own : SlotHolder T} (word : ℕ) (slot : Option T)
    → At x own → is_wait_free x.call ≡ true → IsReplying (next_of Kind.Single x.local (answered (touched (one_slot word slot) x.touch x.carried) x.op))
wait_free_ends word slot close_try e = tt
wait_free_ends word slot (look_at l) e = tt
wait_free_ends word slot x e = cc

-- the step touches the one slot and the one word, and its answer is what the call waits for
pub can_operate : {T : Type 0} {x : Stand T} {own : SlotHolder T} (word : ℕ) (slot : Option T)
    → At x own → CanTouch x.touch × CanOperate x.op × CanNext Kind.Single x.local (answered (touched (one_slot word slot) x.touch x.carried) x.op)
can_operate word slot (push_put v) = (omega arith, tt, tt)
can_operate word slot (force_put_empty v) = (omega arith, tt, tt)
can_operate word slot (force_put_full old v) = (omega arith, tt, tt)
can_operate word slot (pop_take x) = (omega arith, tt, tt)
can_operate word slot x = (tt, tt, tt)

pub rank_small : (l : Local ℕ) (word : ℕ) → rank l word ≤ 3
rank_small (Local.Slot Pushing) word = either_small (word == 0) 2 1 3 (omega arith) (omega arith)
rank_small (Local.Slot (Forcing s)) word = either_small (is_marked word) 1 (if word == s then 2 else 3) 3 (omega arith) (either_small (word == s) 2 3 3 (omega arith) (omega arith))
rank_small (Local.Slot (Popping s)) word = either_small (word == s) 2 (if is_pushed word then 3 else 1) 3 (omega arith) (either_small (is_pushed word) 3 1 3 (omega arith) (omega arith))
rank_small _ word = omega arith

-- a call in progress has a step before it
pub rank_some : (l : Local ℕ) (word : ℕ) → 0 < rank l word
rank_some (Local.Slot Pushing) word = either_some (word == 0) 2 1 (omega arith) (omega arith)
rank_some (Local.Slot (Forcing s)) word = either_some (is_marked word) 1 (if word == s then 2 else 3) (omega arith) (either_some (word == s) 2 3 (omega arith) (omega arith))
rank_some (Local.Slot (Popping s)) word = either_some (word == s) 2 (if is_pushed word then 3 else 1) (omega arith) (either_some (is_pushed word) 3 1 (omega arith) (omega arith))
rank_some _ word = omega arith

-- a wait-free call has one, whatever the word
pub wait_free_one : {T : Type 0} {x : Stand T} {own : SlotHolder T} (word : ℕ) → At x own → is_wait_free x.call ≡ true → rank x.local word ≡ 1
wait_free_one word (push_try v) e = cc
wait_free_one word (force_try_empty v) e = cc
wait_free_one word (force_try_full v) e = cc
wait_free_one word (pop_try d) e = cc
wait_free_one word x e = refl
