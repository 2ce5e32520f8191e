-- How many steps a call on a ring takes at most from where it stands, while no other party holds a slot.
use Rattle.std.proofs.Common.{ℕ, ◌+◌, ◌<◌, ◌≤◌, ◌≡◌, ◌==◌, Bool, true, if◌then◌else◌, List, refl, ap, arith}
use Rattle.std.proofs.lemmas.Bool.{eq-eqb}
use Rattle.queue_steps.specs.{State.State, WaitFree.is_wait_free, Words.position_of, Words.tail_of, declared.steps.ring.RingLocal.RingLocal as ring}
use Rattle.queue_laws.specs.{Common.Vocabulary.Local, Common.Stand.Stand, Ring.RingCells.Ring}
use Rattle.queue_laws.proofs.Common.{Ranks.either_small, Ranks.either_some, Pushes.never_push}
use Rattle.queue_laws.specs.Ring.RingAt.{At, push_stamp, claiming, push_head, displacing, pop_stamp, taking, pop_tail, count_head, count_again}

-- how many steps a call takes from here at most: what it read may be stale, and is not once it has read again
abbrev pub rank : {A : Type 0} → ℕ → Ring A → Local ℕ → ℕ
rank cap r (Local.Ring (ring.PushTail d)) = 5
rank cap r (Local.Ring (ring.PushStamp d t)) = if position_of t == r.tail then 4 else 7
rank cap r (Local.Ring (ring.Claiming d t)) = if position_of t == r.tail then 2 else 5
rank cap r (Local.Ring (ring.PushHead t)) = if r.head + cap == position_of t then 1 else 6
rank cap r (Local.Ring (ring.Displacing t)) = if r.head + cap == position_of t then 3 else 6
rank cap r (Local.Ring (ring.Arriving t)) = 2
rank cap r (Local.Ring ring.PopHead) = 4
rank cap r (Local.Ring (ring.PopStamp h)) = if h == r.head then 3 else 6
rank cap r (Local.Ring (ring.Taking h)) = if h == r.head then 2 else 4
rank cap r (Local.Ring (ring.PopTail h)) = if r.tail == h then 1 else 5
rank cap r (Local.Ring (ring.CountTail g)) = 3
rank cap r (Local.Ring (ring.CountHead g t)) = if t == tail_of r.tail r.closed then 2 else 5
rank cap r (Local.Ring (ring.CountAgain g t h)) = if t == tail_of r.tail r.closed then 1 else 4
rank cap r (Local.Ring ring.EmptyHead) = 2
rank cap r (Local.Ring ring.FullTail) = 2
rank cap r _ = 1

-- the most steps that a call has before it, wherever it stands
abbrev pub longest : ℕ
longest = 7

-- the first, where the two numbers are equal
pub pick : (p q a b : ℕ) → p ≡ q → (if p == q then a else b) ≡ a
pick p q a b e = ap (λ t. if t then a else b) (eq-eqb p q e)

pub rank_small : {A : Type 0} (cap : ℕ) (r : Ring A) (l : Local ℕ) → rank cap r l ≤ longest
rank_small cap r (Local.Ring (ring.PushStamp d t)) = either_small (position_of t == r.tail) 4 7 longest (omega arith) (omega arith)
rank_small cap r (Local.Ring (ring.Claiming d t)) = either_small (position_of t == r.tail) 2 5 longest (omega arith) (omega arith)
rank_small cap r (Local.Ring (ring.PushHead t)) = either_small (r.head + cap == position_of t) 1 6 longest (omega arith) (omega arith)
rank_small cap r (Local.Ring (ring.Displacing t)) = either_small (r.head + cap == position_of t) 3 6 longest (omega arith) (omega arith)
rank_small cap r (Local.Ring (ring.PopStamp h)) = either_small (h == r.head) 3 6 longest (omega arith) (omega arith)
rank_small cap r (Local.Ring (ring.Taking h)) = either_small (h == r.head) 2 4 longest (omega arith) (omega arith)
rank_small cap r (Local.Ring (ring.PopTail h)) = either_small (r.tail == h) 1 5 longest (omega arith) (omega arith)
rank_small cap r (Local.Ring (ring.CountHead g t)) = either_small (t == tail_of r.tail r.closed) 2 5 longest (omega arith) (omega arith)
rank_small cap r (Local.Ring (ring.CountAgain g t h)) = either_small (t == tail_of r.tail r.closed) 1 4 longest (omega arith) (omega arith)
rank_small cap r l = omega arith

pub rank_some : {A : Type 0} (cap : ℕ) (r : Ring A) (l : Local ℕ) → 0 < rank cap r l
rank_some cap r (Local.Ring (ring.PushStamp d t)) = either_some (position_of t == r.tail) 4 7 (omega arith) (omega arith)
rank_some cap r (Local.Ring (ring.Claiming d t)) = either_some (position_of t == r.tail) 2 5 (omega arith) (omega arith)
rank_some cap r (Local.Ring (ring.PushHead t)) = either_some (r.head + cap == position_of t) 1 6 (omega arith) (omega arith)
rank_some cap r (Local.Ring (ring.Displacing t)) = either_some (r.head + cap == position_of t) 3 6 (omega arith) (omega arith)
rank_some cap r (Local.Ring (ring.PopStamp h)) = either_some (h == r.head) 3 6 (omega arith) (omega arith)
rank_some cap r (Local.Ring (ring.Taking h)) = either_some (h == r.head) 2 4 (omega arith) (omega arith)
rank_some cap r (Local.Ring (ring.PopTail h)) = either_some (r.tail == h) 1 5 (omega arith) (omega arith)
rank_some cap r (Local.Ring (ring.CountHead g t)) = either_some (t == tail_of r.tail r.closed) 2 5 (omega arith) (omega arith)
rank_some cap r (Local.Ring (ring.CountAgain g t h)) = either_some (t == tail_of r.tail r.closed) 1 4 (omega arith) (omega arith)
rank_some cap r l = omega arith

-- how many steps a wait-free call has before it does not hang on the ring
pub wait_free_rank : {A : Type 0} {cap : ℕ} {r : Ring A} {who : ℕ} {ms : List (State A)} {was : Bool} {c : Stand A} (s : Ring A)
    → At cap r who ms was c → is_wait_free c.call ≡ true → rank cap s c.local ≡ rank cap r c.local
wait_free_rank {cap = cap} {r = r} s (push_stamp d v t none saw) e = absurd (never_push d v e)
wait_free_rank {cap = cap} {r = r} s (claiming d v t none saw free) e = absurd (never_push d v e)
wait_free_rank s (push_head v t none saw) e = cc
wait_free_rank s (displacing v t h none saw back full) e = cc
wait_free_rank s (pop_stamp h none low) e = cc
wait_free_rank s (taking h none low full) e = cc
wait_free_rank s (pop_tail h none low free) e = cc
wait_free_rank s (count_head g t count none low) e = cc
wait_free_rank s (count_again g t h count none seen) e = cc
wait_free_rank s x e = refl
