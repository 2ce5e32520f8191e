-- No step of another party takes away where a call on a ring stands, nor what it knows there.
use Rattle.std.proofs.Common.{ℕ, ◌%◌, ◌≢◌, ◌≡◌, Bool, Some, List, refl, arith}
use Rattle.queue_steps.specs.{State.State, Words.position_of}
use Rattle.queue_laws.specs.{Common.Moments.seen_by, Common.Stand.Stand, Ring.RingPasses.Passes}
use Rattle.queue_laws.specs.Ring.RingCells.{Cell, Written, Read, Coming, Swapped, Ring, queue_of, RingOk, owner, HoldsNone, HoldsOne}
use Rattle.queue_laws.proofs.Ring.RingPasses.{none_stays, one_stays, free_stays, full_stays, tail_was_stays, head_was_stays, saw_empty_stays, saw_full_stays, tail_grows, head_grows}
use Rattle.queue_laws.specs.Ring.RingAt.{SawTail, At, push_tail, push_stamp, claiming, filling, push_head, displacing, arriving, swapping, spending, pop_head, pop_stamp, taking, emptying, pop_tail, count_tail, count_head, count_again, empty_head, empty_tail, full_tail, full_head, closing}
use Rattle.queue_laws.specs.Ring.RingAt.{closed_tail}

module _ {A : Type 0} {cap : ℕ} {r s : Ring A} {who other : ℕ} (ok : RingOk cap r) (ok' : RingOk cap s) (ne : other ≢ who) (pass : Passes who r s) where
  without : HoldsNone r.cells other → HoldsNone s.cells other
  without none = none_stays who other ne pass none

  with_one : (i : ℕ) (x : Cell A) → owner x ≡ Some other → HoldsOne r.cells other i x → HoldsOne s.cells other i x
  with_one i x own one = one_stays who other i x ne pass own one

  module _ {ms : List (State A)} {was : Bool} where
    saw_stays : (t : ℕ) → SawTail cap r t ms was → SawTail cap s t (seen_by (queue_of cap s) ms) was
    saw_stays t saw = record {
      unshut = saw.unshut;
      below = saw.below;
      behind = let g = tail_grows who pass in let low = saw.behind in omega arith;
      moment = tail_was_stays cap who (position_of t) ms (queue_of cap s) pass saw.moment;
      opened = saw.opened;
    }

    -- a step of another party leaves a call where it stands, with all that it knows
    pub at_stays : {c : Stand A} → At cap r other ms was c → At cap s other (seen_by (queue_of cap s) ms) was c
    at_stays (push_tail d v none) = push_tail d v (without none)
    at_stays (push_stamp d v t none saw) = push_stamp d v t (without none) (saw_stays t saw)
    at_stays (claiming d v t none saw free) = claiming d v t (without none) (saw_stays t saw) (free_stays cap who (position_of t) pass free)
    at_stays (filling d v q one) = filling d v q (with_one (q % cap) (Written q other v) refl one)
    at_stays (push_head v t none saw) = push_head v t (without none) (saw_stays t saw)
    at_stays (displacing v t h none saw e full) = displacing v t h (without none) (saw_stays t saw) e (full_stays cap who h pass full)
    at_stays (arriving old v t h below e one) = arriving old v t h below e (with_one (h % cap) (Coming h other old v) refl one)
    at_stays (swapping old v h one) = swapping old v h (with_one (h % cap) (Swapped h other old v) refl one)
    at_stays (spending d v none high) = spending d v (without none) (let g = tail_grows who pass in omega arith)
    at_stays (pop_head none) = pop_head (without none)
    at_stays (pop_stamp h none low) = pop_stamp h (without none) (let g = head_grows who pass in omega arith)
    at_stays (taking h none low full) = taking h (without none) (let g = head_grows who pass in omega arith) (full_stays cap who h pass full)
    at_stays (emptying x h one) = emptying x h (with_one (h % cap) (Read h other x) refl one)
    at_stays (pop_tail h none low free) = pop_tail h (without none) (let g = head_grows who pass in omega arith) (free_stays cap who h pass free)
    at_stays (count_tail g count none) = count_tail g count (without none)
    at_stays (count_head g t count none low) = count_head g t count (without none) (let g = tail_grows who pass in omega arith)
    at_stays (count_again g t h count none seen) = count_again g t h count (without none) (head_was_stays (Some cap) who h (position_of t) ms (queue_of cap s) pass seen)
    at_stays (empty_head none) = empty_head (without none)
    at_stays (empty_tail h none saw) = empty_tail h (without none) (saw_empty_stays cap who h ms ok ok' pass saw)
    at_stays (full_tail none) = full_tail (without none)
    at_stays (full_head t none saw) = full_head t (without none) (saw_full_stays cap who (position_of t) ms ok ok' pass saw)
    at_stays (closing none) = closing (without none)
    at_stays (closed_tail none) = closed_tail (without none)
