-- Each step of a call on a ring, wherever the call stands.
use Rattle.std.proofs.Common.{ℕ, Bool, List}
use Rattle.queue_steps.specs.State.{State}
use Rattle.queue_laws.specs.{Common.Stand.Stand, Ring.RingShared.Shared, Ring.RingCells.Ring, Ring.RingCells.RingOk, Ring.RingWords.Codes}
use Rattle.queue_laws.specs.Ring.RingAt.{At, push_tail, push_stamp, claiming, filling, push_head, displacing, arriving, swapping, spending, pop_head, pop_stamp, taking, emptying, pop_tail, count_tail, count_head, count_again, empty_head, empty_tail, full_tail, full_head, closing, closed_tail}
use Rattle.queue_laws.proofs.Ring.{RingStepOk.StepOk, RingPush.good_push_tail, RingPush.good_push_stamp, RingClaim.good_claiming, RingClaim.good_filling, RingClaim.good_push_head, RingClaim.good_spending, RingForce.good_displacing, RingForce.good_arriving, RingForce.good_swapping}
use Rattle.queue_laws.proofs.Ring.RingPop.{good_pop_head, good_pop_stamp, good_taking, good_emptying, good_pop_tail}
use Rattle.queue_laws.proofs.Ring.RingLook.{good_count_tail, good_count_head, good_count_again, good_empty_head, good_empty_tail, good_full_tail, good_full_head, good_closing, good_closed_tail}

-- each step of a call, wherever it stands, is a step of the queue
pub step_good : {A : Type 0} {cap : ℕ} {r : Ring A} {who : ℕ} {s : Shared A} {ms : List (State A)} {was : Bool} {c : Stand A}
    → RingOk cap r → Codes cap r s → At cap r who ms was c → StepOk cap r who s ms was c
step_good ok codes (push_tail d v none) = good_push_tail ok codes d v none
step_good ok codes (push_stamp d v t none saw) = good_push_stamp ok codes d v t none saw
step_good ok codes (claiming d v t none saw free) = good_claiming ok codes d v t none saw free
step_good ok codes (filling d v q one) = good_filling ok codes d v q one
step_good ok codes (push_head v t none saw) = good_push_head ok codes v t none saw
step_good ok codes (displacing v t h none saw e full) = good_displacing ok codes v t h none saw e full
step_good ok codes (arriving old v t h below e one) = good_arriving ok codes old v t h below e one
step_good ok codes (swapping old v h one) = good_swapping ok codes old v h one
step_good ok codes (spending d v none high) = good_spending ok codes d v none high
step_good ok codes (pop_head none) = good_pop_head ok codes none
step_good ok codes (pop_stamp h none low) = good_pop_stamp ok codes h none low
step_good ok codes (taking h none low full) = good_taking ok codes h none low full
step_good ok codes (emptying x h one) = good_emptying ok codes x h one
step_good ok codes (pop_tail h none low free) = good_pop_tail ok codes h none low free
step_good ok codes (count_tail g count none) = good_count_tail ok codes g count none
step_good ok codes (count_head g t count none low) = good_count_head ok codes g t count none low
step_good ok codes (count_again g t h count none seen) = good_count_again ok codes g t h count none seen
step_good ok codes (empty_head none) = good_empty_head ok codes none
step_good ok codes (empty_tail h none saw) = good_empty_tail ok codes h none saw
step_good ok codes (full_tail none) = good_full_tail ok codes none
step_good ok codes (full_head t none saw) = good_full_head ok codes t none saw
step_good ok codes (closing none) = good_closing ok codes none
step_good ok codes (closed_tail none) = good_closed_tail ok codes none
