use Rattle.std.proofs.Common.{◌-◌, ◌+◌}
use Rattle.queue_steps.specs.{declared.sizes.TheConstants.STEPS_ALONE, declared.sizes.TheConstants.WAIT_FREE_STEPS, Next.next_of, WaitFree.EndsBefore}
use Rattle.call_driver.specs.OnWay.{OnWay}
use Rattle.call_driver.proofs.driver.drive_wait_free.Given as goal

-- the call is on its way, and comes to its end within the steps that are left
abbrev pub invariant-loop : goal.invariant-loop
invariant-loop g l =
    OnWay g.M.Site (STEPS_ALONE - 1) l.kind l.call l.site l.fn.seat l.fn.call (record { local = l.local; answer = l.answer }) l.carried l.seat
    × EndsBefore (WAIT_FREE_STEPS + 1 - l.counter) l.kind (next_of l.kind l.local l.answer)
