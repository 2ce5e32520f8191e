use Rattle.std.proofs.Common.{◌-◌, None}
use Rattle.queue_steps.specs.{LookNext.IsLookNext, Next.CanNext, Next.next_of, declared.sizes.TheConstants.STEPS_ALONE}
use Rattle.call_driver.{specs.EndsIn.EndsIn, specs.EndsIn.Answered, proofs.Watching.as_call}
use Rattle.call_driver.proofs.own.observe.Given as goal

-- the answer fits where the call stands, and what is left to do ends with the call's reply, and changes nothing
abbrev pub invariant-loop : goal.invariant-loop
invariant-loop g l =
    let m = g.C.OwnCells in
    let todo = next_of l.kind l.local l.answer in
    CanNext l.kind l.local l.answer
    × EndsIn m.can_touch m.touches m.can_perform m.performs (STEPS_ALONE - l.counter) l.kind todo l.cells None
    (Answered m.can_release m.releases m.idle m.owned (as_call l.fn.call) l.cells)
    × IsLookNext todo
