use Rattle.std.proofs.Common.{◌≡◌, ◌-◌, refl, ap}
use Rattle.queue_steps.specs.{declared.sizes.TheConstants.STEPS_ALONE, Kinds.call_kind}
use Rattle.call_driver.proofs.Going.{first-step, step, replies, again, ends-first, ends-step}
use Rattle.call_driver.proofs.driver.drive_wait_free.Goals as goal

pub loop-init : goal.loop-init
loop-init g c =
    let m = g.M.Site in
    let kind : c.split-call.result.0 ≡ call_kind c.args.call = ap (λ z. z.0) c.split-call.ensures in
    let carried = ap (λ z. z.1) c.split-call.ensures in (
      rw carried (first-step m c.kind-kind.result c.split-call.result.0 c.args.site.now c.args.seat.now c.args.call c.start-local.result (STEPS_ALONE - 1)
          c.kind-kind.ensures c.start-local.ensures kind refl (g.met.M.Site.begins c.args.site.now c.args.seat.now c.args.call c.requires.rests)),
      ends-first c.kind-kind.result (m.kind_of c.args.site.now c.args.seat.now) (call_kind c.args.call) c.start-local.result c.split-call.result.0
          c.kind-kind.ensures kind c.start-local.ensures (g.met.M.SharedSite.wait_free c.args.site.now c.args.seat.now c.args.call c.requires.wait_free),
    )

pub take_step-answer-requires : goal.take_step-answer-requires
take_step-answer-requires g c =
    record { may = (step g.M.Site (STEPS_ALONE - 1) c.kind-kind.result c.split-call.result.0 c.args.site.now c.args.seat.now c.args.call c.loop.local c.loop.answer c.in-Step.after c.in-Step.touch c.in-Step.op c.loop.seat c.loop.carried c.next-todo.ensures c.in-Step.is c.loop.invariant.0).0 }

pub loop-preserved : goal.loop-preserved
loop-preserved g c =
    let m = g.M.Site in
    let h = step m (STEPS_ALONE - 1) c.kind-kind.result c.split-call.result.0 c.args.site.now c.args.seat.now c.args.call c.loop.local c.loop.answer c.in-Step.after c.in-Step.touch c.in-Step.op c.loop.seat c.loop.carried c.next-todo.ensures c.in-Step.is c.loop.invariant.0 in
    let stood = h.1 c.take_step-answer.result c.take_step-answer.new.seat c.take_step-answer.new.carried c.take_step-answer.ensures in
    let on = again m g.met.M.Site.goes_on g.met.M.Site.more (STEPS_ALONE - 1) c.kind-kind.result c.split-call.result.0 c.args.site.now c.args.seat.now c.args.call
    (record { local = c.in-Step.after; answer = c.take_step-answer.result }) c.take_step-answer.new.carried c.take_step-answer.new.seat stood in
    (on, ends-step c.loop.counter c.kind-kind.result c.loop.local c.loop.answer c.in-Step.after c.in-Step.touch c.in-Step.op c.take_step-answer.result c.loop-test.true c.next-todo.ensures c.in-Step.is c.loop.invariant.1 on.1.0)

pub end-requires : goal.end-requires
end-requires g c = record { may = (replies g.M.Site (STEPS_ALONE - 1) c.kind-kind.result c.split-call.result.0 c.args.site.now c.args.seat.now c.args.call c.loop.local c.loop.answer c.in-Reply.reply c.in-Reply.spare c.loop.seat c.loop.carried c.next-todo.ensures c.in-Reply.is c.loop.invariant.0).0 }

pub fill-requires : goal.fill-requires
fill-requires g c =
    let h = (replies g.M.Site (STEPS_ALONE - 1) c.kind-kind.result c.split-call.result.0 c.args.site.now c.args.seat.now c.args.call c.loop.local c.loop.answer
    c.in-Reply.reply c.in-Reply.spare c.loop.seat c.loop.carried c.next-todo.ensures c.in-Reply.is c.loop.invariant.0).1 c.end.new.seat c.end.ensures in
    record { fits = rw h.1 refl }

pub returns-in-Reply : goal.returns-in-Reply
returns-in-Reply g c =
    let h = (replies g.M.Site (STEPS_ALONE - 1) c.kind-kind.result c.split-call.result.0 c.args.site.now c.args.seat.now c.args.call c.loop.local c.loop.answer
    c.in-Reply.reply c.in-Reply.spare c.loop.seat c.loop.carried c.next-todo.ensures c.in-Reply.is c.loop.invariant.0).1 c.end.new.seat c.end.ensures in
    let same : h.0 ≡ c.fill.result = let e = c.fill.ensures in cc in
    rw same at h.2
