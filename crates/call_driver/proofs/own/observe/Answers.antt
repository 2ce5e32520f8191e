use Rattle.std.proofs.Common.{None, sym, ◌∙◌, subst}
use Rattle.call_driver.proofs.{Running.EndsIn-step, Running.EndsIn-reply, Running.EndsIn-first, Watching.as_call, Watching.kind-as_call, Watching.look-answer}
use Rattle.queue_steps.{specs.LookNext.IsLookNext, proofs.LookNext.look_next-first, proofs.LookNext.look_next}
use Rattle.call_driver.proofs.own.observe.Goals as goal

pub loop-init : goal.loop-init
loop-init g c =
    let m = g.C.OwnCells in
    let a = kind-as_call {T = g.row.C-Item.Denot} c.args.call c.requires.look in
    let first = EndsIn-first m.can_touch m.touches m.can_perform m.performs m.can_release m.releases m.idle m.owned c.kind-kind.result (m.kind_of c.args.cells.now) (as_call c.args.call) c.start-local.result (c.args.call, None) c.args.cells.now
    c.kind-kind.ensures (cc) c.start-local.ensures (g.met.C.OwnCells.answers c.args.cells.now (as_call c.args.call) c.requires.idle) in (
      first.0,
      first.1,
      rw c.start-local.ensures (look_next-first _ c.kind-kind.result c.args.call c.requires.look),
    )

pub look-answer-requires-clause-can : goal.look-answer-requires-clause-can
look-answer-requires-clause-can g c =
    let m = g.C.OwnCells in
    let h = EndsIn-step m.can_touch m.touches m.can_perform m.performs c.loop.counter c.kind-kind.result c.loop.local c.loop.answer c.in-Step.after c.in-Step.field-1 c.in-Step.op c.args.cells.now None _ c.loop-test.true c.next-todo.ensures c.in-Step.is c.loop.invariant.1 in
    let quiet = subst IsLookNext (sym c.next-todo.ensures ∙ c.in-Step.is) c.loop.invariant.2 in
    (h.1 c.args.cells.now None (rw quiet.0 (g.met.C.OwnCells.stays c.args.cells.now c.in-Step.op None))).0

pub loop-preserved : goal.loop-preserved
loop-preserved g c =
    let m = g.C.OwnCells in
    let h = EndsIn-step m.can_touch m.touches m.can_perform m.performs c.loop.counter c.kind-kind.result c.loop.local c.loop.answer c.in-Step.after c.in-Step.field-1 c.in-Step.op c.args.cells.now None _ c.loop-test.true c.next-todo.ensures c.in-Step.is c.loop.invariant.1 in
    let quiet = subst IsLookNext (sym c.next-todo.ensures ∙ c.in-Step.is) c.loop.invariant.2 in
    let next = (h.1 c.args.cells.now None (rw quiet.0 (g.met.C.OwnCells.stays c.args.cells.now c.in-Step.op None))).1 c.look-answer.result c.args.cells.now c.look-answer.ensures in
    (next.0, next.1, look_next c.kind-kind.result c.in-Step.after c.look-answer.result next.0 quiet.2)

pub returns-in-Reply : goal.returns-in-Reply
returns-in-Reply g c =
    let m = g.C.OwnCells in
    let h = EndsIn-reply m.can_touch m.touches m.can_perform m.performs c.loop.counter c.kind-kind.result c.loop.local c.loop.answer c.in-Reply.reply c.in-Reply.field-1 c.args.cells.now None _ c.loop-test.true c.next-todo.ensures c.in-Reply.is c.loop.invariant.1 in
    let none = subst IsLookNext (sym c.next-todo.ensures ∙ c.in-Reply.is) c.loop.invariant.2 in
    let ended = rw none at h in
    look-answer (m.owned c.args.cells.now) (m.owned c.args.cells.now) c.args.call c.in-Reply.reply ended.1.0 c.requires.look ended.1.1 ended.1.2
