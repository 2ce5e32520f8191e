use Rattle.std.proofs.Common.{ℕ, length, replicate, Some, None, ap, sym, subst, ◌∙◌, arith}
use Rattle.std.proofs.lemmas.List.{length-map}
use Rattle.use_shared.{specs.Sharing.none, specs.Sharing.IsDone, proofs.Moving.then, proofs.Shifts.all_done, proofs.Places.all_full, proofs.Places.same_contents}
use Rattle.use_shared.proofs.tasks.run_batch.Goals as goal

pub open-requires-clause-some : goal.open-requires-clause-some
open-requires-clause-some g c = λ κs outlive. let some = c.if-count-eq0.false in omega (arith, some)

pub start-requires-clause-of : goal.start-requires-clause-of
start-requires-clause-of g c = λ κs outlive. c.in-Ok-open.ensures.0

pub start-requires-clause-batch : goal.start-requires-clause-batch
start-requires-clause-batch g c = λ κs outlive. c.requires

pub run_workers-worker-requires-clause-of : goal.run_workers-worker-requires-clause-of
run_workers-worker-requires-clause-of g c = λ κs outlive. let of = c.in-Ok-open.ensures.0 in let begun = c.start.ensures.queues in (begun.0 ∙ of.0, begun.1 ∙ of.1)

pub work-worker-requires-clause-of : goal.work-worker-requires-clause-of
work-worker-requires-clause-of g c = λ κs outlive.
    let of = c.in-Ok-open.ensures.0 in let begun = c.start.ensures.queues in let ran = c.run_workers-worker.ensures.queues in (ran.0 ∙ (begun.0 ∙ of.0), ran.1 ∙ (begun.1 ∙ of.1))

pub finish-requires-clause-of : goal.finish-requires-clause-of
finish-requires-clause-of g c = λ κs outlive.
    let of = c.in-Ok-open.ensures.0 in let begun = c.start.ensures.queues in let ran = c.run_workers-worker.ensures.queues in let last = c.work-worker.ensures.moved.queues in
    (last.0 ∙ (ran.0 ∙ (begun.0 ∙ of.0)), last.1 ∙ (ran.1 ∙ (begun.1 ∙ of.1)))

pub finish-requires-clause-done : goal.finish-requires-clause-done
finish-requires-clause-done g c = λ κs outlive.
    let ran = c.run_workers-worker.result in let last = c.work-worker.result in
    let count = sym (length-map c.args.tasks.items g.T.Task.outcome) ∙ ap length c.requires in
    let shifts = then (λ t. t.number) (λ d. d.number) c.start.new.worker ran last none none c.run_workers-worker.ensures c.work-worker.ensures.moved in
    subst {A = ℕ} (λ n. IsDone (λ t. t.number) (λ d. d.number) n last) count
    (all_done (λ t. t.number) (λ d. d.number) (length c.args.tasks.items) c.in-Ok-open.worker c.start.new.worker last c.in-Ok-open.ensures.1 c.start.ensures shifts c.work-worker.ensures.last)

pub place-requires-clause-places : goal.place-requires-clause-places
place-requires-clause-places g c = λ κs outlive.
    let count = c.len-count.ensures ∙ (c.args.tasks.ok.0 ∙ (sym (length-map c.args.tasks.items g.T.Task.outcome) ∙ ap length c.requires)) in c.in-Ok.ensures.0 ∙ ap (λ n. replicate n None) count

pub place-requires-clause-each : goal.place-requires-clause-each
place-requires-clause-each g c = λ κs outlive. c.finish.ensures

pub contents-requires-clause-empty : goal.contents-requires-clause-empty
contents-requires-clause-empty g c = c.in-Ok.ensures.1

pub contents-requires-clause-room : goal.contents-requires-clause-room
contents-requires-clause-room g c =
    let filled = ap length c.place.ensures ∙ length-map g.K.Batch.outcomes Some in
    let count = c.len-count.ensures ∙ (c.args.tasks.ok.0 ∙ (sym (length-map c.args.tasks.items g.T.Task.outcome) ∙ ap length c.requires)) in
    let fits = c.in-Ok.ensures.2 in
    omega (arith, filled, count, fits)

pub contents-requires-clause-full : goal.contents-requires-clause-full
contents-requires-clause-full g c = rw c.place.ensures (all_full g.K.Batch.outcomes)

pub returns : goal.returns
returns g c = same_contents c.contents.result.items g.K.Batch.outcomes (c.contents.ensures ∙ c.place.ensures)
