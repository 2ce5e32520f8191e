use Rattle.std.proofs.Common.{Ok, Err, [], ◌∷◌}
use Rattle.queue_steps.specs.declared.{model.Call.Call as call, model.Reply.Reply as reply, model.Effect.Effect as effect, errors.PopError.PopError as pop}
use Rattle.app_threads.proofs.Works.{first_acts, pop_quits}
use Rattle.app_threads.proofs.crew.pop_one.Goals as goal

pub returns-in-Ok : goal.returns-in-Ok
returns-in-Ok g c =
    let popped = c.in-Ok.ensures in
    first_acts c.args.party.now c.loop.party c.pop.new.party call.Pop (reply.Pop (Ok c.in-Ok.value)) (effect.Take c.in-Ok.value ∷ []) c.show_view.ensures c.loop.invariant popped popped.1.tells

pub loop-preserved : goal.loop-preserved
loop-preserved g c =
    let popped = rw c.in-Err-Empty.field-0-is at c.in-Err-Empty.ensures in
    first_acts c.args.party.now c.loop.party c.pop.new.party call.Pop (reply.Pop (Err pop.Empty)) [] c.show_view.ensures c.loop.invariant popped popped.1.tells

pub returns-in-Err-Closed : goal.returns-in-Err-Closed
returns-in-Err-Closed g c =
    let popped = rw c.in-Err-Closed.field-0-is at c.in-Err-Closed.ensures in
    pop_quits c.args.party.now c.loop.party c.pop.new.party c.show_view.ensures c.loop.invariant popped
