use Rattle.std.proofs.Common.{Ok, Err, [], ◌∷◌}
use Rattle.queue_steps.specs.declared.{model.Call.Call as call, model.Reply.Reply as reply, model.Effect.Effect as effect, errors.PushError.PushError as push}
use Rattle.app_threads.proofs.Works.{first_acts, then_quits, push_quits}
use Rattle.app_threads.proofs.crew.push_one.Goals as goal

pub returns-in-Ok : goal.returns-in-Ok
returns-in-Ok g c =
    let pushed = rw c.in-Ok.is at c.push.ensures in
    first_acts c.args.party.now c.loop.party c.push.new.party (call.Push c.args.value) (reply.Push (Ok tt)) (effect.Append c.args.value ∷ []) c.show_view.ensures c.loop.invariant pushed pushed.1.tells

pub loop-preserved : goal.loop-preserved
loop-preserved g c =
    let pushed = rw c.in-Err-Full.field-0-is at c.in-Err-Full.ensures in
    first_acts c.args.party.now c.loop.party c.push.new.party (call.Push c.args.value) (reply.Push (Err (push.Full c.in-Err-Full.field-0-0))) [] c.show_view.ensures c.loop.invariant pushed pushed.1.tells.1

pub returns-in-Err-Closed : goal.returns-in-Err-Closed
returns-in-Err-Closed g c =
    let pushed = rw c.in-Err-Closed.field-0-is at c.in-Err-Closed.ensures in
    push_quits c.args.party.now c.loop.party c.push.new.party c.args.value c.in-Err-Closed.field-0-0 c.show_view.ensures c.loop.invariant pushed

pub returns-in-Err-NoMemory : goal.returns-in-Err-NoMemory
returns-in-Err-NoMemory g c =
    let pushed = rw c.in-Err-NoMemory.field-0-is at c.in-Err-NoMemory.ensures in
    let acts = first_acts c.args.party.now c.loop.party c.push.new.party (call.Push c.args.value) (reply.Push (Err (push.NoMemory c.in-Err-NoMemory.field-0-0))) [] c.show_view.ensures c.loop.invariant pushed pushed.1.tells.1 in
    then_quits c.args.party.now c.push.new.party c.shut.new.party acts c.shut.ensures
