use Rattle.std.proofs.Common.{◌≡◌, ◌∙◌, ap, refl, sym}
use Rattle.std.proofs.lemmas.{List.map-id, Iterator.Adapters.YieldsList-from_vec, Iterator.Consumers.YieldsList-end}
use Rattle.machine_steps.specs.Left.{all_written}
use Rattle.machine_replay.proofs.Engine.Gathering.{all_written-append}
use Rattle.machine_replay.proofs.left.settle.Goals as goal

pub loop-call-init : goal.loop-call-init
loop-call-init g c = record { can = tt; finite = tt; slots = refl }

pub loop-call-preserved-in-Some-call : goal.loop-call-preserved-in-Some-call
loop-call-preserved-in-Some-call g c =
    record {
      can = tt;
      finite = tt;
      slots = rw (all_written-append c.loop-call.yielded c.in-Some.call c.args.slots.items, c.in-Some-call.is, ← c.loop-call.invariant.slots) c.write.ensures;
    }

pub loop-call-preserved : goal.loop-call-preserved
loop-call-preserved g c =
    record {
      can = tt;
      finite = tt;
      slots = rw (all_written-append c.loop-call.yielded c.in-Some.call c.args.slots.items, c.in_default.is) c.loop-call.invariant.slots;
    }

pub returns : goal.returns
returns g c =
    let it = c.into_iter-call-iterator.ensures.into_iter_gives in
    let t = YieldsList-end (YieldsList-from_vec c.args.calls.items it.0 (it.1 ∙ c.args.calls.ok.0)) c.loop-call.yielded c.loop-call.call-iterator c.loop-call.yielded_by c.next.result c.next.new.self c.in-None.is c.next.ensures.steps in
    let all : c.loop-call.yielded ≡ c.args.calls.items = sym (map-id c.loop-call.yielded) ∙ t.0 in
    c.loop-call.invariant.slots ∙ ap (λ calls. all_written calls c.args.slots.items) all
