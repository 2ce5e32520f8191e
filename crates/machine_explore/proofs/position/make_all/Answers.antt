use Rattle.std.proofs.Common.{◌∙◌, ◌<◌, ◌≤◌, ◌∷◌, [], arith, length, subst, sym, take}
use Rattle.std.{proofs.lemmas.List.take_all, proofs.lemmas.List.take_more, specs.Prelude.slice_index_or}
use Rattle.machine_steps.specs.Machine.{world_of}
use Rattle.machine_explore.{specs.Starts.IsPrepared, proofs.Starting.prepared-more}
use Rattle.queue_steps.specs.declared.model.Call.{Call as call}
use Rattle.machine_explore.proofs.position.make_all.Goals as goal

pub loop-call-preserved : goal.loop-call-preserved
loop-call-preserved g c =
    let k = c.args.run.now.machine.kind in
    let calls = c.args.calls.now in
    let inside : c.loop-call.call-index < length calls = c.loop-call-test.true in
    let next_call = slice_index_or calls c.loop-call.call-index (call.Push 0) in
    let w = world_of c.args.run.now.machine in
    let made = c.in_ok-make_alone.ensures.made c.if-not-branch.false in
    let from : IsPrepared k (world_of c.loop-call.run.machine) (next_call ∷ []) (world_of c.make_alone.new.run.machine) = subst (λ x. IsPrepared x (world_of c.loop-call.run.machine) (next_call ∷ []) (world_of c.make_alone.new.run.machine)) c.loop-call.invariant.kind made in
    record {
      comes = c.make_alone.ensures.comes;
      kind = c.make_alone.ensures.kind ∙ c.loop-call.invariant.kind;
      prepared = subst (λ l. IsPrepared k w l (world_of c.make_alone.new.run.machine)) (sym (take_more calls c.loop-call.call-index (call.Push 0) inside))
          (prepared-more k w (world_of c.loop-call.run.machine) (world_of c.make_alone.new.run.machine) (take c.loop-call.call-index calls) next_call c.loop-call.invariant.prepared from);
    }

pub returns-clause-made : goal.returns-clause-made
returns-clause-made g c = λ yes.
    let all : length c.args.calls.now ≤ c.loop-call.call-index = let over = c.loop-call-test.false in omega (arith, over) in
    subst (λ l. IsPrepared c.args.run.now.machine.kind (world_of c.args.run.now.machine) l (world_of c.loop-call.run.machine)) (take_all c.loop-call.call-index c.args.calls.now all) c.loop-call.invariant.prepared
