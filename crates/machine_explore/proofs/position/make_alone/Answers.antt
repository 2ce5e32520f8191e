use Rattle.std.proofs.Common.{◌∙◌, ap, sym, true}
use Rattle.std.proofs.lemmas.Bool.{not-true}
use Rattle.machine_steps.specs.{Machine.event_of, Machine.world_of, World.call_at}
use Rattle.machine_memory.specs.declared.types.Event.TheVariants.{Step}
use Rattle.machine_replay.proofs.Engine.MachineRuns.{none-there}
use Rattle.machine_explore.proofs.Starting.{making-done, making-first, making-next}
use Rattle.machine_explore.proofs.position.make_alone.Goals as goal

pub loop-init : goal.loop-init
loop-init g c =
    let told = c.in_ok-handle in
    record {
      comes = c.handle.ensures.comes;
      kind = c.handle.ensures.kind;
      making = making-first c.args.run.now.machine.kind (world_of c.args.run.now.machine) c.args.call (world_of c.handle.new.run.machine) told.field-0 c.in-Ran.field-0 c.in-Ran.field-1
          told.ensures.world told.ensures.told c.in-Ran.is;
    }

pub loop-preserved : goal.loop-preserved
loop-preserved g c =
    let k = c.args.run.now.machine.kind in
    record {
      comes = c.handle-in-loop.ensures.comes;
      kind = c.handle-in-loop.ensures.kind ∙ c.loop.invariant.kind;
      making = making-next k (world_of c.args.run.now.machine) c.args.call (world_of c.loop.run.machine) (world_of c.handle-in-loop.new.run.machine) c.loop.invariant.making
          (c.in_ok-handle-2.ensures.world ∙ ap (λ x. (event_of x true (world_of c.loop.run.machine) (Step 0 true)).0) c.loop.invariant.kind);
    }

pub returns-then-not-is_in_call-clause-made : goal.returns-then-not-is_in_call-clause-made
returns-then-not-is_in_call-clause-made g c =
    λ ended.
    making-done c.args.run.now.machine.kind (world_of c.args.run.now.machine) c.args.call (world_of c.loop.run.machine) c.loop.invariant.making
    (none-there (call_at (world_of c.loop.run.machine) 0) (sym c.is_in_call.ensures.world ∙ c.if-not-is_in_call.true))

pub returns-clause-made : goal.returns-clause-made
returns-clause-made g c =
    λ ended.
    making-done c.args.run.now.machine.kind (world_of c.args.run.now.machine) c.args.call (world_of c.loop.run.machine) c.loop.invariant.making
    (none-there (call_at (world_of c.loop.run.machine) 0) (sym c.is_in_call-2.ensures.world ∙ not-true c.is_in_call-2.result ended))
