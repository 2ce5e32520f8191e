use Rattle.std.proofs.Common.{◌≡◌, Some, arith, slice_set}
use Rattle.std.proofs.lemmas.Grind.{common_steps}
use Rattle.machine_memory.specs.declared.types.Event.TheVariants.{Step}
use Rattle.machine_steps.specs.{World.call_at, Machine.CanHandle, Machine.world_of}
use Rattle.machine_steps.proofs.Handling.{handles-met, handles-step, met_if}
use Rattle.machine_steps.proofs.machine.Machine.handle_met.Goals as goal

pub step-told-requires-clause-can : goal.step-told-requires-clause-can
step-told-requires-clause-can g c =
    λ ok.
    let can : CanHandle c.args.self.now.kind (world_of c.args.self.now) (Step c.in-Step.party c.in-Step.granted) = rw c.in-Step.is at c.requires.can in
    let there : call_at (world_of c.args.self.now) c.in-Step.party ≡ Some c.in-Some.running = grind (arith, common_steps) in
    can ok c.in-Some.running there

pub returns-in-Some-clause-handles : goal.returns-in-Some-clause-handles
returns-in-Some-clause-handles g c =
    let there : call_at (world_of c.args.self.now) c.in-Step.party ≡ Some c.in-Some.running = grind (arith, common_steps) in
    rw c.in-Step.is (handles-step c.args.self.now.kind (world_of c.args.self.now) (world_of c.step-told.new.self) c.in-Step.party c.in-Step.granted c.step-told.result.1 c.in-Some.running c.step-told.result.0
    (slice_set c.args.self.now.calls.items c.in-Step.party c.take.new.self) c.step-told.ensures.refused there (grind (arith, common_steps)) c.step-told.ensures.world c.step-told.ensures.told)

pub returns-in-Some-clause-met_world : goal.returns-in-Some-clause-met_world
returns-in-Some-clause-met_world g c met =
    let there : call_at (world_of c.args.self.now) c.in-Step.party ≡ Some c.in-Some.running = grind (arith, common_steps) in
    rw c.in-Step.is (handles-met c.args.self.now.kind (world_of c.args.self.now) (world_of c.step-told.new.self) c.in-Step.party c.in-Step.granted c.step-told.result.1 c.in-Some.running c.step-told.result.0
    (slice_set c.args.self.now.calls.items c.in-Step.party c.take.new.self) (met_if c.in-Step.granted c.step-told.result.1 c.step-told.ensures.refused (c.is_met.ensures met)) there (grind (arith, common_steps)) c.step-told.ensures.world c.step-told.ensures.told).0

pub returns-in-Some-clause-met_told : goal.returns-in-Some-clause-met_told
returns-in-Some-clause-met_told g c met =
    let there : call_at (world_of c.args.self.now) c.in-Step.party ≡ Some c.in-Some.running = grind (arith, common_steps) in
    rw c.in-Step.is (handles-met c.args.self.now.kind (world_of c.args.self.now) (world_of c.step-told.new.self) c.in-Step.party c.in-Step.granted c.step-told.result.1 c.in-Some.running c.step-told.result.0
    (slice_set c.args.self.now.calls.items c.in-Step.party c.take.new.self) (met_if c.in-Step.granted c.step-told.result.1 c.step-told.ensures.refused (c.is_met.ensures met)) there (grind (arith, common_steps)) c.step-told.ensures.world c.step-told.ensures.told).1

pub returns-then-party-len-clause-handles : goal.returns-then-party-len-clause-handles
returns-then-party-len-clause-handles g c = grind (arith, common_steps)

pub returns-then-party-len-clause-met_world : goal.returns-then-party-len-clause-met_world
returns-then-party-len-clause-met_world g c = grind (arith, common_steps)

pub returns-then-party-len-clause-met_told : goal.returns-then-party-len-clause-met_told
returns-then-party-len-clause-met_told g c = grind (arith, common_steps)
