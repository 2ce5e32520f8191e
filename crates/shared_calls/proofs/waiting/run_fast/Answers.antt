use Rattle.std.proofs.Common.{◌-◌, refl}
use Rattle.queue_laws.specs.Common.Vocabulary.{STEPS_ALONE}
use Rattle.call_driver.proofs.Apart.{call-parts}
use Rattle.shared_calls.proofs.Filling.{is_filled, filled_as}
use Rattle.shared_calls.proofs.waiting.run_fast.Goals as goal

pub run-requires-clause-on_way : goal.run-requires-clause-on_way
run-requires-clause-on_way g c =
    let h = call-parts c.split-call.result c.args.call c.split-call.ensures in
    (STEPS_ALONE - 1, (c.args.call, c.args.seat.now, rw h.1 (c.begin-kind.ensures.begun c.args.call (STEPS_ALONE - 1) h.0 refl)))

pub fill-requires : goal.fill-requires
fill-requires g c =
    let h = call-parts c.split-call.result c.args.call c.split-call.ensures in
    let told = c.in-Break.ensures (STEPS_ALONE - 1) c.args.call c.args.seat.now (rw h.1 (c.begin-kind.ensures.begun c.args.call (STEPS_ALONE - 1) h.0 refl)) in
    record { fits = is_filled c.in-Break.reply c.run.new.carried told.0 told.1 }

pub returns-in-Break : goal.returns-in-Break
returns-in-Break g c =
    let h = call-parts c.split-call.result c.args.call c.split-call.ensures in
    let told = c.in-Break.ensures (STEPS_ALONE - 1) c.args.call c.args.seat.now (rw h.1 (c.begin-kind.ensures.begun c.args.call (STEPS_ALONE - 1) h.0 refl)) in
    let same = filled_as c.in-Break.reply c.run.new.carried told.0 told.1 c.fill.result c.fill.ensures in
    rw same at told.2

pub returns-in-Continue : goal.returns-in-Continue
returns-in-Continue g c =
    let h = call-parts c.split-call.result c.args.call c.split-call.ensures in
    c.in-Continue.ensures (STEPS_ALONE - 1) c.args.call c.args.seat.now (rw h.1 (c.begin-kind.ensures.begun c.args.call (STEPS_ALONE - 1) h.0 refl))
