use Rattle.std.proofs.Common.{◌-◌, refl}
use Rattle.queue_steps.specs.declared.sizes.TheConstants.{STEPS_ALONE}
use Rattle.call_driver.proofs.driver.drive.Goals as goal

pub run-requires-clause-on_way : goal.run-requires-clause-on_way
run-requires-clause-on_way g c =
    let h = c.requires.whole in
    (STEPS_ALONE - 1, (h.0, c.args.seat.now, rw h.1.1 (c.begin-kind.ensures.begun h.0 (STEPS_ALONE - 1) h.1.0 refl)))

pub finish_alone-requires-clause-on_way : goal.finish_alone-requires-clause-on_way
finish_alone-requires-clause-on_way g c =
    let h = c.requires.whole in
    (h.0, c.args.seat.now, c.in-Continue.ensures (STEPS_ALONE - 1) h.0 c.args.seat.now (rw h.1.1 (c.begin-kind.ensures.begun h.0 (STEPS_ALONE - 1) h.1.0 refl)))

pub returns-in-Break : goal.returns-in-Break
returns-in-Break g c = λ whole is. c.in-Break.ensures (STEPS_ALONE - 1) whole c.args.seat.now (rw is.1 (c.begin-kind.ensures.begun whole (STEPS_ALONE - 1) is.0 refl))

pub returns-in-Continue : goal.returns-in-Continue
returns-in-Continue g c = λ whole is.
    c.finish_alone.ensures whole c.args.seat.now (c.in-Continue.ensures (STEPS_ALONE - 1) whole c.args.seat.now (rw is.1 (c.begin-kind.ensures.begun whole (STEPS_ALONE - 1) is.0 refl)))
