use Rattle.std.proofs.Common.{◌-◌}
use Rattle.queue_laws.specs.Common.Vocabulary.{STEPS_ALONE}
use Rattle.shared_calls.proofs.Filling.{is_filled, filled_as}
use Rattle.shared_calls.proofs.pausing.leave_block_end.Goals as goal

pub pass_block_end-requires-clause-on_way : goal.pass_block_end-requires-clause-on_way
pass_block_end-requires-clause-on_way g c = (STEPS_ALONE - 1, c.requires.left)

pub fill-requires : goal.fill-requires
fill-requires g c =
    let h = c.requires.left in
    let told = c.in-Break.ensures (STEPS_ALONE - 1) h.0 h.1 h.2 in
    record { fits = is_filled c.in-Break.reply c.pass_block_end.new.carried told.0 told.1 }

pub returns-in-Break-clause-left : goal.returns-in-Break-clause-left
returns-in-Break-clause-left g c = λ call first on.
    let told = c.in-Break.ensures (STEPS_ALONE - 1) call first on in
    let same = filled_as c.in-Break.reply c.pass_block_end.new.carried told.0 told.1 c.fill.result c.fill.ensures in
    rw same at told.2

pub returns-in-Continue-clause-left : goal.returns-in-Continue-clause-left
returns-in-Continue-clause-left g c = λ call first on. c.in-Continue.ensures (STEPS_ALONE - 1) call first on
