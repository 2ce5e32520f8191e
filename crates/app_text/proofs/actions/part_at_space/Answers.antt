use Rattle.app_text.proofs.Parting.{parted_at, parted_nowhere}
use Rattle.app_text.proofs.actions.part_at_space.Goals as goal

pub returns : goal.returns
returns c = parted_at c.args.line.now c.in_ok-end.end c.in_ok-end.ensures

pub returns-in_err-end : goal.returns-in_err-end
returns-in_err-end c = rw c.from_residual.ensures (parted_nowhere c.args.line.now c.in_err-end.ensures)
