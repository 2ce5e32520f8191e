use Rattle.app_text.proofs.Parting.{no_line_whole, no_line_numbered, no_line_acting, line_read}
use Rattle.app_text.proofs.actions.ReplayLineLine.parse.Goals as goal

pub returns-in_err-digits : goal.returns-in_err-digits
returns-in_err-digits c = rw c.from_residual.ensures (no_line_whole c.args.line.now c.in_err-digits.ensures)

pub returns-in_err-party : goal.returns-in_err-party
returns-in_err-party c = rw c.from_residual-in_err-party.ensures (no_line_numbered c.args.line.now _ _ c.in_ok-digits.ensures c.in_err-party.ensures)

pub returns-in_err-action : goal.returns-in_err-action
returns-in_err-action c = rw c.from_residual-in_err-action.ensures (no_line_acting c.args.line.now _ _ c.in_ok-digits.ensures c.in_err-action.ensures)

pub returns : goal.returns
returns c = ((c.in_ok-party.ensures.0, c.in_ok-action.ensures.0), line_read c.args.line.now _ _ _ c.in_ok-digits.ensures c.in_ok-party.ensures.1 c.in_ok-action.ensures.1)
