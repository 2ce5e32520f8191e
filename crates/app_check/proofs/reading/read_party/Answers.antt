use Rattle.app_check.proofs.ReadEvents.{no_number_whole, no_number_first, number_first}
use Rattle.app_check.proofs.reading.read_party.Goals as goal

pub returns-in_err-digits : goal.returns-in_err-digits
returns-in_err-digits c = rw c.from_residual.ensures (no_number_whole c.args.line.now c.in_err-digits.ensures)

pub returns-in_err-party : goal.returns-in_err-party
returns-in_err-party c = rw c.from_residual-in_err-party.ensures (no_number_first c.args.line.now _ _ c.in_ok-digits.ensures c.in_err-party.ensures)

pub returns : goal.returns
returns c = let party = c.in_ok-party.ensures in (party.0, number_first c.args.line.now _ _ c.in_ok-party.party c.in_ok-digits.ensures party.1)
