use Rattle.std.proofs.Common.{◌-◌, ◌*◌}
use Rattle.callers.proofs.parties.+fn-receive_by_many-join+arg3+receive_by_many.Given as goal

-- the next call has one thread less, and the closure stands between the two
abbrev pub decreases-join+arg3 : goal.decreases-join+arg3
decreases-join+arg3 g l = 2 * l.others - 1

abbrev pub decreases-receive_by_many : goal.decreases-receive_by_many
decreases-receive_by_many g l = 2 * l.others
