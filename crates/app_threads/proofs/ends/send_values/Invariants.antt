use Rattle.std.proofs.Common.{◌≡◌}
use Rattle.app_threads.specs.Works.{TookNothing}
use Rattle.app_threads.proofs.ends.send_values.Given as goal

-- the sender is still the channel's, and has taken nothing
abbrev pub invariant-loop-value : goal.invariant-loop-value
invariant-loop-value g l = (l.sender.counts ≡ l.fn.sender.counts) × TookNothing l.fn.sender.party l.sender.party
