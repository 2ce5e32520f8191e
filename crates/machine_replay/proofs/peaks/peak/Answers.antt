use Rattle.std.proofs.Common.{rules, tests}
use Rattle.machine_replay.proofs.peaks.peak.Goals as goal

pub returns-else-peak-blocks : goal.returns-else-peak-blocks
returns-else-peak-blocks g c = search (rules, tests)

pub returns-then-peak-blocks : goal.returns-then-peak-blocks
returns-then-peak-blocks g c = search (rules, tests)
