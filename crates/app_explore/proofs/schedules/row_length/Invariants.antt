use Rattle.std.proofs.Common.{◌≡◌, drop}
use Rattle.app_explore.specs.Schedules.{row_length}
use Rattle.app_explore.proofs.schedules.row_length.Given as goal

-- the moves so far are steps of the party that do not end its call
abbrev pub invariant-loop-index : goal.invariant-loop-index
invariant-loop-index g l = row_length 0 l.party l.moves ≡ row_length l.index l.party (drop l.index l.moves)
