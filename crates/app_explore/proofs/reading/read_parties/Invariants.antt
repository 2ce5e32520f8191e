use Rattle.std.proofs.Common.{◌≡◌, length, vec_len}
use Rattle.app_explore.proofs.Programs.{IsReadTo}
use Rattle.app_explore.proofs.reading.read_parties.Given as goal

-- the parties so far, and the lines that are left
abbrev pub invariant-loop-line : goal.invariant-loop-line
invariant-loop-line g l = record { so_far : IsReadTo l.fn.text l.rest l.parties.items; count : vec_len l.parties ≡ length l.parties.items }

abbrev pub decreases-loop-line : goal.decreases-loop-line
decreases-loop-line g l = length l.rest
