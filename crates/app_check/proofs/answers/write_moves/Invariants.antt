use Rattle.std.proofs.Common.{◌≡◌, ◌≤◌, ◌+◌, ◌++◌, length, string_bytes}
use Rattle.app_check.specs.Orders.{moves_text}
use Rattle.app_check.proofs.answers.write_moves.Given as goal

-- what is written, and the lines of the moves that are left
abbrev pub invariant-loop-taken : goal.invariant-loop-taken
invariant-loop-taken g l = record {
  written : string_bytes l.text ++ moves_text l.after l.rest ≡ string_bytes l.fn.text ++ moves_text 0 l.fn.moves;
  counted : l.after + length l.rest ≤ length l.fn.moves;
}

abbrev pub decreases-loop-taken : goal.decreases-loop-taken
decreases-loop-taken g l = length l.rest
