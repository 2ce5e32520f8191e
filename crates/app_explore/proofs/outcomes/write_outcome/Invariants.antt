use Rattle.std.proofs.Common.{◌≡◌, ◌++◌, take, string_bytes}
use Rattle.app_explore.specs.Outcomes.{parties_text}
use Rattle.app_explore.proofs.outcomes.write_outcome.Given as goal

-- the replies of the parties so far are written
abbrev pub invariant-loop-party : goal.invariant-loop-party
invariant-loop-party g l = string_bytes l.text ≡ string_bytes l.fn.text ++ parties_text 0 (take l.party-counter l.replies)
