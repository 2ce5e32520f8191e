use Rattle.std.proofs.Common.{◌≡◌, ◌++◌, take, string_bytes}
use Rattle.app_explore.specs.Outcomes.{replies_text}
use Rattle.app_explore.proofs.outcomes.write_replies.Given as goal

-- the replies so far are written
abbrev pub invariant-loop-index : goal.invariant-loop-index
invariant-loop-index g l = string_bytes l.text ≡ string_bytes l.fn.text ++ replies_text (take l.index l.replies)
