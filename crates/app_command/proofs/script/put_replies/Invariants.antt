use Rattle.std.proofs.Common.{take, ◌++◌}
use Rattle.app_text.specs.{Replies.replies_text, Streams.LeavesRest}
use Rattle.app_command.proofs.script.put_replies.Given as goal

-- the replies so far are put
abbrev pub invariant-loop-reply : goal.invariant-loop-reply
invariant-loop-reply g l = LeavesRest (g.O.Write.contents l.fn.output) (g.O.Write.contents l.output) (l.fn.pieces ++ replies_text (take l.reply-index l.replies)) l.pieces
