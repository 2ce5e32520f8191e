use Rattle.history_check.proofs.Expecting.{past_end, past_beyond}
use Rattle.history_check.proofs.expected.note_past.Goals as goal

pub returns-then-party-replies : goal.returns-then-party-replies
returns-then-party-replies c = rw c.next_reply.ensures (past_end c.args.replies.now c.in-End.party c.in-End.field-1 c.args.rest.now (rw c.in-End.is at c.requires.noted))

pub returns-else-party-replies : goal.returns-else-party-replies
returns-else-party-replies c = past_beyond c.args.replies.now c.in-End.party c.in-End.field-1 c.args.rest.now c.if-party-replies.false (rw c.in-End.is at c.requires.noted)
