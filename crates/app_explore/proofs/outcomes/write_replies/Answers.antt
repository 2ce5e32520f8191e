use Rattle.std.proofs.Common.{◌<◌, length, string_bytes, Ok}
use Rattle.queue_steps.specs.declared.model.Reply.{Reply as reply}
use Rattle.app_text.specs.Replies.{reply_text}
use Rattle.app_explore.proofs.Replying.{listed_more, piece_more}
use Rattle.app_explore.proofs.outcomes.write_replies.Goals as goal

pub loop-index-preserved : goal.loop-index-preserved
loop-index-preserved g c =
    let within : c.loop-index.index < length c.args.replies.now = c.loop-index-test.true in
    let wrote = rw c.lead.ensures at c.in_ok-write.ensures.bytes in
    piece_more (string_bytes c.write.new.self) (string_bytes c.loop-index.text) (string_bytes c.args.text.now) _ _ _ wrote c.loop-index.invariant (listed_more reply_text c.args.replies.now c.loop-index.index (reply.Push (Ok tt)) within)
