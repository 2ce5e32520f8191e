use Rattle.std.proofs.{Common.rules, lemmas.List.take_more}
use Rattle.app_command.proofs.Playing.{put_more, put_part}
use Rattle.app_command.proofs.script.put_replies.Goals as goal

pub returns-in_err-put_reply : goal.returns-in_err-put_reply
returns-in_err-put_reply g c =
    search (
      rules,
      put_part c.loop-reply.reply-index c.args.replies.now _ c.args.pieces.now c.loop-reply.pieces (g.O.Write.contents c.args.output.now)
          (g.O.Write.contents c.loop-reply.output) (g.O.Write.contents c.put_reply.new.output) c.loop-reply.invariant (take_more _ _ _ c.loop-reply-test.true) c.in_err-put_reply.ensures.1,
    )

pub loop-reply-preserved : goal.loop-reply-preserved
loop-reply-preserved g c = put_more _ _ _ _ _ _ _ _ _ c.loop-reply.invariant (take_more _ _ _ c.loop-reply-test.true) c.in_ok-put_reply.ensures
