use Rattle.std.proofs.Common.{rules, refl, inl, inr}
use Rattle.std.specs.Slice.Iter.{chunks_rest}
use Rattle.app_command.specs.Runs.{IsPartFault}
use Rattle.app_command.proofs.Playing.{played_none, played_more, played_part, played_so}
use Rattle.app_command.proofs.script.play.Goals as goal

pub loop-part-init : goal.loop-part-init
loop-part-init g c = record {
  can = search rules;
  finite = tt;
  plays = played_none c.args.queue.now c.args.calls.now (chunks_rest c.into_iter-part-iterator.result) c.args.pieces.now (g.O.Write.contents c.args.output.now) (search rules);
}

pub returns-in_default : goal.returns-in_default
returns-in_default g c = (inl refl, played_so _ _ _ _ _ _ _ _ c.loop-part.invariant.plays)

pub returns-in_err-put_replies : goal.returns-in_err-put_replies
returns-in_err-put_replies g c =
    let failed = rw c.deref.ensures.value at c.in_err-put_replies.ensures in
    let why : IsPartFault _ = inr failed.0 in
    let part = played_part c.args.queue.now c.loop-part.queue c.answers.new.queue c.args.calls.now _ c.in-Some.part.now (chunks_rest c.next.new.self) c.in-Ok.replies.items c.args.pieces.now c.loop-part.pieces (g.O.Write.contents c.args.output.now)
    (g.O.Write.contents c.loop-part.output) (g.O.Write.contents c.put_replies.new.output) c.loop-part.invariant.plays c.in-Some.ensures.steps.1.0 c.in-Ok.ensures failed.1 in
    search (rules, why, part)

pub loop-part-preserved : goal.loop-part-preserved
loop-part-preserved g c =
    let put = rw c.deref.ensures.value at c.in_ok-put_replies.ensures in record {
      can = search rules;
      finite = tt;
      plays = played_more _ _ _ _ _ _ _ _ _ _ _ _ _ _ c.loop-part.invariant.plays c.in-Some.ensures.steps.1.0 c.in-Ok.ensures put;
    }
