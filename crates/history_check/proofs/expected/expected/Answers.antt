use Rattle.std.proofs.{Common.arith, lemmas.List.length_push}
use Rattle.history_check.proofs.Expecting.{one_more}
use Rattle.history_check.proofs.expected.expected.Goals as goal

pub loop-party-preserved : goal.loop-party-preserved
loop-party-preserved g c =
    let xs = c.loop-party.replies.items in
    let y = c.next_reply.result in
    let count = c.loop-party.invariant.0 in
    let more = length_push xs y in
    rw c.in_ok-push.ensures.items (omega (arith, more, count), one_more xs c.args.events.now c.loop-party.party y count c.next_reply.ensures c.loop-party.invariant.1)
