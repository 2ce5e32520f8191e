use Rattle.std.proofs.Common.{Ok, Err, ap}
use Rattle.queue_steps.specs.declared.{model.Reply.Reply as reply, errors.PopError.PopError as pop}
use Rattle.counted_channel.{specs.Polling.PollingEnd, specs.QueueCalls.Polled.party_at, proofs.Polls.recv_answered, proofs.Polls.recv_empty, proofs.Polls.recv_busy, proofs.Polls.recv_taken}
use Rattle.counted_channel.proofs.ends.Channel.poll_recv.Goals.{in-Item, in-Closed, in-Empty, in-Taken, in-Busy}
use Rattle.counted_channel.proofs.ends.Channel.poll_recv.Goals as goal

pub returns-clause-polls : goal.returns-clause-polls
returns-clause-polls g c =
    let d = c.args.receiver.now.end in let is = ap (λ (r : PollingEnd _). r.end) c.receiver.view_is in let v = party_at c.receiver.inside.at in let a = c.poll_pop.new.at in
    let t = c.receiver.inside.place.table_id in let s = c.receiver.inside.place.me.0 in
    elim c.match-poll_pop.branch [
      | in-Item w ↦ rw w.result-is (recv_answered d v t s is a (reply.Pop (Ok w.in-Item.item)) w.in-Item.ensures.polls)
      | in-Closed w ↦ rw w.result-is (recv_answered d v t s is a (reply.Pop (Err pop.Closed)) w.in-Closed.ensures.polls)
      | in-Empty w ↦ rw w.result-is (recv_empty d v t s is a w.in-Empty.ensures.polls)
      | in-Taken w ↦ rw w.result-is (recv_taken d v t s is a w.in-Taken.ensures.polls)
      | in-Busy w ↦ rw w.result-is (recv_busy d v t s is a w.in-Busy.ensures.polls)
    ]
