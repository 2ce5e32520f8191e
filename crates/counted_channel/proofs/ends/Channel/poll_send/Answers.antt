use Rattle.counted_channel.proofs.{Polls.end_calls, Polls.end_waits, Polls.saw_full, Polls.full_back, ends.Channel.poll_send.Goals.in-Done, ends.Channel.poll_send.Goals.in-Closed, ends.Channel.poll_send.Goals.in-NoMemory, ends.Channel.poll_send.Goals.in-Full, ends.Channel.poll_send.Goals.in-Busy}
use Rattle.counted_channel.proofs.ends.Channel.poll_send.Goals as goal

pub returns-clause-polls : goal.returns-clause-polls
returns-clause-polls g c =
    let d = c.args.sender.now in let v = c.sender.inside.party in let p = c.poll_push.new.party in
    let t = c.sender.inside.place.table_id in let s = c.sender.inside.place.me.0 in
    elim c.match-poll_push.branch [
      | in-Done w ↦ rw w.result-is (end_calls 0 d v p t s _ _ c.sender.view_is w.in-Done.ensures.polls)
      | in-Closed w ↦ rw w.result-is (end_calls 0 d v p t s _ _ c.sender.view_is w.in-Closed.ensures.polls)
      | in-NoMemory w ↦ rw w.result-is (end_calls 0 d v p t s _ _ c.sender.view_is w.in-NoMemory.ensures.polls)
      | in-Full w ↦ rw w.result-is (end_waits 0 d v p t s c.sender.view_is (saw_full v p _ _ w.in-Full.ensures.polls), full_back v p _ _ w.in-Full.ensures.polls)
      | in-Busy w ↦ rw w.result-is (end_waits 0 d v p t s c.sender.view_is w.in-Busy.ensures.polls.0, w.in-Busy.ensures.polls.1)
    ]
