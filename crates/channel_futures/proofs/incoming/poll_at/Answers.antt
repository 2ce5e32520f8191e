use Rattle.counted_channel.proofs.Polls.{call_then, waited_again}
use Rattle.channel_futures.proofs.Polled.{pends}
use Rattle.channel_futures.proofs.incoming.poll_at.Goals as goal

pub returns-in-Answered-poll_recv-clause-received : goal.returns-in-Answered-poll_recv-clause-received
returns-in-Answered-poll_recv-clause-received g c = (
  call_then c.args.receiver.now.end c.poll_recv.new.receiver.end c.poll_recv-2.new.receiver.end _ _ c.in-Empty.ensures.polls.0 c.in-Answered-poll_recv.ensures.polls.0,
  c.in-Answered-poll_recv.ensures.polls.1,
)

pub returns-in-Taken-poll_recv-clause-waited : goal.returns-in-Taken-poll_recv-clause-waited
returns-in-Taken-poll_recv-clause-waited g c =
    pends c.yield_now-in-Taken-poll_recv.result
    (waited_again c.args.receiver.now.end c.poll_recv.new.receiver.end c.poll_recv-2.new.receiver.end c.in-Empty.ensures.polls.0 c.in-Taken-poll_recv.ensures.polls.0)

pub returns-in-Busy-poll_recv-clause-waited : goal.returns-in-Busy-poll_recv-clause-waited
returns-in-Busy-poll_recv-clause-waited g c =
    waited_again c.args.receiver.now.end c.poll_recv.new.receiver.end c.poll_recv-2.new.receiver.end c.in-Empty.ensures.polls.0 c.in-Busy-poll_recv.ensures.polls.0

pub returns-in-Empty-poll_recv-clause-waited : goal.returns-in-Empty-poll_recv-clause-waited
returns-in-Empty-poll_recv-clause-waited g c =
    waited_again c.args.receiver.now.end c.poll_recv.new.receiver.end c.poll_recv-2.new.receiver.end c.in-Empty.ensures.polls.0 c.in-Empty-poll_recv.ensures.polls.0
