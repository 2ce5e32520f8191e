use Rattle.std.proofs.Common.{Some, refl, ap, ◌∙◌}
use Rattle.counted_channel.proofs.Polls.{sent_then, waited_again}
use Rattle.channel_futures.proofs.outgoing.poll_at.Goals as goal

pub returns-in-Answered-poll_send-clause-answered : goal.returns-in-Answered-poll_send-clause-answered
returns-in-Answered-poll_send-clause-answered g c = (
  sent_then c.args.sender.now c.poll_send.new.sender c.poll_send-2.new.sender _ _ _ c.in-Full.ensures.polls.0 c.in-Full.ensures.polls.1 c.in-Answered-poll_send.ensures.polls,
  refl,
)

pub returns-in-Busy-poll_send-clause-waited : goal.returns-in-Busy-poll_send-clause-waited
returns-in-Busy-poll_send-clause-waited g c = (
  waited_again c.args.sender.now c.poll_send.new.sender c.poll_send-2.new.sender c.in-Full.ensures.polls.0 c.in-Busy-poll_send.ensures.polls.0,
  ap Some (c.in-Busy-poll_send.ensures.polls.1 ∙ c.in-Full.ensures.polls.1),
)

pub returns-in-Full-poll_send-clause-waited : goal.returns-in-Full-poll_send-clause-waited
returns-in-Full-poll_send-clause-waited g c = (
  waited_again c.args.sender.now c.poll_send.new.sender c.poll_send-2.new.sender c.in-Full.ensures.polls.0 c.in-Full-poll_send.ensures.polls.0,
  ap Some (c.in-Full-poll_send.ensures.polls.1 ∙ c.in-Full.ensures.polls.1),
)
