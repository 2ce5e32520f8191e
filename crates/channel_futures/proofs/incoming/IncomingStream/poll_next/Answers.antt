use Rattle.channel_futures.proofs.incoming.IncomingStream.poll_next.Goals as goal

pub returns-in-Ready-clause-received : goal.returns-in-Ready-clause-received
returns-in-Ready-clause-received g c = ((c.in-Ready.answer, c.ok.ensures.value, c.in-Ready.ensures.received.0), c.in-Ready.ensures.received.1)
