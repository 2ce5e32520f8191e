use Rattle.std.proofs.Common.{sym, ◌∙◌}
use Rattle.channel_futures.proofs.Sent.{taken_same}
use Rattle.channel_futures.proofs.outgoing.Outgoing.poll_held.Goals as goal

pub returns-clause-taken : goal.returns-clause-taken
returns-clause-taken g c =
    taken_same c.args.self.now.owed.end c.poll_push-polled.new.self.owed.end c.in-Some.value c.args.self.now.held c.poll_push-polled.new.back c.poll_push-polled.result
    c.shows_view.ensures (sym c.take.ensures.value ∙ c.in-Some.is) c.poll_push-polled.ensures.answered c.poll_push-polled.ensures.waited
