use Rattle.std.proofs.Common.{IsSome, Option, subst, sym}
use Rattle.channel_futures.specs.Outgoing.{end_of}
use Rattle.channel_futures.proofs.Polled.{if_ready, on_pending, may_send, sent_same}
use Rattle.channel_futures.proofs.outgoing.SendOneFuture.TheImpl.Goals as goal

pub poll-tells : goal.poll-tells
poll-tells g x c = record {
  value = if_ready c.result (λ answer h. may_send (end_of c.args.self.now.outgoing.now) (end_of c.new.self.now.outgoing.now) c.args.self.now.value answer h.0) c.ensures.sent;
  again = on_pending c.result (λ w. subst (λ (o : Option _). IsSome o) (sym w.1) c.requires) c.ensures.waited;
  same = on_pending c.result (λ w answer h. sent_same _ _ _ _ answer w.1 w.0 h) c.ensures.waited;
  registered = c.ensures.registered;
  kept = c.ensures.kept;
}
