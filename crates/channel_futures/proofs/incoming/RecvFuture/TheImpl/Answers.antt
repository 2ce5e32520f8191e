use Rattle.std.proofs.Common.{[], refl}
use Rattle.std.specs.Result.{result_ok}
use Rattle.counted_channel.proofs.Polls.{received_one, received_then}
use Rattle.channel_futures.specs.Incoming.{end_of}
use Rattle.channel_futures.proofs.Polled.{if_ready, on_pending, pends}
use Rattle.channel_futures.proofs.incoming.RecvFuture.TheImpl.Goals as goal

pub poll-tells : goal.poll-tells
poll-tells g x c = record {
  value = if_ready c.result (λ answer h. received_one (end_of c.args.self.now.incoming.now) (end_of c.new.self.now.incoming.now) answer (result_ok answer) refl h.0) c.ensures.received;
  again = pends c.result tt;
  same = on_pending c.result (λ waited o h. received_then (end_of c.args.self.now.incoming.now) (end_of c.new.self.now.incoming.now) waited [] (result_ok o) h) c.ensures.waited;
  registered = c.ensures.registered;
  kept = c.ensures.kept;
}
