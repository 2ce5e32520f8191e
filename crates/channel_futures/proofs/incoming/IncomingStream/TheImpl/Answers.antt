use Rattle.channel_futures.specs.Incoming.{end_of}
use Rattle.channel_futures.proofs.Polled.{if_ready, on_pending, pends, goes_on, received_once, received_first, received_within}
use Rattle.channel_futures.proofs.incoming.IncomingStream.TheImpl.Goals as goal

pub poll_next-tells : goal.poll_next-tells
poll_next-tells g x c = record {
  value = if_ready c.result (λ o h. received_once (end_of c.args.self.now) (end_of c.new.self.now) o h.0) c.ensures.received;
  rest = if_ready c.result (λ o h. received_first (end_of c.args.self.now) (end_of c.new.self.now) o h.0) c.ensures.received;
  goes = goes_on c.result;
  again = pends c.result tt;
  same = on_pending c.result (λ waited. received_within (end_of c.args.self.now) (end_of c.new.self.now) waited) c.ensures.waited;
  registered = c.ensures.registered;
  kept = c.ensures.kept;
}
