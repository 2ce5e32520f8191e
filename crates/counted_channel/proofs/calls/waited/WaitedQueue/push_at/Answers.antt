use Rattle.counted_channel.proofs.QueueCalls.Closing.{push_sees}
use Rattle.counted_channel.proofs.calls.waited.WaitedQueue.push_at.Goals as goal

pub after_push-requires : goal.after_push-requires
after_push-requires g c = record { closed = λ back is. push_sees c.args.party.now c.answer.new.party c.args.value back (rw is at c.in-Push.ensures) }
