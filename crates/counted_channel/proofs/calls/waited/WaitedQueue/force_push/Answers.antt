use Rattle.counted_channel.proofs.QueueCalls.Closing.{force_push_sees}
use Rattle.counted_channel.proofs.calls.waited.WaitedQueue.force_push.Goals as goal

pub owes_end-requires : goal.owes_end-requires
owes_end-requires g c = record { seen = force_push_sees c.args.party.now c.force_push.new.party c.args.value c.in-Err-Closed.back (rw c.in-Err-Closed.field-0-is at c.in-Err-Closed.ensures) }
