use Rattle.counted_channel.proofs.QueueCalls.Closing.{close_sees}
use Rattle.counted_channel.proofs.calls.waited.WaitedQueue.close.Goals as goal

pub owes_end-requires : goal.owes_end-requires
owes_end-requires g c = record { seen = close_sees c.args.party.now c.close-closed.new.party c.close-closed.result c.close-closed.ensures }
