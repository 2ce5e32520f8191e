use Rattle.counted_channel.specs.{Channel.IsEndOf, Polling.PopEnds}
use Rattle.counted_channel.proofs.ends.Channel.end_polling.Given as goal

abbrev pub invariant-loop : goal.invariant-loop
invariant-loop g l = IsEndOf l.receiver.end l.self × PopEnds l.fn.receiver l.receiver
