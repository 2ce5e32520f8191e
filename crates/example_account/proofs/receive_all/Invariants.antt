use Rattle.channel_account.specs.Told.{HasReceived}
use Rattle.example_account.proofs.receive_all.Given as goal

-- what was received is in the list
abbrev pub invariant-loop : goal.invariant-loop
invariant-loop g l = HasReceived l.fn.receiver l.values.items l.receiver
