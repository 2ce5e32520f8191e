use Rattle.channel_account.specs.Told.{HasSent}
use Rattle.example_account.proofs.send_all.Given as goal

-- what was yielded was sent
abbrev pub invariant-loop-value : goal.invariant-loop-value
invariant-loop-value g l = HasSent l.fn.sender l.yielded l.sender
