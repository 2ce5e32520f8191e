use Rattle.std.proofs.Common.{◌≡◌, length}
use Rattle.app_explore.proofs.Parts.{IsCut}
use Rattle.app_explore.proofs.calls.read_calls.Given as goal

-- the calls so far, and what is left of the text
abbrev pub invariant-loop : goal.invariant-loop
invariant-loop g l = record { cut : IsCut l.fn.text l.rest l.calls.items; count : length l.calls.items ≡ l.counter }
