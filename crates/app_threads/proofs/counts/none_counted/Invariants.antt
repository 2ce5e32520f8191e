use Rattle.std.proofs.Common.{◌≡◌, replicate}
use Rattle.app_threads.proofs.counts.none_counted.Given as goal

-- so many values that have not come
abbrev pub invariant-loop : goal.invariant-loop
invariant-loop l = l.counts.items ≡ replicate l.counter 0
