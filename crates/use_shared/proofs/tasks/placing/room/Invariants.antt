use Rattle.std.proofs.Common.{◌≡◌, ◌≤◌, replicate, None, vec_capacity}
use Rattle.use_shared.proofs.tasks.placing.room.Given as goal

-- so many places are there
abbrev pub invariant-loop : goal.invariant-loop
invariant-loop g l = (l.places.items ≡ replicate l.counter None) × (l.fn.count ≤ vec_capacity l.places)
