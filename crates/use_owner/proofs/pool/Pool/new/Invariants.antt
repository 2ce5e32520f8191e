use Rattle.std.proofs.Common.{◌≡◌, false, Some, None}
use Rattle.use_owner.specs.Pool.{numbers}
use Rattle.use_owner.proofs.pool.Pool.new.Given as goal

-- the places so far are in the ring
abbrev pub invariant-loop-place : goal.invariant-loop-place
invariant-loop-place g l = l.ring.queue ≡ record { items = numbers l.place; cap = Some l.count; closed = false; coming = None; accepted = l.place }
