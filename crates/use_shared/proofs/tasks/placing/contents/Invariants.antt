use Rattle.std.proofs.Common.{◌≡◌, ◌≤◌, ◌++◌, length, map, Some, vec_capacity}
use Rattle.std.specs.Vec.Iter.{into_iter_items}
use Rattle.use_shared.proofs.tasks.placing.contents.Given as goal

-- what was in the places so far are the outputs
abbrev pub invariant-loop-place : goal.invariant-loop-place
invariant-loop-place g l =
    (goal.iterator-loop-place g).can_next l.place-iterator × (goal.iterator-loop-place g).is_finite l.place-iterator × (l.yielded ++ into_iter_items l.place-iterator ≡ l.fn.places.items) × (map Some l.outputs.items ≡ l.yielded)
    × (length l.fn.places.items ≤ vec_capacity l.outputs)
