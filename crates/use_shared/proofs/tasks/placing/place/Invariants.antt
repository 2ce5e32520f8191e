use Rattle.std.proofs.Common.{◌≡◌, ◌++◌, length}
use Rattle.use_shared.proofs.Places.{Placed}
use Rattle.use_shared.proofs.tasks.placing.place.Given as goal

-- the outputs that have come are in their places
abbrev pub invariant-loop-done : goal.invariant-loop-done
invariant-loop-done g l =
    (goal.iterator-loop-done g).can_next l.done-iterator × (goal.iterator-loop-done g).is_finite l.done-iterator × (l.yielded ++ l.done-iterator ≡ l.fn.finished.queue.items)
    × (length l.places.items ≡ length g.K.Batch.outcomes) × Placed (λ d. d.number) g.K.Batch.outcomes l.places.items l.yielded
