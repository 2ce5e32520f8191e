-- Calls of an iterator's `next` stay with its queue.
use Rattle.std.proofs.Common.{[], ◌∷◌, sym, ap, ◌∙◌}
use Rattle.exclusive_queue.specs.{declared.exclusive.iter.TryIter.TryIter, Iterating.iter_lender, Iterating.IterKeepsAlong}

pub iter_keeps_along : {T A : Type 0} (first : TryIter T A) → IterKeepsAlong first
iter_keeps_along first [] later run = ap iter_lender (sym run)
iter_keeps_along first (item ∷ items) later run = iter_keeps_along run.0 items later run.2 ∙ run.1.1
