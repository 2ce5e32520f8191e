-- Calls of an iterator's `next` stay with its receiver.
use Rattle.std.proofs.Common.{[], ◌∷◌, sym, ap, ◌∙◌}
use Rattle.channel_handle.specs.{declared.iter.Iter.Iter, declared.iter.TryIter.TryIter, Iter.iter_lender, Iter.IterKeepsAlong, Iter.try_iter_lender, Iter.TryIterKeepsAlong}

pub iter_keeps_along : {T R A : Type 0} (first : Iter T R A) → IterKeepsAlong first
iter_keeps_along first [] later run = ap iter_lender (sym run)
iter_keeps_along first (item ∷ items) later run = iter_keeps_along run.0 items later run.2 ∙ run.1.1

pub try_iter_keeps_along : {T R A : Type 0} (first : TryIter T R A) → TryIterKeepsAlong first
try_iter_keeps_along first [] later run = ap try_iter_lender (sym run)
try_iter_keeps_along first (item ∷ items) later run = try_iter_keeps_along run.0 items later run.2 ∙ run.1.1
