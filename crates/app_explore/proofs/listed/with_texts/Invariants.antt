use Rattle.std.proofs.Common.{◌≡◌, ◌++◌, map}
use Rattle.std.specs.{List.All, Vec.Iter.into_iter_items}
use Rattle.app_explore.specs.Listed.{HasText, item_of}
use Rattle.app_explore.proofs.listed.with_texts.Given as goal

-- those so far have their texts
abbrev pub invariant-loop-item : goal.invariant-loop-item
invariant-loop-item g l =
    (goal.iterator-loop-item g).can_next l.item-iterator × (goal.iterator-loop-item g).is_finite l.item-iterator × (l.yielded ++ into_iter_items l.item-iterator ≡ l.fn.items.items) × (map item_of l.all.items ≡ l.yielded)
    × All (HasText g.X.Told.text_of) l.all.items
