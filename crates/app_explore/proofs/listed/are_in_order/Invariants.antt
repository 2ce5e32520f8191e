use Rattle.std.proofs.Common.{◌≡◌, Less, map, nat_cmp}
use Rattle.std.specs.{Cmp.Lexicographic.slice_cmp, List.AllAdjacentBelow}
use Rattle.app_explore.specs.Listed.{bytes_of}
use Rattle.app_explore.proofs.listed.are_in_order.Given as goal

-- those up to here are in order
abbrev pub invariant-loop-index : goal.invariant-loop-index
invariant-loop-index g l = AllAdjacentBelow (λ x y. slice_cmp nat_cmp x y ≡ Less) (map bytes_of l.fn.all) l.index
