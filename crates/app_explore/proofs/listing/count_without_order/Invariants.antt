use Rattle.std.proofs.Common.{◌≡◌, ◌≤◌, map, take}
use Rattle.app_explore.specs.{Listed.listed_tail, Tails.without_order}
use Rattle.app_explore.proofs.listing.count_without_order.Given as goal

-- those so far are counted
abbrev pub invariant-loop-outcome : goal.invariant-loop-outcome
invariant-loop-outcome g l = record { counted : l.count ≡ without_order (map listed_tail (take l.outcome-index l.fn.outcomes)); few : l.count ≤ l.outcome-index }
