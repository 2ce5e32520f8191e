use Rattle.std.proofs.Common.{◌≡◌, ◌++◌, map, take, string_bytes}
use Rattle.app_explore.specs.{Listed.bytes_of, Listed.listed_tail, Listings.outcome_lines, Tails.tail_line}
use Rattle.app_explore.proofs.listing.write_lines.Given as goal

-- the lines of the outcomes so far are written
abbrev pub invariant-loop-index : goal.invariant-loop-index
invariant-loop-index g l = string_bytes l.text ≡ string_bytes l.fn.text ++ outcome_lines 1 (map bytes_of (take l.index l.fn.outcomes)) (map tail_line (map listed_tail (take l.index l.fn.outcomes)))
