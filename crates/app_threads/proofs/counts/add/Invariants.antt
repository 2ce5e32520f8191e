use Rattle.std.proofs.Common.{◌≡◌, ℕ, ◌+◌, ◌<◌, ◌≤◌, length, get_or}
use Rattle.app_threads.proofs.counts.add.Given as goal

-- the counts below this index are added up, the others are as they were
abbrev pub invariant-loop-index : goal.invariant-loop-index
invariant-loop-index l = record {
  length : length l.counts ≡ length l.fn.counts;
  below : (x : ℕ) → x < l.index → get_or l.counts x 0 ≡ get_or l.fn.counts x 0 + get_or l.more x 0;
  above : (x : ℕ) → l.index ≤ x → get_or l.counts x 0 ≡ get_or l.fn.counts x 0;
}
