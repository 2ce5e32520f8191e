use Rattle.std.proofs.Common.{◌≡◌, ◌+◌, ◌<◌, ◌≤◌, ◌++◌, length, map, vec_len}
use Rattle.std.specs.List.{AllByRecursion}
use Rattle.app_text.specs.Lines.{lines_of}
use Rattle.app_check.specs.Histories.{event_text, idle, party_of, Lead}
use Rattle.app_check.proofs.reading.read_history.Given as goal

-- the lines read so far, and those that are left
abbrev pub invariant-loop-line : goal.invariant-loop-line
invariant-loop-line g l = record {
  lines : lines_of l.fn.text ≡ map event_text l.events.items ++ lines_of l.rest;
  few : vec_len l.events + length l.rest ≤ length l.fn.text;
  leads : Lead idle l.events.items l.calls;
  enough : AllByRecursion (λ e. party_of e < l.parties) l.events.items;
}

abbrev pub decreases-loop-line : goal.decreases-loop-line
decreases-loop-line g l = length l.rest
