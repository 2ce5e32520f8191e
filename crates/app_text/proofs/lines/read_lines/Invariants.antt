use Rattle.std.proofs.Common.{◌≡◌, ◌+◌, ◌≤◌, ◌++◌, length, map, vec_len}
use Rattle.std.specs.List.{AllByRecursion}
use Rattle.app_text.specs.Lines.{lines_of}
use Rattle.app_text.proofs.lines.read_lines.Given as goal

-- the lines read so far, and those that are left
abbrev pub invariant-loop-line : goal.invariant-loop-line
invariant-loop-line g l = record {
  read : AllByRecursion g.L.Line.is_value l.values.items;
  lines : lines_of l.fn.text ≡ map g.L.Line.text_of l.values.items ++ lines_of l.rest;
  few : vec_len l.values + length l.rest ≤ length l.fn.text;
}

abbrev pub decreases-loop-line : goal.decreases-loop-line
decreases-loop-line g l = length l.rest
