use Rattle.std.specs.Slice.Iter.{chunks_rest}
use Rattle.app_command.proofs.Playing.{PlaysSo}
use Rattle.app_command.proofs.script.play.Given as goal

-- the calls so far were played
abbrev pub invariant-loop-part : goal.invariant-loop-part
invariant-loop-part g l = record {
  can : (goal.iterator-loop-part g).can_next l.part-iterator;
  finite : (goal.iterator-loop-part g).is_finite l.part-iterator;
  plays : PlaysSo l.fn.queue l.fn.calls (chunks_rest l.part-iterator) l.queue l.fn.pieces l.pieces (g.O.Write.contents l.fn.output) (g.O.Write.contents l.output);
}
