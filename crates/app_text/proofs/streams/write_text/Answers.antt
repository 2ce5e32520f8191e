use Rattle.std.proofs.Common.{rules, tests}
use Rattle.app_text.proofs.{Writing.writes-more, Writing.writes-kept, Writing.slice_from, streams.write_text.Goals.in-Ok, streams.write_text.Goals.in-Err}
use Rattle.app_text.proofs.streams.write_text.Goals as goal

pub loop-preserved : goal.loop-preserved
loop-preserved g c = elim c.match-write.branch [
  | in-Ok w ↦ rw (w.rest-is, slice_from w.in-Ok.count c.loop.rest.now) (writes-more _ (g.O.Write.contents c.loop.output) _ c.args.text.now c.loop.rest.now _ c.loop.invariant (rw w.in-Ok.is at c.write.ensures.bytes))
  | in-Err w ↦ rw w.rest-is (writes-kept _ (g.O.Write.contents c.loop.output) _ c.args.text.now c.loop.rest.now c.loop.invariant (rw w.in-Err.is at c.write.ensures.bytes))
]

pub returns-in-Err-2-clause-begun : goal.returns-in-Err-2-clause-begun
returns-in-Err-2-clause-begun g c = search (rules, tests)

pub loop-init : goal.loop-init
loop-init g c = search (rules, tests)
