use Rattle.std.proofs.Common.{arith, lt_of_not-le}
use mathlib.Core.Logic.{dite}
use native.Mathlib.Decide.{dec_le}
use Rattle.shared_calls.{specs.Halts.next_at, proofs.Settling.all_done}
use Rattle.shared_calls.proofs.pausing.settle.Goals as goal

pub loop-turn-preserved : goal.loop-turn-preserved
loop-turn-preserved g c =
    let h = c.loop-turn.invariant in let e = c.in-Continue.ensures in
    record {
      going = (h.going.0, h.going.1, e.stood h.going.0 h.going.1 h.going.2);
      stood = λ call first start. e.stood call first (h.stood call first start);
      nearer = λ stays.
          let b = h.nearer stays in let d = e.nearer b.0 in
          (d.0, λ some. dite (dec_le 1 c.loop-turn.turn) (λ later. let more = b.1 (omega (arith, later)) in let less = d.2 in omega (arith, more, less, later)) (λ first. let low = lt_of_not-le first in let less = d.1 in omega (arith, low, less)));
    }

pub returns-clause-early : goal.returns-clause-early
returns-clause-early g c = λ stays.
    let b = c.loop-turn.invariant.nearer stays in let done = c.loop-turn-test.false in
    all_done (next_at c.loop-turn.left) (let less = b.1 (omega (arith, done)) in omega (arith, less, done))
