use Rattle.history_check.proofs.{Deciding.raised, Deciding.lowered, decide.narrowed.Goals.in-Order, decide.narrowed.Goals.in-Nothing, decide.narrowed.Goals.in-TooMany}
use Rattle.history_check.proofs.decide.narrowed.Goals as goal

pub returns : goal.returns
returns g c =
    let old = c.args.bounds in
    elim c.match-branch-2.branch [
      | in-Order w ↦
          let order = rw w.in-Order.is at c.in_ok-taken.ensures in
          rw w.result-is (raised c.args.rules c.args.parties c.args.events.now old.legal old.not_legal c.args.middle c.requires.bounds c.requires.above c.requires.below (w.in-Order.field-0.items, order))
      | in-Nothing w ↦
          let not_legal = rw w.in-Nothing.is at c.in_ok-taken.ensures in
          rw w.result-is (lowered c.args.rules c.args.parties c.args.events.now old.legal old.not_legal c.args.middle c.requires.bounds c.requires.above c.requires.below not_legal)
      | in-TooMany w ↦ rw w.result-is tt
    ]
