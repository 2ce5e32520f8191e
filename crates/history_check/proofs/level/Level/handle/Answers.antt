use Rattle.std.proofs.Common.{◌∙◌, ◌∷◌, inl, inr}
use Rattle.history_check.proofs.level.Level.handle.Goals as goal
use Rattle.history_check.{specs.Legal.recorded, proofs.Spreading.keeps_it}

pub returns-then-record-clause-handles : goal.returns-then-record-clause-handles
returns-then-record-clause-handles g c =
    λ yes es known.
    let may = c.record.ensures.yes c.if-record.true in
    (c.settle.new.stage, c.in_ok-settle.ensures (c.args.event ∷ es) known, inl (may.0, keeps_it c.add.new.self es (recorded c.settle.new.stage c.args.event) (rw (c.set_last.ensures ∙ may.1) at c.in_ok-add.ensures.has)))

pub returns-clause-handles : goal.returns-clause-handles
returns-clause-handles g c = λ yes es known. (c.settle.new.stage, c.in_ok-settle.ensures (c.args.event ∷ es) known, inr (c.record.ensures.no c.if-record.false, rw (c.record.ensures.kept c.if-record.false) at (c.in_ok-spread_each.ensures.has yes (c.args.event ∷ es) known)))
