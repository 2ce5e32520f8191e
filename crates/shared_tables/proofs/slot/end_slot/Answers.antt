use Rattle.std.proofs.Common.{arith}
use Rattle.shared_tables.proofs.SlotFinish.{slot_ends}
use Rattle.shared_tables.proofs.slot.end_slot.Goals as goal

pub returns : goal.returns
returns g c = slot_ends _ c.args.seat.id c.args.seat.me.0 _ _ c.word-lock.result c.take-item.result c.requires.alone c.close_with-closed.ensures.values.2 c.word-lock.ensures c.take-item.ensures.value

pub close_with-closed-requires : goal.close_with-closed-requires
close_with-closed-requires g c = c.requires.table

pub word-lock-requires : goal.word-lock-requires
word-lock-requires g c =
    let e = c.close_with-closed.ensures in let count = e.counts.0 in let sized = c.args.slot.sized.0 in
    (omega (arith, count, sized), e.values.0)
