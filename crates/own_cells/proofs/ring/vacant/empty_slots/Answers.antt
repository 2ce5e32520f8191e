use Rattle.std.proofs.Common.{None, ap, ◌∙◌}
use Rattle.std.{specs.Prelude.replicate, proofs.lemmas.Result.IfOk-from_err}
use Rattle.queue_laws.proofs.Common.Filling.{room_left, at_end, one_more, replicated_more}
use Rattle.own_cells.proofs.ring.vacant.empty_slots.Goals as goal

pub returns-in_err-slots : goal.returns-in_err-slots
returns-in_err-slots g c = IfOk-from_err c.from_residual.result _ c.from_residual.ensures.0

pub loop-slot-init : goal.loop-slot-init
loop-slot-init g c = let made = c.in_ok-slots.ensures in record { empty = made.items; len = made.len; room = made.exact }

pub push_reserved-requires : goal.push_reserved-requires
push_reserved-requires g c = let i = c.loop-slot.invariant in room_left _ _ _ _ i.len i.room c.loop-slot-test.true

pub loop-slot-preserved : goal.loop-slot-preserved
loop-slot-preserved g c =
    let i = c.loop-slot.invariant in let p = c.push_reserved.ensures in
    record { empty = replicated_more _ _ c.loop-slot._slot None p.items i.empty; len = one_more _ _ _ p.len i.len; room = p.capacity ∙ i.room }

pub returns : goal.returns
returns g c = c.loop-slot.invariant.empty ∙ ap (λ n. replicate n None) (at_end c.loop-slot._slot c.args.count c.loop-slot.auto._slot-end c.loop-slot-test.false)
