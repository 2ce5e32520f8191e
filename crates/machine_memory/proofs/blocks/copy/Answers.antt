use Rattle.std.proofs.Common.{◌+◌, ap, ◌∙◌, vec_len}
use Rattle.std.proofs.lemmas.Result.{IfOk-from_err}
use Rattle.queue_laws.proofs.Common.Filling.{one_more}
use Rattle.machine_memory.proofs.Filling.{room_beyond, room_within, copied_more, all_taken}
use Rattle.machine_memory.proofs.blocks.copy.Goals as goal

pub returns-in_err-copies-clause-blocks : goal.returns-in_err-copies-clause-blocks
returns-in_err-copies-clause-blocks g c = IfOk-from_err c.from_residual.result _ c.from_residual.ensures.0

pub returns-in_err-copies-clause-room : goal.returns-in_err-copies-clause-room
returns-in_err-copies-clause-room g c = IfOk-from_err c.from_residual.result _ c.from_residual.ensures.0

pub returns-in_err-copy_one-clause-blocks : goal.returns-in_err-copy_one-clause-blocks
returns-in_err-copy_one-clause-blocks g c = IfOk-from_err c.from_residual-in_err-copy_one.result _ c.from_residual-in_err-copy_one.ensures.0

pub returns-in_err-copy_one-clause-room : goal.returns-in_err-copy_one-clause-room
returns-in_err-copy_one-clause-room g c = IfOk-from_err c.from_residual-in_err-copy_one.result _ c.from_residual-in_err-copy_one.ensures.0

pub loop-number-init : goal.loop-number-init
loop-number-init g c = let made = c.in_ok-copies.ensures in record { items = made.items; len = made.len; room = made.exact ∙ ap (λ n. n + 1) c.len.ensures }

pub push_reserved-requires : goal.push_reserved-requires
push_reserved-requires g c =
    let i = c.loop-number.invariant in let end = c.len-number-end in room_within _ _ c.loop-number.number end.result (vec_len c.args.blocks.now) end.ensures i.len i.room c.loop-number-test.true

pub loop-number-preserved : goal.loop-number-preserved
loop-number-preserved g c =
    let i = c.loop-number.invariant in let p = c.push_reserved.ensures in let blocks = c.args.blocks.now in let end = c.len-number-end in
    record {
      items = copied_more blocks.items c.loop-number.copies.items c.push_reserved.new.self.items end.result (vec_len blocks) c.loop-number.number c.in_ok-copy_one.field-0 c.index.result.now end.ensures blocks.ok.0 c.loop-number-test.true (c.in_ok-copy_one.ensures ∙ c.index.ensures) p.items i.items;
      len = one_more (vec_len c.push_reserved.new.self) (vec_len c.loop-number.copies) c.loop-number.number p.len i.len;
      room = p.capacity ∙ i.room;
    }

pub returns-clause-blocks : goal.returns-clause-blocks
returns-clause-blocks g c =
    let blocks = c.args.blocks.now in let end = c.len-number-end in
    c.loop-number.invariant.items ∙ all_taken blocks.items end.result (vec_len blocks) c.loop-number.number end.ensures blocks.ok.0 c.loop-number-test.false

pub returns-clause-room : goal.returns-clause-room
returns-clause-room g c =
    let i = c.loop-number.invariant in let end = c.len-number-end in room_beyond _ _ c.loop-number.number end.result (vec_len c.args.blocks.now) end.ensures i.len i.room c.loop-number.auto.number-end
