use Rattle.std.proofs.Common.{◌≡◌, replicate, vec_len, ap, ◌∙◌, None}
use Rattle.std.proofs.lemmas.Result.{IfOk-from_err}
use Rattle.queue_steps.specs.declared.sizes.TheConstants.{BLOCK_SLOTS}
use Rattle.machine_memory.specs.Blocks.{blank}
use Rattle.queue_laws.proofs.Common.Filling.{room_left, at_end, one_more, replicated_more}
use Rattle.machine_memory.proofs.blocks.Block.new.Goals as goal

pub returns-in_err-places : goal.returns-in_err-places
returns-in_err-places g c = IfOk-from_err c.from_residual.result _ c.from_residual.ensures.0

pub loop-init : goal.loop-init
loop-init g c = let made = c.in_ok-places.ensures in record { items = made.items; len = made.len; room = made.exact }

pub push_reserved-requires : goal.push_reserved-requires
push_reserved-requires g c = let i = c.loop.invariant in room_left _ _ c.loop.counter BLOCK_SLOTS i.len i.room c.loop-test.true

pub loop-preserved : goal.loop-preserved
loop-preserved g c =
    let i = c.loop.invariant in let p = c.push_reserved.ensures in
    record { items = replicated_more c.loop.places.items c.push_reserved.new.self.items c.loop.counter blank p.items i.items; len = one_more (vec_len c.push_reserved.new.self) (vec_len c.loop.places) c.loop.counter p.len i.len; room = p.capacity ∙ i.room }

pub returns : goal.returns
returns g c =
    let whole : c.loop.places.items ≡ replicate BLOCK_SLOTS blank = c.loop.invariant.items ∙ ap (λ n. replicate n blank) (at_end c.loop.counter BLOCK_SLOTS c.loop.auto.counter-end c.loop-test.false) in
    λ j. record { places = whole j; next = None }
