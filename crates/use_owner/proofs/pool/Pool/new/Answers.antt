use Rattle.std.proofs.Common.{◌≤◌, inl, inr, arith}
use Rattle.std.proofs.lemmas.Bool.Decides.{leb_tells}
use Rattle.queue_steps.specs.declared.sizes.TheConstants.{MAX_CAPACITY}
use Rattle.use_owner.proofs.PoolRings.{has_room, pool_made}
use Rattle.use_owner.proofs.pool.Pool.new.Goals as goal

pub unreachable-requires : goal.unreachable-requires
unreachable-requires g c =
    let most : c.args.count ≤ MAX_CAPACITY = elim (leb_tells c.args.count MAX_CAPACITY) [ inl h ↦ h.1 | inr h ↦ (let no = c.in_ok-ring.ensures.limited h.1 in cc) ] in
    let back = rw c.in_default.is at c.push.ensures.back in
    has_room c.loop-place.ring c.push.new.self c.args.count c.loop-place.place c.push.result c.in_default.field-0 c.in_default.is c.loop-place.invariant c.loop-place-test.true most back c.push.ensures.full c.push.ensures.closed c.push.ensures.memory

pub invariant_of-result : goal.invariant_of-result
invariant_of-result g c = pool_made c.loop-place.ring c.args.count c.loop-place.place c.loop-place.invariant (omega arith) c.requires
