use Rattle.std.proofs.Common.{◌≡◌, ◌∷◌, [], ◌++◌, length, replicate, None, ap, ◌∙◌, arith}
use Rattle.std.proofs.lemmas.{List.length-replicate, List.replicate_more, Result.IfOk-from_err}
use Rattle.use_shared.proofs.tasks.placing.room.Goals as goal

pub returns-in_err-clone : goal.returns-in_err-clone
returns-in_err-clone g c = IfOk-from_err c.from_residual.result _ c.from_residual.ensures.0

pub returns-in_err-places : goal.returns-in_err-places
returns-in_err-places g c = IfOk-from_err c.from_residual-in_err-places.result _ c.from_residual-in_err-places.ensures.0

pub loop-init : goal.loop-init
loop-init g c = (c.in_ok-places.ensures.items, omega (arith, c.in_ok-places.ensures.exact))

pub push_reserved-requires : goal.push_reserved-requires
push_reserved-requires g c =
    let before = c.loop.invariant in
    let len = c.loop.places.ok.0 ∙ (ap length before.0 ∙ length-replicate c.loop.counter None) in
    let room = before.1 in
    omega (arith, len, room, c.loop-test.true)

pub loop-preserved : goal.loop-preserved
loop-preserved g c =
    let before = c.loop.invariant in
    let room = before.1 in (
      c.push_reserved.ensures.items ∙ (ap (λ l. l ++ None ∷ []) before.0 ∙ replicate_more c.loop.counter None),
      omega (arith, room, c.push_reserved.ensures.capacity),
    )

pub returns-in_err-clone-2 : goal.returns-in_err-clone-2
returns-in_err-clone-2 g c = IfOk-from_err c.from_residual-in_err-clone-2.result _ c.from_residual-in_err-clone-2.ensures.0

pub returns-in_err-outputs : goal.returns-in_err-outputs
returns-in_err-outputs g c = IfOk-from_err c.from_residual-in_err-outputs.result _ c.from_residual-in_err-outputs.ensures.0

pub returns : goal.returns
returns g c =
    let end : c.loop.counter ≡ c.args.count = omega (arith, c.loop-test.false, c.loop.auto.counter-end) in
    (c.loop.invariant.0 ∙ ap (λ n. replicate n None) end, c.in_ok-outputs.ensures.items, omega (arith, c.in_ok-outputs.ensures.exact))
