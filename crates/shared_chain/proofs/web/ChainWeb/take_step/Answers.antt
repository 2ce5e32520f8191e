use Rattle.std.proofs.Common.{rules, subst}
use Rattle.shared_chain.{specs.Turning.Operated, proofs.Steps.Turns.same_twice, proofs.Steps.Turns.can_touch, proofs.Steps.Turns.touched_at}
use Rattle.shared_chain.proofs.web.ChainWeb.take_step.Goals as goal

pub touch-requires : goal.touch-requires
touch-requires g c = search (rules, can_touch _ _ _ _ _ _ c.requires.can.1)

pub operate-requires-clause-can : goal.operate-requires-clause-can
operate-requires-clause-can g c = (touched_at c.args.call.now c.args.local.now c.args.todo c.args.op c.args.carried.now c.args.seat.now.sitter _ _ c.requires.can.1 c.touch.ensures.touched).can

pub returns : goal.returns
returns g c =
    let h = touched_at c.args.call.now c.args.local.now c.args.todo c.args.op c.args.carried.now c.args.seat.now.sitter _ _ c.requires.can.1 c.touch.ensures.touched in (
      same_twice c.args.seat.now c.touch.new.seat c.operate.new.seat c.operate.ensures.same c.touch.ensures.same,
      h.handed,
      subst (λ z. Operated z c.operate.result c.operate.new.seat.sitter) h.same c.operate.ensures.did,
    )
