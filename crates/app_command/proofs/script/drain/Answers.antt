use Rattle.std.proofs.Common.{rules, [], ◌∷◌, ap, length}
use Rattle.app_text.{specs.Items.items_text, proofs.Writing.first-of-three}
use Rattle.app_command.proofs.Draining.{drains-more, drains-part, drains-all}
use Rattle.app_command.proofs.script.drain.Goals as goal

pub returns-in_err-put : goal.returns-in_err-put
returns-in_err-put g c = search (rules, first-of-three c.args.pieces.now (108 ∷ 101 ∷ 102 ∷ 116 ∷ []) (items_text c.args.queue.now.queue.items) (10 ∷ []) (g.O.Write.contents c.args.output.now) (g.O.Write.contents c.put.new.output) c.in_err-put.ensures.1)

pub returns-in_err-put_item : goal.returns-in_err-put_item
returns-in_err-put_item g c =
    let took = c.in-Some.ensures.steps.0 in
    let drains = rw took at c.loop-item.invariant in
    search (
      rules,
      drains-part c.args.pieces.now c.loop-item.pieces c.args.queue.now.queue.items c.next.new.self.queue.now.queue.items c.in-Some.item
          (g.O.Write.contents c.args.output.now) (g.O.Write.contents c.loop-item.output) (g.O.Write.contents c.put_item.new.output) drains c.in_err-put_item.ensures.1,
    )

pub loop-item-preserved : goal.loop-item-preserved
loop-item-preserved g c =
    let took = c.in-Some.ensures.steps.0 in
    let drains = rw took at c.loop-item.invariant in
    drains-more c.args.pieces.now c.loop-item.pieces c.put_item.new.pieces c.args.queue.now.queue.items c.next.new.self.queue.now.queue.items c.in-Some.item
    (g.O.Write.contents c.args.output.now) (g.O.Write.contents c.loop-item.output) (g.O.Write.contents c.put_item.new.output) drains c.in_ok-put_item.ensures

pub returns : goal.returns
returns g c = drains-all _ _ _ _ c.loop-item.item-iterator.queue.now.queue.items _ _ _ c.put-2.result (ap length c.in-None.ensures.steps.0.0) c.loop-item.invariant c.put-2.ensures
