use Rattle.std.proofs.Common.{◌∙◌, subst}
use Rattle.shared_parties.specs.declared.known.InCall.{InCall}
use Rattle.shared_tables.{specs.TableTurns.Follows, proofs.TableTouches.can_touch, proofs.TableTouches.touched_at}
use Rattle.shared_tables.proofs.table.SharedTableSite.take_step.Goals as goal

pub touch-requires-clause-can : goal.touch-requires-clause-can
touch-requires-clause-can g c =
    can_touch (g.K.TableKind.layout c.args.queue.now.table.shared.table_id.slots) c.args.seat.now.me c.args.local.now c.args.todo c.args.op c.args.carried.now _ c.requires.may.1

pub operate-requires-clause-ready : goal.operate-requires-clause-ready
operate-requires-clause-ready g c =
    let can = (touched_at (g.K.TableKind.layout c.args.queue.now.table.shared.table_id.slots) c.args.call.now c.args.local.now c.args.todo c.args.op c.args.carried.now c.args.seat.now.me _ _ c.requires.may.1 c.touch.ensures.touched).can in
    (can.0, can.1)

pub returns : goal.returns
returns g c =
    let K = g.K.TableKind.layout c.args.queue.now.table.shared.table_id.slots in let did = c.operate.ensures.did in
    let h = touched_at K c.args.call.now c.args.local.now c.args.todo c.args.op c.args.carried.now c.args.seat.now.me _ _ c.requires.may.1 c.touch.ensures.touched in
    (c.operate.ensures.same.0 ∙ c.touch.ensures.same.0, (did.0, did.1, h.handed, subst (λ (z : InCall g.row.T.Denot). Follows K z did.0 c.operate.new.seat.me) h.same did.2))
