use Rattle.std.proofs.Common.{◌∙◌, subst, arith}
use Rattle.queue_laws.specs.Common.Vocabulary.{Op}
use Rattle.shared_tables.specs.TableRule.{InTable}
use Rattle.shared_tables.proofs.TableOperations.{may_do, may_take_off, may_store}
use Rattle.shared_tables.proofs.table.operate.Goals as goal

pub load-requires-clause-may : goal.load-requires-clause-may
load-requires-clause-may g c =
    let t = c.args.table.now.table_id in let sized = c.requires.sized in let m = c.args.seat.now in
    let can = subst (λ o. InTable (g.K.TableKind.layout t.slots) o) c.in-Load.is c.requires.op.1 in
    let may = may_do g.K.TableKind.layout c.args.table.now.key t.slots (g.K.Sizes.words t.slots) t.words m.id m.me g.J.CallTag.call (g.met.K.TableSteps.laws t.slots sized.2 sized.3) sized.1 sized.0 c.requires.ready
    (Op.Load c.in-Load.word) c.place.result (c.requires.op.0 ∙ c.in-Load.is) can (c.place.ensures t.slots) in
    may

pub fetch_add-requires-clause-may : goal.fetch_add-requires-clause-may
fetch_add-requires-clause-may g c =
    let t = c.args.table.now.table_id in let sized = c.requires.sized in let m = c.args.seat.now in
    let can = subst (λ o. InTable (g.K.TableKind.layout t.slots) o) c.in-Add.is c.requires.op.1 in
    let may = may_do g.K.TableKind.layout c.args.table.now.key t.slots (g.K.Sizes.words t.slots) t.words m.id m.me g.J.CallTag.call (g.met.K.TableSteps.laws t.slots sized.2 sized.3) sized.1 sized.0 c.requires.ready
    (Op.Add c.in-Add.word c.in-Add.by) c.place-in-Add.result (c.requires.op.0 ∙ c.in-Add.is) can (c.place-in-Add.ensures t.slots) in
    may

pub fetch_or-requires-clause-may : goal.fetch_or-requires-clause-may
fetch_or-requires-clause-may g c =
    let t = c.args.table.now.table_id in let sized = c.requires.sized in let m = c.args.seat.now in
    let can = subst (λ o. InTable (g.K.TableKind.layout t.slots) o) c.in-Or.is c.requires.op.1 in
    let may = may_do g.K.TableKind.layout c.args.table.now.key t.slots (g.K.Sizes.words t.slots) t.words m.id m.me g.J.CallTag.call (g.met.K.TableSteps.laws t.slots sized.2 sized.3) sized.1 sized.0 c.requires.ready
    (Op.Or c.in-Or.word c.in-Or.bits) c.place-in-Or.result (c.requires.op.0 ∙ c.in-Or.is) can (c.place-in-Or.ensures t.slots) in
    may

pub fetch_sub-requires-clause-may : goal.fetch_sub-requires-clause-may
fetch_sub-requires-clause-may g c =
    let t = c.args.table.now.table_id in let sized = c.requires.sized in let m = c.args.seat.now in
    let can = subst (λ o. InTable (g.K.TableKind.layout t.slots) o) c.in-And.is c.requires.op.1 in
    let may = may_take_off g.K.TableKind.layout c.args.table.now.key t.slots (g.K.Sizes.words t.slots) t.words m.id m.me g.J.CallTag.call (g.met.K.TableSteps.laws t.slots sized.2 sized.3) sized.1 sized.0 c.requires.ready
    c.in-And.word c.in-And.bits c.place-in-And.result (c.requires.op.0 ∙ c.in-And.is) can (c.place-in-And.ensures t.slots) in
    (may.0, may.1 _ (omega arith))

pub compare_exchange-requires-clause-may : goal.compare_exchange-requires-clause-may
compare_exchange-requires-clause-may g c =
    let t = c.args.table.now.table_id in let sized = c.requires.sized in let m = c.args.seat.now in
    let can = subst (λ o. InTable (g.K.TableKind.layout t.slots) o) c.in-Exchange.is c.requires.op.1 in
    let may = may_do g.K.TableKind.layout c.args.table.now.key t.slots (g.K.Sizes.words t.slots) t.words m.id m.me g.J.CallTag.call (g.met.K.TableSteps.laws t.slots sized.2 sized.3) sized.1 sized.0 c.requires.ready
    (Op.Exchange c.in-Exchange.word c.in-Exchange.old c.in-Exchange.new) c.place-in-Exchange.result (c.requires.op.0 ∙ c.in-Exchange.is) can (c.place-in-Exchange.ensures t.slots) in
    may

pub store-requires-clause-may : goal.store-requires-clause-may
store-requires-clause-may g c =
    let t = c.args.table.now.table_id in let sized = c.requires.sized in let m = c.args.seat.now in
    let can = subst (λ o. InTable (g.K.TableKind.layout t.slots) o) c.in-Store.is c.requires.op.1 in
    let may = may_store g.K.TableKind.layout c.args.table.now.key t.slots (g.K.Sizes.words t.slots) t.words m.id m.me g.J.CallTag.call (g.met.K.TableSteps.laws t.slots sized.2 sized.3) sized.1 sized.0 c.requires.ready
    c.in-Store.word c.in-Store.new c.place-in-Store.result (c.requires.op.0 ∙ c.in-Store.is) can (c.place-in-Store.ensures t.slots) in
    may
