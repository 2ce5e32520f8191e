use Rattle.std.proofs.Common.{rules, ◌∙◌, sym, subst}
use Rattle.shared_parties.specs.{declared.count.Change.Change as change, PartyCount.MayAct}
use Rattle.shared_tables.proofs.Crowds.{recounts}
use Rattle.shared_tables.proofs.seats.SharedTablePartyCountSeatOptionCallState.act.Goals as goal

pub fetch_add-requires-clause-may : goal.fetch_add-requires-clause-may
fetch_add-requires-clause-may g c =
    let s = c.args.seat.now in let told = g.M.CountAct.tells in
    let may = subst (λ z. MayAct z told s.id s.me.0) (sym c.change.ensures ∙ c.in-Raise.is) c.requires.may in
    (search rules, recounts (g.K.TableKind.layout c.args.self.now.table.shared.key) _ s.id s.me change.Raise told may)

pub fetch_sub-requires-clause-may : goal.fetch_sub-requires-clause-may
fetch_sub-requires-clause-may g c =
    let s = c.args.seat.now in let told = g.M.CountAct.tells in
    let may = subst (λ z. MayAct z told s.id s.me.0) (sym c.change.ensures ∙ c.in-Lower.is) c.requires.may in
    (search rules, recounts (g.K.TableKind.layout c.args.self.now.table.shared.key) _ s.id s.me change.Lower told may)

pub load-requires-clause-may : goal.load-requires-clause-may
load-requires-clause-may g c =
    let s = c.args.seat.now in let told = g.M.CountAct.tells in
    let may = subst (λ z. MayAct z told s.id s.me.0) (sym c.change.ensures ∙ c.in-Look.is) c.requires.may in
    (search rules, recounts (g.K.TableKind.layout c.args.self.now.table.shared.key) _ s.id s.me change.Look told may)
