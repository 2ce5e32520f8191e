use Rattle.std.proofs.Common.{rules, ◌≡◌, ◌∙◌, ap, sym, subst}
use Rattle.shared_parties.specs.{declared.count.Change.Change as change, PartyCount.MayAct}
use Rattle.shared_chain.proofs.Crowds.{recounts}
use Rattle.shared_chain.proofs.parties.ChainWebPartyCountRestedCallState.act.Goals as goal

pub fetch_add-found-requires-clause-allows : goal.fetch_add-found-requires-clause-allows
fetch_add-found-requires-clause-allows g c =
    let w = c.args.self.now in let s = c.take-seat.result in let told = g.M.CountAct.tells in
    let tail : w.tail.ptr ≡ w.web.key.tail.ptr = search rules in
    let known = ap (λ m. m.view) c.take-seat.ensures.seat.3 in
    let asked = subst (λ z. MayAct z told c.args.party.now.id c.args.party.now.view) (sym c.change.ensures ∙ c.in-Raise.is) c.requires.may in
    let may = subst (λ i. MayAct change.Raise told i s.sitter.view) (sym c.take-seat.ensures.seat.2) (subst (λ d. MayAct change.Raise told c.args.party.now.id d) (sym known) asked) in
    recounts w.web.key.tail.ptr w.web.key.head.ptr s.id s.sitter w.tail.ptr change.Raise told tail may

pub fetch_sub-found-requires-clause-allows : goal.fetch_sub-found-requires-clause-allows
fetch_sub-found-requires-clause-allows g c =
    let w = c.args.self.now in let s = c.take-seat.result in let told = g.M.CountAct.tells in
    let tail : w.tail.ptr ≡ w.web.key.tail.ptr = search rules in
    let known = ap (λ m. m.view) c.take-seat.ensures.seat.3 in
    let asked = subst (λ z. MayAct z told c.args.party.now.id c.args.party.now.view) (sym c.change.ensures ∙ c.in-Lower.is) c.requires.may in
    let may = subst (λ i. MayAct change.Lower told i s.sitter.view) (sym c.take-seat.ensures.seat.2) (subst (λ d. MayAct change.Lower told c.args.party.now.id d) (sym known) asked) in
    recounts w.web.key.tail.ptr w.web.key.head.ptr s.id s.sitter w.tail.ptr change.Lower told tail may

pub load-found-requires-clause-allows : goal.load-found-requires-clause-allows
load-found-requires-clause-allows g c =
    let w = c.args.self.now in let s = c.take-seat.result in let told = g.M.CountAct.tells in
    let tail : w.tail.ptr ≡ w.web.key.tail.ptr = search rules in
    let known = ap (λ m. m.view) c.take-seat.ensures.seat.3 in
    let asked = subst (λ z. MayAct z told c.args.party.now.id c.args.party.now.view) (sym c.change.ensures ∙ c.in-Look.is) c.requires.may in
    let may = subst (λ i. MayAct change.Look told i s.sitter.view) (sym c.take-seat.ensures.seat.2) (subst (λ d. MayAct change.Look told c.args.party.now.id d) (sym known) asked) in
    recounts w.web.key.tail.ptr w.web.key.head.ptr s.id s.sitter w.tail.ptr change.Look told tail may
