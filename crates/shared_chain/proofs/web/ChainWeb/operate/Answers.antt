use Rattle.std.proofs.Common.{ap, sym, subst, rules}
use Rattle.queue_laws.specs.Common.Vocabulary.{Op}
use Rattle.mem_blocks.specs.Web.{AllowsLink, if_unset}
use Rattle.shared_chain.specs.{Rule.Rule, Steps.FollowsLink}
use Rattle.shared_chain.proofs.Steps.Operating.{named, may_do, may_store, may_read, may_lead}
use Rattle.shared_chain.proofs.web.ChainWeb.operate.Goals as goal

pub load-requires-clause-allows : goal.load-requires-clause-allows
load-requires-clause-allows g c =
    let key = c.args.self.now.web.key in let m = c.args.seat.now in let j = g.J.CallTag.call in
    let n = named m.sitter c.args.op j c.requires.can (Op.Load c.in-Load.word) c.in-Load.is in
    may_do m.sitter c.args.op j c.requires.can key.tail.ptr key.head.ptr m.id (Op.Load n.0) _ _ n.1 tt (c.word-number.ensures.at n.0 n.2)

pub returns-in-Load-clause-did : goal.returns-in-Load-clause-did
returns-in-Load-clause-did g c = search rules depth 2

pub store-requires-clause-allows : goal.store-requires-clause-allows
store-requires-clause-allows g c =
    let key = c.args.self.now.web.key in let m = c.args.seat.now in let j = g.J.CallTag.call in
    let n = named m.sitter c.args.op j c.requires.can (Op.Store c.in-Store.word c.in-Store.new) c.in-Store.is in
    may_store m.sitter c.args.op j c.requires.can key.tail.ptr key.head.ptr m.id n.0 c.in-Store.new _ _ n.1 (c.word-number-in-Store.ensures.at n.0 n.2)

pub fetch_add-requires-clause-allows : goal.fetch_add-requires-clause-allows
fetch_add-requires-clause-allows g c =
    let key = c.args.self.now.web.key in let m = c.args.seat.now in let j = g.J.CallTag.call in
    let n = named m.sitter c.args.op j c.requires.can (Op.Add c.in-Add.word c.in-Add.by) c.in-Add.is in
    may_do m.sitter c.args.op j c.requires.can key.tail.ptr key.head.ptr m.id (Op.Add n.0 c.in-Add.by) _ _ n.1 tt (c.word-number-in-Add.ensures.at n.0 n.2)

pub exchange-requires-clause-allows : goal.exchange-requires-clause-allows
exchange-requires-clause-allows g c =
    let key = c.args.self.now.web.key in let m = c.args.seat.now in let j = g.J.CallTag.call in
    let n = named m.sitter c.args.op j c.requires.can (Op.Exchange c.in-Exchange.word c.in-Exchange.old c.in-Exchange.new) c.in-Exchange.is in
    may_do m.sitter c.args.op j c.requires.can key.tail.ptr key.head.ptr m.id (Op.Exchange n.0 c.in-Exchange.old c.in-Exchange.new) _ _ n.1 tt (c.word-number-in-Exchange.ensures.at n.0 n.2)

pub follow-requires-clause-allows : goal.follow-requires-clause-allows
follow-requires-clause-allows g c =
    let key = c.args.self.now.web.key in let m = c.args.seat.now in let j = g.J.CallTag.call in
    let n = named m.sitter c.args.op j c.requires.can (Op.LoadLink c.in-LoadLink.link) c.in-LoadLink.is in
    may_read m.sitter c.args.op j c.requires.can key.tail.ptr key.head.ptr m.id (Op.LoadLink n.0) _ n.1 tt (c.link.ensures.at n.0 n.2)

pub lead-requires-clause-allows : goal.lead-requires-clause-allows
lead-requires-clause-allows g c =
    let key = c.args.self.now.web.key in let m = c.args.seat.now in let j = g.J.CallTag.call in
    let n = named m.sitter c.args.op j c.requires.can (Op.StoreLink c.in-StoreLink.link c.in-StoreLink.new) c.in-StoreLink.is in
    may_lead m.sitter c.args.op j c.requires.can key.tail.ptr key.head.ptr m.id n.0 n.1 _ _ n.2 (c.link-in-StoreLink.ensures.at n.0 n.3) (ap (λ z. z.ptr) n.4)

pub install-requires-clause-allows : goal.install-requires-clause-allows
install-requires-clause-allows g c =
    let w = c.args.self.now in let key = w.web.key in let m = c.args.seat.now in let j = g.J.CallTag.call in
    let n = named m.sitter c.args.op j c.requires.can (Op.Install c.in-Install.new) c.in-Install.is in
    subst (λ q. AllowsLink (Rule key.tail.ptr key.head.ptr) m.id m.sitter w.tail.ptr (if_unset q) (λ q k. FollowsLink j q k)) (sym (ap (λ z. z.ptr) n.2))
    (may_read m.sitter c.args.op j c.requires.can key.tail.ptr key.head.ptr m.id (Op.Install n.0) w.tail.ptr n.1 tt (sym w.ends.0))
