use Rattle.std.proofs.Common.{sym, refl, ◌∙◌, arith}
use Rattle.queue_laws.specs.Common.Vocabulary.{Op}
use Rattle.shared_chain.proofs.Steps.Operating.{named, may_do, may_add}
use Rattle.shared_chain.proofs.web.ChainWeb.set_bits.Goals as goal

pub fetch_add-requires-clause-allows : goal.fetch_add-requires-clause-allows
fetch_add-requires-clause-allows g c =
    let key = c.args.self.now.web.key in let m = c.args.seat.now in let j = g.J.CallTag.call in let o = Op.Or c.args.word c.args.bits in
    let n = named m.sitter o j c.requires.can o refl in
    may_add m.sitter o j c.requires.can key.tail.ptr key.head.ptr m.id n.0 c.args.word c.args.bits _ _ n.1 n.2 (sym c.is_set_once.ensures ∙ c.if-is_set_once.true) (c.word-number.ensures.at n.0 n.2) _ (omega arith)

pub fetch_or-requires-clause-allows : goal.fetch_or-requires-clause-allows
fetch_or-requires-clause-allows g c =
    let key = c.args.self.now.web.key in let m = c.args.seat.now in let j = g.J.CallTag.call in let o = Op.Or c.args.word c.args.bits in
    let n = named m.sitter o j c.requires.can o refl in
    may_do m.sitter o j c.requires.can key.tail.ptr key.head.ptr m.id (Op.Or n.0 c.args.bits) _ _ n.1 tt (c.word-number.ensures.at n.0 n.2)
