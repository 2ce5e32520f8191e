use Rattle.std.proofs.Common.{rules, tests}
use Rattle.mem_blocks.specs.Web.{alive_at}
use Rattle.shared_chain.proofs.Steps.Operating.{may_grant, may_refuse}
use Rattle.shared_chain.proofs.web.ChainWeb.ask.Goals as goal

pub load-requires-clause-allows : goal.load-requires-clause-allows
load-requires-clause-allows g c =
    let w = c.args.self.now in let m = c.args.seat.now in let made = c.in-Ok.ensures.made in let b = c.in-Ok.block in
    may_grant m.sitter g.J.CallTag.call c.requires.can w.web.key.tail.ptr w.web.key.head.ptr w.tail.ptr c.hold.new.self.id c.hold.new.self.sitter c.in-Ok.place.ptr
    (alive_at b.at b.next b.words b.homes) w.ends.0 c.hold.ensures.held (λ i. alive_at (made.1 i) (made.3 i) (made.4 i) (made.5 i)) (made.2, c.in-Ok.ensures.low)

pub load-requires-in-Err-clause-allows : goal.load-requires-in-Err-clause-allows
load-requires-in-Err-clause-allows g c =
    let w = c.args.self.now in let m = c.args.seat.now in
    may_refuse m.sitter g.J.CallTag.call c.requires.can w.web.key.tail.ptr w.web.key.head.ptr w.tail.ptr m.id w.ends.0

pub returns-in-Err-clause-did : goal.returns-in-Err-clause-did
returns-in-Err-clause-did g c = search (rules, tests)
