use Rattle.std.proofs.Common.{arith, rules}
use Rattle.own_cells.proofs.OneChain.Linked.{Knows-named, lives, in_block, next-read, links_on}
use Rattle.own_cells.proofs.chain.own_chain.OwnChain.next.Goals as goal

pub overflow_add-result : goal.overflow_add-result
overflow_add-result g c =
    let s = c.self.inside in
    let can = rw (← c.self.view_is) at c.requires in
    let k = Knows-named s c.args.block c.self.invariant can.0 in
    omega (arith, k.below, c.self.invariant.short)

pub next-requires : goal.next-requires
next-requires g c =
    let s = c.self.inside in
    let can = rw (← c.self.view_is) at c.requires in
    let k = Knows-named s c.args.block c.self.invariant can.0 in
    (in_block s c.args.block k, lives s c.args.block k)

pub returns : goal.returns
returns g c =
    let s = c.self.inside in
    let b = c.args.block in
    let can = rw (← c.self.view_is) at c.requires in
    let k = Knows-named s b c.self.invariant can.0 in
    let there = links_on s b c.in-Some.last c.in-Some.is c.if-last-block.false can in
    rw (← c.self.view_is) (next-read s b c.next.result k there c.next.ensures)

pub returns-then-last-block : goal.returns-then-last-block
returns-then-last-block g c = search rules
