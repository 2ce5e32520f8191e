use Rattle.own_cells.proofs.OneChain.Linked.{Knows-named, block_of, lives, in_block, linked-held, set-linked, next-set}
use Rattle.own_cells.proofs.chain.own_chain.OwnChain.link.Goals as goal

pub set_next-requires : goal.set_next-requires
set_next-requires g c =
    let s = c.self.inside in
    let b = c.args.block in
    let can = rw (← c.self.view_is) at c.requires in
    let k = Knows-named s b c.self.invariant can.0 in
    (in_block s b k, lives s b k)

pub invariant_of-self : goal.invariant_of-self
invariant_of-self g c =
    let s = c.self.inside in
    let b = c.args.block in
    let can = rw (← c.self.view_is) at c.requires in
    let k = Knows-named s b c.self.invariant can.0 in
    set-linked s b.number _ c.set_next.new.self c.self.invariant k.below (linked-held (block_of s b) c.args.after.link.ptr k.held) c.set_next.ensures.0 c.set_next.ensures.1

pub returns : goal.returns
returns g c =
    let s = c.self.inside in
    let can = rw (← c.self.view_is) at c.requires in
    let k = Knows-named s c.args.block c.self.invariant can.0 in
    let a = Knows-named s c.args.after c.self.invariant can.1 in
    rw (← c.self.view_is) (next-set s c.args.block c.args.after c.set_next.new.self k a can.2 c.set_next.ensures.1)
