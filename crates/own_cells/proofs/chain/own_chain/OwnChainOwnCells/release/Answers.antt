use Rattle.std.proofs.Common.{◌∙◌}
use Rattle.own_cells.proofs.OneChain.{Linked.Knows-named, Linked.lives, Layings.lifted-linked, Layings.lifted-view, Layings.emptied-vacant}
use Rattle.own_cells.proofs.chain.own_chain.OwnChainOwnCells.release.Goals as goal

pub lift-loose-requires : goal.lift-loose-requires
lift-loose-requires g c =
    let s = c.self.inside in
    let can = rw (← c.self.view_is) at c.requires in
    lives s c.args.block (Knows-named s c.args.block c.self.invariant can.0)

pub give_up-requires : goal.give_up-requires
give_up-requires g c =
    let s = c.self.inside in
    let can = rw (← c.self.view_is) at c.requires in
    let k = Knows-named s c.args.block c.self.invariant can.0 in
    let t = c.lift-loose.ensures.taken in
    (t.0 ∙ c.self.invariant.heap, t.1, rw t.4 k.held.homes, rw t.4 (emptied-vacant s c.args.block k can.2))

pub invariant_of-self : goal.invariant_of-self
invariant_of-self g c =
    let s = c.self.inside in
    let can = rw (← c.self.view_is) at c.requires in
    let k = Knows-named s c.args.block c.self.invariant can.0 in
    lifted-linked s c.args.block c.lift-loose.new.self c.self.invariant k can.1 c.lift-loose.ensures.left.0 c.lift-loose.ensures.left.1

pub returns : goal.returns
returns g c =
    let s = c.self.inside in
    let can = rw (← c.self.view_is) at c.requires in
    let k = Knows-named s c.args.block c.self.invariant can.0 in
    rw (← c.self.view_is) (lifted-view s c.args.block c.lift-loose.new.self c.self.invariant k can.1 c.lift-loose.ensures.left.1)
