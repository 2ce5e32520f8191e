use Rattle.std.proofs.Common.{◌∙◌}
use Rattle.own_cells.specs.OneChain.OwnChain.{own_chain_view}
use Rattle.own_cells.proofs.OneChain.{Linked.Knows-named, Linked.lives, Layings.emptied-vacant, OwnChainBegins.idle-used_up, OwnChainBegins.used_up-last}
use Rattle.own_cells.proofs.chain.own_chain.OwnChain.end.Goals as goal

pub lift-requires : goal.lift-requires
lift-requires g c =
    let s = c.self.inside in
    let last = c.in-Some-head_block.last in
    let requires = rw (← c.self.view_is) at c.requires in
    let u = used_up-last (own_chain_view s) last (idle-used_up (own_chain_view s) requires.idle requires.empty) c.in-Some-head_block.is in
    lives s last (Knows-named s last c.self.invariant u.0)

pub give_up-requires : goal.give_up-requires
give_up-requires g c =
    let s = c.self.inside in
    let last = c.in-Some-head_block.last in
    let requires = rw (← c.self.view_is) at c.requires in
    let u = used_up-last (own_chain_view s) last (idle-used_up (own_chain_view s) requires.idle requires.empty) c.in-Some-head_block.is in
    let k = Knows-named s last c.self.invariant u.0 in
    let t = c.lift.ensures.taken in
    (t.0 ∙ c.self.invariant.heap, t.1, rw t.4 k.held.homes, rw t.4 (emptied-vacant s last k u.1))
