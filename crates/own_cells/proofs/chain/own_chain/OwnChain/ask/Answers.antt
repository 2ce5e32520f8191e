use Rattle.std.proofs.Common.{arith, ap}
use Rattle.own_cells.{specs.OneChain.OwnChain.own_chain_view, proofs.OneChain.Pieces.length-pieces_of, proofs.OneChain.Linked.oldest, proofs.OneChain.Linked.blocks_in}
use Rattle.own_cells.proofs.chain.own_chain.OwnChain.ask.Goals as goal

pub returns-in-None : goal.returns-in-None
returns-in-None g c =
    let s = c.self.inside in
    let i = c.self.invariant in
    let count = length-pieces_of (oldest s) (blocks_in s) in
    rw (← c.self.view_is) (omega (arith, count, i.laid, i.held), ap (λ x. own_chain_view (record s { spare = x })) c.replace.ensures.after)
