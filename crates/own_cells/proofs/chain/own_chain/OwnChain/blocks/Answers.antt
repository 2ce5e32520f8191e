use Rattle.std.proofs.Common.{◌-◌, arith}
use Rattle.own_cells.proofs.OneChain.Pieces.{length-pieces_of}
use Rattle.own_cells.proofs.chain.own_chain.OwnChain.blocks.Goals as goal

pub returns : goal.returns
returns g c =
    let s = c.self.inside in
    let i = c.self.invariant in
    let count = length-pieces_of (s.laid - s.held) s.chain.blocks in
    rw (← c.self.view_is) (omega (arith, count, i.laid, i.held))
