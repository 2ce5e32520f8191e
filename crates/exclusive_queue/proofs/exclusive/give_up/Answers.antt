use Rattle.own_cells.specs.OneChain.OwnChainOwned.{own_chain_owned}
use Rattle.exclusive_queue.proofs.Pops.{pop-fewer, pop-none}
use Rattle.exclusive_queue.proofs.exclusive.give_up.Goals as goal

pub loop-result-smaller : goal.loop-result-smaller
loop-result-smaller g c =
    let sequential = rw c.in-Pop.is at c.drive_in_loop.ensures.sequential in
    pop-fewer (own_chain_owned c.loop-result.blocks) (own_chain_owned c.drive_in_loop.new.cells) c.in-Pop.result c.in-Ok.item c.in-Ok.is sequential

pub end-requires-clause-empty : goal.end-requires-clause-empty
end-requires-clause-empty g c =
    let sequential = rw c.in-Pop.is at c.drive_in_loop.ensures.sequential in
    pop-none (own_chain_owned c.loop-result.blocks) (own_chain_owned c.drive_in_loop.new.cells) c.in-Pop.result c.in-Err.field-0 c.in-Err.is sequential
