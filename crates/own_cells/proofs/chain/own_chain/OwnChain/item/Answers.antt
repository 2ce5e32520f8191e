use Rattle.std.proofs.Common.{subst}
use Rattle.mem_blocks.specs.Web.{Rests}
use Rattle.own_cells.proofs.OneChain.Linked.{Knows-named, blocks_in, lives, in_block, rests, item-at_home}
use Rattle.own_cells.proofs.chain.own_chain.OwnChain.item.Goals as goal

pub get-requires : goal.get-requires
get-requires g c =
    let s = c.self.inside in
    let b = c.args.block in
    let can = rw (← c.self.view_is) at c.requires in
    let k = Knows-named s b c.self.invariant can.0 in
    (in_block s b k, lives s b k, (can.2.0, subst (Rests (blocks_in s) b.number c.args.slot) can.2.1 (rests s b c.args.slot k can.1)))

pub returns : goal.returns
returns g c =
    let s = c.self.inside in
    let b = c.args.block in
    let can = rw (← c.self.view_is) at c.requires in
    let k = Knows-named s b c.self.invariant can.0 in
    rw (← c.self.view_is, c.get-2.ensures) (item-at_home s b c.args.slot c.get.result.now k can.1 c.get.ensures)
