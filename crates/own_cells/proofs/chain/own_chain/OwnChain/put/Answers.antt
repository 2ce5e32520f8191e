use Rattle.std.proofs.Common.{Some, sym, subst, ◌∙◌}
use Rattle.mem_blocks.specs.Web.{Rests}
use Rattle.own_cells.proofs.OneChain.Linked.{Knows-named, blocks_in, block_of, lives, in_block, rests, homed-held, set-linked, put-result}
use Rattle.own_cells.proofs.chain.own_chain.OwnChain.put.Goals as goal

pub put-requires : goal.put-requires
put-requires g c =
    let s = c.self.inside in
    let b = c.args.block in
    let can = rw (← c.self.view_is) at c.requires in
    let k = Knows-named s b c.self.invariant can.0 in
    (in_block s b k, lives s b k, subst (Rests (blocks_in s) b.number c.args.slot) can.2 (rests s b c.args.slot k can.1))

pub invariant_of-self : goal.invariant_of-self
invariant_of-self g c =
    let s = c.self.inside in
    let b = c.args.block in
    let can = rw (← c.self.view_is) at c.requires in
    let k = Knows-named s b c.self.invariant can.0 in
    set-linked s b.number _ c.put.new.self c.self.invariant k.below (homed-held (block_of s b) c.args.slot (Some c.in-Some.item) k.held) c.put.ensures.0 (rw c.new.ensures at c.put.ensures.1)

pub returns-in-Some : goal.returns-in-Some
returns-in-Some g c =
    let s = c.self.inside in
    let b = c.args.block in
    let can = rw (← c.self.view_is) at c.requires in
    let k = Knows-named s b c.self.invariant can.0 in
    rw (← c.self.view_is) (put-result s b c.args.slot c.in-Some.item c.put.new.self c.args.carried.now c.take.new.self k can.2 (sym c.take.ensures.value ∙ c.in-Some.is) c.take.ensures.after (rw c.new.ensures at c.put.ensures.1))
