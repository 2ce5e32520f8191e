use Rattle.std.proofs.Common.{◌≡◌, Some, None, sym, ap, subst, ◌∙◌, arith}
use Rattle.mem_blocks.specs.Web.{Rests, with_home, vacant, full}
use Rattle.own_cells.proofs.OneChain.Linked.{Knows-named, blocks_in, block_of, lives, in_block, rests, homed-held, set-linked, take-result, emptied, home-twice}
use Rattle.own_cells.proofs.chain.own_chain.OwnChain.take.Goals as goal

pub take-item-requires : goal.take-item-requires
take-item-requires g c =
    let s = c.self.inside in
    let b = c.args.block in
    let can = rw (← c.self.view_is) at c.requires in
    let k = Knows-named s b c.self.invariant can.0 in
    (in_block s b k, lives s b k, (can.2.0, subst (Rests (blocks_in s) b.number c.args.slot) can.2.1 (rests s b c.args.slot k can.1)))

pub put-requires : goal.put-requires
put-requires g c =
    let s = c.self.inside in
    let b = c.args.block in
    let can = rw (← c.self.view_is) at c.requires in
    let k = Knows-named s b c.self.invariant can.0 in
    let e = emptied s b c.args.slot c.take-item.new.self c.self.invariant k can.1 c.take-item.ensures.chain.1 in
    (in_block s b k, e.0, e.1)

pub invariant_of-self-in-None : goal.invariant_of-self-in-None
invariant_of-self-in-None g c =
    let s = c.self.inside in
    let b = c.args.block in
    let can = rw (← c.self.view_is) at c.requires in
    let k = Knows-named s b c.self.invariant can.0 in
    set-linked s b.number _ c.take-item.new.self c.self.invariant k.below (homed-held (block_of s b) c.args.slot None k.held) c.take-item.ensures.chain.0 c.take-item.ensures.chain.1

pub returns-in-None : goal.returns-in-None
returns-in-None g c =
    let s = c.self.inside in
    let b = c.args.block in
    let can = rw (← c.self.view_is) at c.requires in
    let k = Knows-named s b c.self.invariant can.0 in
    let none : c.args.carried.now ≡ None = sym c.replace.ensures.value ∙ c.in-None.is in
    rw (← c.self.view_is)
    (take-result s b c.args.slot c.take-item.result c.take-item.new.self c.args.carried.now c.replace.new.self k can.1 c.take-item.ensures.value (rw c.into_inner.ensures at c.replace.ensures.after)
    (rw none c.take-item.ensures.chain.1))

pub invariant_of-self : goal.invariant_of-self
invariant_of-self g c =
    let s = c.self.inside in
    let b = c.args.block in
    let can = rw (← c.self.view_is) at c.requires in
    let k = Knows-named s b c.self.invariant can.0 in
    let both = (rw c.new.ensures at c.put.ensures.1) ∙ ap (λ bs. with_home bs b.number c.args.slot (full c.in-Some.other)) c.take-item.ensures.chain.1
    ∙ home-twice (blocks_in s) b.number c.args.slot vacant (full c.in-Some.other) (omega (arith, k.below, c.self.invariant.laid)) in
    set-linked s b.number _ c.put.new.self c.self.invariant k.below (homed-held (block_of s b) c.args.slot (Some c.in-Some.other) k.held) (c.put.ensures.0 ∙ c.take-item.ensures.chain.0) both

pub returns-in-Some : goal.returns-in-Some
returns-in-Some g c =
    let s = c.self.inside in
    let b = c.args.block in
    let can = rw (← c.self.view_is) at c.requires in
    let k = Knows-named s b c.self.invariant can.0 in
    let some : c.args.carried.now ≡ Some c.in-Some.other = sym c.replace.ensures.value ∙ c.in-Some.is in
    let both = (rw c.new.ensures at c.put.ensures.1) ∙ ap (λ bs. with_home bs b.number c.args.slot (full c.in-Some.other)) c.take-item.ensures.chain.1
    ∙ home-twice (blocks_in s) b.number c.args.slot vacant (full c.in-Some.other) (omega (arith, k.below, c.self.invariant.laid)) in
    rw (← c.self.view_is)
    (take-result s b c.args.slot c.take-item.result c.put.new.self c.args.carried.now c.replace.new.self k can.1 c.take-item.ensures.value (rw c.into_inner.ensures at c.replace.ensures.after) (rw some both))
