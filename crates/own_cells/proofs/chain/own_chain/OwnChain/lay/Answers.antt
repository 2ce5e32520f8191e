use Rattle.std.proofs.Common.{◌^◌, ◌<◌, arith, ap, ◌∙◌, [], ◌∷◌, ◌++◌}
use Rattle.own_cells.proofs.OneChain.{Pieces.length-pieces_of, Linked.oldest, Linked.blocks_in, Layings.spare-made, Layings.laid-linked, Layings.laid-view}
use Rattle.own_cells.proofs.chain.own_chain.OwnChain.lay.Goals as goal

pub overflow_add-self : goal.overflow_add-self
overflow_add-self g c = omega (arith, c.self.invariant.short)

pub overflow_add-self-in-Some : goal.overflow_add-self-in-Some
overflow_add-self-in-Some g c = omega (arith, c.self.invariant.short, c.self.invariant.held)

pub invariant_of-self : goal.invariant_of-self
invariant_of-self g c =
    let s = c.self.inside in
    let i = c.self.invariant in
    let can = rw (← c.self.view_is) at c.requires in
    let made = spare-made s c.args.block c.in-Some.field-0 i (cc) can.0 in
    let count = length-pieces_of (oldest s) (blocks_in s) in
    let short : s.laid < 2 ^ 63 = omega (arith, can.1, count, i.laid, i.held) in
    rw c.take.ensures.after (laid-linked s c.args.block c.lay.new.self i short made.1 c.lay.ensures.0 (c.lay.ensures.1 ∙ ap (λ x. blocks_in s ++ x ∷ []) made.2))

pub returns : goal.returns
returns g c =
    let s = c.self.inside in
    let i = c.self.invariant in
    let can = rw (← c.self.view_is) at c.requires in
    let made = spare-made s c.args.block c.in-Some.field-0 i (cc) can.0 in
    rw (c.take.ensures.after, ← c.self.view_is) (laid-view s c.args.block c.lay.new.self i made.0 (c.lay.ensures.1 ∙ ap (λ x. blocks_in s ++ x ∷ []) made.2))
