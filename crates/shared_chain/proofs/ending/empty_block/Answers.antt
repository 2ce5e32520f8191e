use Rattle.std.proofs.Common.{◌+◌, ◌&&◌, ◌∙◌, length, ap, sym, rules, arith}
use Rattle.mem_blocks.specs.Web.{block}
use Rattle.shared_chain.proofs.{Finishing.Leftovers.slot_stays, Finishing.Leftovers.none_held, Finishing.Leftovers.told_on, ending.empty_block.Goals.then-empty, ending.empty_block.Goals.else-empty}
use Rattle.shared_chain.proofs.ending.empty_block.Goals as goal

pub empty_slot-vacated-requires-clause-left : goal.empty_slot-vacated-requires-clause-left
empty_slot-vacated-requires-clause-left g c =
    let a = c.args in
    let i = c.loop-slot.slot in
    let e = c.loop-slot.invariant.emptied in
    slot_stays a.taken a.accepted (a.first + i) i (block a.chain.now.blocks a.number) (block c.loop-slot.chain.blocks a.number) e.words (e.others i (λ lt. omega arith)) (c.requires.left.slot i c.loop-slot-test.true)

pub empty_slot-vacated-requires-clause-place : goal.empty_slot-vacated-requires-clause-place
empty_slot-vacated-requires-clause-place g c =
    let place = c.requires.place in
    let e = c.loop-slot.invariant.emptied in
    (place.0, ((e.alive ∙ place.1.0, e.at ∙ place.1.1), omega (arith, c.loop-slot-test.true, ap length e.words, c.requires.left.words)), c.loop-slot-test.true)

pub loop-slot-init : goal.loop-slot-init
loop-slot-init g c =
    let a = c.args in
    record { heap = search rules; same = search rules; emptied = search rules; told = none_held a.taken a.accepted a.first (block a.chain.now.blocks a.number) (block a.chain.now.blocks a.number) }

pub loop-slot-preserved : goal.loop-slot-preserved
loop-slot-preserved g c =
    let a = c.args in
    let l = c.loop-slot in
    let v = c.empty_slot-vacated.result in
    let told = told_on a.taken a.accepted a.first (block a.chain.now.blocks a.number) (block l.chain.blocks a.number) l.slot l.empty v l.invariant.emptied.words l.invariant.told c.empty_slot-vacated.ensures.told in
    elim c.if-empty.branch [
      | then-empty w ↦ record { heap = search rules; same = search rules; emptied = search rules; told = w.empty-is ∙ (ap (λ e. e && v) (sym w.if-empty.true) ∙ told) }
      | else-empty w ↦ record { heap = search rules; same = search rules; emptied = search rules; told = w.empty-is ∙ (w.if-empty.false ∙ (ap (λ e. e && v) (sym w.if-empty.false) ∙ told)) }
    ]
