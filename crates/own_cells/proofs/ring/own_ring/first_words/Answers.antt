use Rattle.std.proofs.Common.{ℕ, ◌+◌, set, sym, arith, subst}
use Rattle.own_cells.{specs.OneRing.RingOpening.OpensTo, proofs.OneRing.Openings.opens_bare, proofs.OneRing.Openings.opens_more, proofs.OneRing.RingWrites.word_in}
use Rattle.queue_laws.proofs.Common.Filling.{at_end}
use Rattle.own_cells.proofs.ring.own_ring.first_words.Goals as goal

pub loop-slot-init : goal.loop-slot-init
loop-slot-init g c = subst (OpensTo c.args.capacity c.args.accepted 0) (sym c.in_ok-words.ensures) (opens_bare c.args.capacity c.args.accepted)

pub loop-slot-preserved : goal.loop-slot-preserved
loop-slot-preserved g c =
    let l = c.loop-slot in let first = c.first_position in
    subst (λ (k : ℕ). OpensTo c.args.capacity c.args.accepted (l.slot + 1) (set l.words.items k first.result)) (sym c.stamp_word.ensures)
    (opens_more c.args.capacity c.args.accepted l.slot first.result l.words.items c.loop-slot-test.true first.ensures.least first.ensures.within first.ensures.slot l.invariant)

pub index_mut-requires : goal.index_mut-requires
index_mut-requires g c =
    let low = word_in c.args.capacity c.loop-slot.slot c.loop-slot-test.true in let long = c.loop-slot.invariant.long in let here = c.stamp_word.ensures in
    omega (arith, low, long, here)

pub returns : goal.returns
returns g c = subst (λ (k : ℕ). OpensTo c.args.capacity c.args.accepted k c.loop-slot.words.items) (at_end c.loop-slot.slot c.args.capacity c.loop-slot.auto.slot-end c.loop-slot-test.false) c.loop-slot.invariant
