use Rattle.std.proofs.Common.{ℕ, ◌+◌, set, sym, arith, subst}
use Rattle.own_cells.proofs.OneRing.RingWrites.{word_in}
use Rattle.queue_laws.proofs.Common.Filling.{at_end}
use Rattle.shared_tables.{specs.RingOpening.IsFirst, proofs.RingEnding.first_bare, proofs.RingEnding.first_more}
use Rattle.shared_tables.proofs.ring.first_words.Goals as goal

pub loop-slot-init : goal.loop-slot-init
loop-slot-init g c = subst (IsFirst c.args.capacity 0) (sym c.in_ok-words.ensures) (first_bare c.args.capacity)

pub loop-slot-preserved : goal.loop-slot-preserved
loop-slot-preserved g c =
    let l = c.loop-slot in
    subst (λ (k : ℕ). IsFirst c.args.capacity (l.slot + 1) (set l.words.items k l.slot)) (sym c.stamp_word.ensures) (first_more c.args.capacity l.slot l.words.items c.loop-slot-test.true l.invariant)

pub index_mut-requires : goal.index_mut-requires
index_mut-requires g c =
    let low = word_in c.args.capacity c.loop-slot.slot c.loop-slot-test.true in let long = c.loop-slot.invariant.long in let here = c.stamp_word.ensures in
    omega (arith, low, long, here)

pub returns : goal.returns
returns g c = subst (λ (k : ℕ). IsFirst c.args.capacity k c.loop-slot.words.items) (at_end c.loop-slot.slot c.args.capacity c.loop-slot.auto.slot-end c.loop-slot-test.false) c.loop-slot.invariant
