use Rattle.std.proofs.Common.{◌≡◌, arith, subst}
use Rattle.std.specs.Mem.Slots.{slots_items, slots_counts, slots_small}
use mathlib.Core.Option.{some}
use lib.ListN.{get_elem?}
use Rattle.own_cells.proofs.OneRing.RingLies.{stamp_low, stamp_there, stamp_read}
use Rattle.own_cells.proofs.ring.own_ring.OwnRing.stamp.Goals as goal

pub stamp_word-requires : goal.stamp_word-requires
stamp_word-requires g c =
    let m = c.self.inside.memory in
    let lt = stamp_low c.self.inside.capacity (slots_items m.words) (slots_items m.slots) (slots_counts m.words).0 (slots_counts m.slots).0 c.self.inside.sized c.self.view_is c.args.slot c.requires in
    let small = slots_small m.words in omega (arith, lt, c.self.inside.sized.0, small)

pub word-requires : goal.word-requires
word-requires g c =
    let m = c.self.inside.memory in
    let there = stamp_there c.self.inside.capacity (slots_items m.words) (slots_items m.slots) (slots_counts m.words).0 (slots_counts m.slots).0 c.self.inside.sized c.self.view_is c.args.slot c.requires in
    (omega (arith, there, c.stamp_word.ensures), c.self.inside.full.0)

pub returns : goal.returns
returns g c =
    let m = c.self.inside.memory in
    let here = subst (λ k. get_elem? (slots_items m.words) k ≡ some c.word.result) c.stamp_word.ensures c.word.ensures in
    stamp_read c.self.inside.capacity (slots_items m.words) (slots_items m.slots) (slots_counts m.words).0 (slots_counts m.slots).0 c.self.inside.sized c.self.view_is c.args.slot c.word.result c.requires here
