use Rattle.std.proofs.Common.{◌≡◌, ℕ, ◌<◌, List, Option, None, length, map, ap, sym, ◌∙◌, subst}
use Rattle.std.{proofs.lemmas.List.length-replicate, proofs.lemmas.Result.IfOk-from_err, specs.Mem.Slots.slots_items, specs.Mem.Slots.slots_counts}
use mathlib.Core.Option.{some}
use lib.ListN.{get_elem?}
use Rattle.atomic_table.specs.Table.{Final}
use Rattle.own_cells.specs.OneRing.RingOpening.{IsUntouched}
use Rattle.own_cells.proofs.OneRing.{Openings.ring_opens, Openings.homes_at, Emptying.replicated}
use Rattle.own_cells.proofs.ring.own_ring.opening_memory.Goals as goal

pub table_of-requires-clause-holds : goal.table_of-requires-clause-holds
table_of-requires-clause-holds g c = (
  c.as_slice.ensures.value,
  subst (λ (xs : List (Option g.row.T.Denot)). (k : ℕ) → k < length (map some xs) → get_elem? (map some xs) k ≡ some (some None)) (sym c.in_ok-slots.ensures) (λ k. homes_at c.args.capacity k None),
)

pub returns : goal.returns
returns g c =
    let m = c.close.result in let k = c.close.ensures in let t = c.in_ok-table.ensures in
    let ws = slots_items m.words in let xs = slots_items m.slots in
    let opening = c.in-Ok.ensures in
    let words_long = k.counts.0 ∙ (t.0 ∙ (ap length c.as_slice.ensures.value ∙ opening.long)) in
    let slots_long = k.counts.1 ∙ (t.1 ∙ (ap length c.in_ok-slots.ensures ∙ length-replicate c.args.capacity None)) in
    let words = ap (λ v. v.items) t.5 in
    ((k.values.0, k.values.1), words_long, slots_long, ring_opens c.args.capacity c.args.accepted c.in-Ok.words.items ws xs c.requires.ring c.requires.accepted opening (sym (slots_counts m.slots).0 ∙ slots_long) (subst (λ (z : List ℕ). Final (IsUntouched z) ws xs) words k.values.2))

pub returns-in_err-for_words : goal.returns-in_err-for_words
returns-in_err-for_words g c = IfOk-from_err c.from_residual.result _ c.from_residual.ensures.0

pub returns-in_err-clone : goal.returns-in_err-clone
returns-in_err-clone g c = IfOk-from_err c.from_residual-in_err-clone.result _ c.from_residual-in_err-clone.ensures.0

pub returns-in_err-slots : goal.returns-in_err-slots
returns-in_err-slots g c = IfOk-from_err c.from_residual-in_err-slots.result _ c.from_residual-in_err-slots.ensures.0

pub returns-in_err-table : goal.returns-in_err-table
returns-in_err-table g c = IfOk-from_err c.from_residual-in_err-table.result _ c.from_residual-in_err-table.ensures.0

pub returns-in_default : goal.returns-in_default
returns-in_default g c = tt

pub first_words-requires-clause-capacity : goal.first_words-requires-clause-capacity
first_words-requires-clause-capacity g c = c.requires.ring.1

pub first_words-requires-clause-accepted : goal.first_words-requires-clause-accepted
first_words-requires-clause-accepted g c = c.requires.accepted

pub discard-requires : goal.discard-requires
discard-requires g c = replicated c.in_ok-slots.slots.items c.args.capacity None c.in_ok-slots.ensures

pub table_of-requires-clause-empty : goal.table_of-requires-clause-empty
table_of-requires-clause-empty g c = replicated c.in_ok-slots.slots.items c.args.capacity None c.in_ok-slots.ensures
