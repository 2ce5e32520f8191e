use Rattle.std.proofs.Common.{rules, ℕ, List, length, Option, None, subst, sym, ◌∙◌, ap, arith}
use Rattle.std.proofs.lemmas.List.{length-replicate}
use Rattle.atomic_table.specs.Table.{opening}
use Rattle.queue_steps.specs.Words.{IsRing}
use Rattle.shared_tables.{specs.TableRule.Rule, specs.RingTable.ring_table, proofs.RingEnding.seat, proofs.RingEnding.ring_opens}
use Rattle.shared_tables.proofs.ring.open_ring.Goals as goal

pub table_of-requires-clause-holds : goal.table_of-requires-clause-holds
table_of-requires-clause-holds g c =
    let cap = c.args.capacity in
    let ring : IsRing cap = search rules in
    let words = c.in-Ok.words.items in
    subst (λ (z : List ℕ × List (Option g.row.T.Denot)). Rule (ring_table cap) (opening z.0 z.1 (seat _ cap))) (λ i. (sym c.as_slice.ensures.value i, sym c.in_ok-slots.ensures i)) (ring_opens _ cap words ring c.in-Ok.ensures)

pub invariant_of-result : goal.invariant_of-result
invariant_of-result g c =
    let cap = c.args.capacity in
    let ring : IsRing cap = search rules in
    let made = c.in_ok-table.ensures in
    let long = ap length c.as_slice.ensures.value ∙ c.in-Ok.ensures.long in
    let slots = made.1 ∙ (ap length c.in_ok-slots.ensures ∙ length-replicate cap None) in
    record {
      counted = sym slots;
      counts = (let a = made.0 in omega arith);
      sized = ((let a = made.0 in omega arith), made.5 ∙ sym slots, (subst IsRing (sym slots) ring).0, (subst IsRing (sym slots) ring).1);
    }

pub first_words-requires : goal.first_words-requires
first_words-requires g c = search rules

pub returns-clause-first : goal.returns-clause-first
returns-clause-first g c = search rules

pub returns-clause-limited : goal.returns-clause-limited
returns-clause-limited g c = search rules
