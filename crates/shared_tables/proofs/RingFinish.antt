-- What is left of a shared ring that its only party ended is a ring with one owner, in the state after the history.
use Rattle.std.proofs.Common.{◌≡◌, ℕ, ◌<◌, List, length, get_or, Option, Some, None, inr, refl, ap, sym, ◌∙◌, subst}
use mathlib.Core.Option.{some}
use mathlib.Core.Option as maybe
use lib.ListN.{get_elem?}
use Rattle.atomic_table.specs.Table.{Final, Seen}
use Rattle.queue_steps.specs.{State.State, Effect.after, Legal.IsShown, Parties.IsWhole}
use Rattle.queue_laws.proofs.{Common.Tests.none_if, Ring.RingIdle.NobodyHolds, Ring.RingIdle.AtRest, Ring.RingIdle.at_rest}
use Rattle.queue_laws.specs.Ring.{RingCells.Ring, RingCells.queue_of, RingCells.RingOk, RingCells.owner, RingShared.Shared, RingWords.Codes, RingWords.item_in}
use Rattle.shared_parties.specs.{declared.known.CallState.CallState, Known.view_of, CallStates.IsSeatAlone}
use Rattle.shared_tables.specs.{Seats.count_of, TableRule.Rule, RingTable.home_when, RingTable.Homes, RingTable.LiesIn, RingTable.ring_table}
use Rattle.own_cells.specs.OneRing.{RingOwned.IsIdle, RingOwned.ring_queue, Laws.RingRests.rested, Laws.RingRests.rested_idle, Laws.RingRests.rested_queue, RingMemory.ring_in}
use Rattle.own_cells.proofs.OneRing.RingWrites.{elem_or}
use Rattle.shared_tables.specs.Laws.RingSteps.{recounted}
use Rattle.shared_tables.proofs.TableRests.{table_ends}

module _ {T : Type 0} where
  -- a ring at rest, in these words and slots, is one with one owner, in the same state
  ring_rests : (cap : ℕ) (r : Ring T) (s : Shared T) (ws : List ℕ) (xs : List (Option T)) → RingOk cap r → Codes cap r s → LiesIn cap s ws → AtRest cap r s → length xs ≡ cap → ((i : ℕ) → i < cap → get_or xs i None ≡ get_or s.slots i None)
      → IsIdle (ring_in cap ws xs) × (ring_queue (ring_in cap ws xs) ≡ queue_of cap r)
  ring_rests cap r s ws xs ok codes words rest long lies =
      let is : rested cap r s xs ok codes rest long lies ≡ ring_in cap ws xs = λ i. record { cap = cap; head = sym words.head i; tail = sym words.tail i; stamps = sym words.stamps i; slots = xs } in
      (subst IsIdle is (rested_idle cap r s xs ok codes rest long lies), ap ring_queue (sym is) ∙ rested_queue cap r s xs ok codes rest long lies)

  -- where nobody has a slot all are at home
  all_home : (cap : ℕ) (r : Ring T) (s : Shared T) (hs : List (maybe.Option (Option T))) → Codes cap r s → Homes cap r hs → NobodyHolds r → (i : ℕ) → i < cap → get_elem? hs i ≡ some (some (get_or s.slots i None))
  all_home cap r s hs codes homes nobody i lt =
      homes.1 i lt ∙ (ap (λ o. some (home_when o (item_in (r.cells i)))) (none_if (owner (r.cells i)) (λ who e. nobody who i e)) ∙ ap (λ (o : Option T). some (some o)) (sym (codes.slot i lt)))

  -- the end: the only party has every place, no call is on its way, and the words and slots are those of a ring with one owner after what the party has seen
  pub ring_finishes : (cap id : ℕ) (d : CallState T) (ws : List ℕ) (xs : List (Option T)) → IsSeatAlone d → Final (Seen (Rule (ring_table cap)) id d) ws xs
      → IsIdle (ring_in cap ws xs) × IsShown (ring_queue (ring_in cap ws xs)) (after (Some cap) d.known.seen) × IsWhole (view_of d.known)
  ring_finishes cap id d ws xs is end =
      let s = end.0 in let rule : Rule (ring_table cap) s = end.1.0 in let r : Ring T = rule.cells in
      let shared : Shared T = rule.coded.0 in let codes : Codes cap r shared = rule.coded.1 in let homes : Homes cap r s.homes = rule.coded.3 in
      let e = table_ends (ring_table cap) s id d rule end.1.1 is in
      let rest : AtRest cap r shared = at_rest cap r shared rule.all.ok codes e.nobody in
      let long : length xs ≡ cap = sym end.3 ∙ homes.0 in
      let lies : (i : ℕ) → i < cap → get_or xs i None ≡ get_or shared.slots i None = λ i lt. elem_or None xs i (get_or shared.slots i None) (end.4 i (get_or shared.slots i None) (all_home cap r shared s.homes codes homes e.nobody i lt)) in
      let words : LiesIn cap shared ws = subst (LiesIn cap shared) (sym rule.counted ∙ end.2) (recounted cap shared 0 (count_of s) rule.words rule.coded.2) in
      let state : queue_of cap r ≡ after (Some cap) d.known.seen = rule.all.state ∙ ap (after (Some cap)) (sym e.seen) in
      let owned = ring_rests cap r shared ws xs rule.all.ok codes words rest long lies in (
        owned.0,
        subst (λ (q : State T). IsShown q (after (Some cap) d.known.seen)) (sym (owned.1 ∙ state)) (record { items = refl; cap = refl; closed = refl; coming = refl; accepted = inr refl }),
        e.whole,
      )
