-- How the table of one slot that is shared begins, and what is left of it: one slot with one owner, in the state after the history.
use Rattle.std.proofs.Common.{◌≡◌, ℕ, ◌==◌, Bool, true, false, List, [], ◌∷◌, get_or, Option, Some, None, if◌then◌else◌, inl, refl, ap, sym, ◌∙◌, subst}
use mathlib.Core.Option.{some, some-injective, some-ne-none}
use lib.ListN.{get_elem?}
use Rattle.atomic_table.specs.Table.{Final, Seen, opening}
use Rattle.queue_steps.specs.{Effect.after, Legal.IsShown, Parties.IsWhole, Shares.entire, SlotNext.is_marked, State.State}
use Rattle.queue_laws.specs.Slot.{SlotHolder.SlotHolder, SlotHolder.Nobody, SlotRows.Codes, SlotRows.free_empty, SlotRows.free_full, SlotRows.single, SlotCells.Slot, SlotCells.queue_of, SlotCells.lent_by}
use Rattle.queue_laws.proofs.Slot.SlotCells.{all_nobody}
use Rattle.shared_parties.specs.{declared.known.CallState.CallState, Known.party, Known.view_of, CallStates.idle, CallStates.is_busy, CallStates.IsSeatAlone}
use Rattle.shared_tables.{specs.Seats.count_of, specs.TableRule.Rule, specs.SlotTable.home_under, specs.SlotTable.slot_table, proofs.TableRests.table_ends}
use Rattle.own_cells.specs.OneSlot.OwnSlotCells.{state_of, word_for}
use Rattle.shared_parties.proofs.FirstParty.{first_rests, first_kept}

module _ (T : Type 0) where
  abbrev pub seat : CallState T
  seat = idle (party (Some 1) [] [] entire)

  opening_slot : Slot T
  opening_slot = record { keeps = record { who = 0; hold = Nobody }; items = []; closed = false; accepted = 0 }

  never : (b : Bool) → [] ≡ lent_by (if◌then◌else◌ {A = SlotHolder T} b Nobody Nobody)
  never true = refl
  never false = refl

  -- the beginning
  pub slot_opens : Rule slot_table (opening (1 ∷ 0 ∷ []) (None ∷ []) seat)
  unfolding opening_slot
  slot_opens = record {
    cells = opening_slot;
    words = 0 ∷ [];
    history = [];
    counted = refl;
    coded = (0, None, free_empty false, refl, refl);
    all = record {
      ok = tt;
      state = refl;
      calls = λ j d c e is. absurd (first_rests (Some 1) j d e (ap is_busy is));
      free = λ j none. never (j == 0);
      kept = first_kept (Some 1);
    };
  }

  -- the word and the content of a slot that no call holds, of a queue at Q
  abbrev Left : ℕ → Option T → State T → Type 0
  Left word x Q = (word ≡ word_for x (is_marked word)) × IsShown (state_of word x) Q

  left_by : (word : ℕ) (slot : Option T) (h : SlotHolder T) (items : List T) (c : Bool) (n : ℕ) → h ≡ Nobody → Codes word slot h items c → Left word slot (single items c n)
  left_by word slot h items c n is st = by (subst (λ k. Codes word slot k items c) is st)
    where
      by : {w : ℕ} {x : Option T} {ys : List T} {d : Bool} → Codes w x Nobody ys d → Left w x (single ys d n)
      by (free_empty true) = (refl, record { items = refl; cap = refl; closed = refl; coming = refl; accepted = inl refl })
      by (free_full true x) = (refl, record { items = refl; cap = refl; closed = refl; coming = refl; accepted = inl refl })
      by x = (refl, record { items = refl; cap = refl; closed = refl; coming = refl; accepted = inl refl })

  second_word : (ws : List ℕ) (word : ℕ) → get_elem? ws 1 ≡ some word → get_or ws 1 0 ≡ word
  second_word (y ∷ z ∷ ws) word e = some-injective z word e
  second_word ws word e = absurd (some-ne-none word (sym e))

  -- the end: the only party has every place, and the slot and its word are those of the state after what it has seen
  pub slot_ends : (id : ℕ) (d : CallState T) (ws : List ℕ) (xs : List (Option T)) (word : ℕ) (x : Option T) → IsSeatAlone d → Final (Seen (Rule slot_table) id d) ws xs → get_elem? ws 1 ≡ some word → get_elem? xs 0 ≡ some x
      → (word ≡ word_for x (is_marked word)) × IsShown (state_of word x) (after (Some 1) d.known.seen) × IsWhole (view_of d.known)
  slot_ends id d ws xs word x is end at_word at_slot =
      let s = end.0 in let rule : Rule slot_table s = end.1.0 in let g : Slot T = rule.cells in
      let e = table_ends slot_table s id d rule end.1.1 is in
      let nobody : g.keeps.hold ≡ Nobody = all_nobody g e.nobody in
      let w : ℕ = rule.coded.0 in let y : Option T = rule.coded.1 in
      let found : count_of s ∷ w ∷ [] ≡ ws = ap (λ l. count_of s ∷ l) (sym rule.coded.3) ∙ (sym rule.counted ∙ end.2) in
      let word_is : w ≡ word = ap (λ (l : List ℕ). get_or l 1 0) found ∙ second_word ws word at_word in
      let home : get_elem? s.homes 0 ≡ some (some y) = ap (λ l. get_elem? l 0) rule.coded.4 ∙ ap (λ h. some (home_under h y)) nobody in
      let slot_is : y ≡ x = some-injective y x (sym (end.4 0 y home) ∙ at_slot) in
      let state : queue_of g ≡ after (Some 1) d.known.seen = rule.all.state ∙ ap (after (Some 1)) (sym e.seen) in
      let left : Left word x (after (Some 1) d.known.seen) = subst (λ (z : ℕ × Option T × State T). Left z.0 z.1 z.2) (λ i. (word_is i, slot_is i, state i)) (left_by w y g.keeps.hold g.items g.closed g.accepted nobody rule.coded.2) in
      (left.0, left.1, e.whole)
