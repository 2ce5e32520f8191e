-- A ring of the laws of parties of which nobody has a slot is one with one owner, between calls and in the same state.
use Rattle.std.proofs.Common.{◌≡◌, ℕ, zero, suc, ◌+◌, ◌-◌, ◌%◌, ◌<◌, ◌≤◌, List, [], ◌∷◌, length, get_or, Option, Some, None, refl, ap, sym, ◌∙◌, subst, arith, slice_get}
use Rattle.queue_steps.specs.Words.{position_of, is_shut, stamp_filled}
use Rattle.queue_laws.proofs.{Common.Tails.position_tail, Common.Tails.shut_tail, Ring.RingTransitions.in_ring, Ring.RingIdle.AtRest}
use Rattle.queue_laws.specs.Ring.{RingCells.Ring, RingCells.queue_of, RingCells.RingOk, RingShared.Shared, RingWords.Codes}
use Rattle.own_cells.specs.OneRing.{RingCells.RingState, RingOwned.at_position, RingOwned.HoldsItems, RingOwned.put_in, RingOwned.items_of, RingOwned.IsIdle, RingOwned.ring_queue}

module _ {T : Type 0} where
  -- items that lie one after the other from position p on are the list of those positions
  items_are : (n k p : ℕ) (slots : List (Option T)) (items : List T) → length items ≡ k → ((i : ℕ) → i < k → (x : T) × (at_position n slots (p + i) ≡ Some x) × (slice_get items i ≡ Some x)) → items_of n slots p k ≡ items
  items_are n zero p slots [] long at = refl
  items_are n (suc k) p slots (x ∷ items) long at =
      let first = at 0 (omega arith) in
      let here : p + 0 ≡ p = omega arith in
      let x_is : Some first.0 ≡ Some x = sym first.2 in
      let item : at_position n slots p ≡ Some x = ap (at_position n slots) (sym here) ∙ (first.1 ∙ x_is) in
      let behind : items_of n slots (p + 1) k ≡ items = items_are n k (p + 1) slots items (omega (arith, long)) (λ i lt.
      let a = at (suc i) (omega arith) in
      let next : p + 1 + i ≡ p + suc i = omega arith in
      (a.0, ap (at_position n slots) next ∙ a.1, a.2)) in
      ap (λ o. put_in o (items_of n slots (p + 1) k)) item ∙ ap (λ l. x ∷ l) behind
  items_are n k p slots items long at = absurd (omega (arith, long))

  module _ (cap : ℕ) (g : Ring T) (s : Shared T) (slots : List (Option T)) (ok : RingOk cap g) (codes : Codes cap g s) (rest : AtRest cap g s) (long : length slots ≡ cap)
      (lies : (i : ℕ) → i < cap → get_or slots i None ≡ get_or s.slots i None) where
    -- the ring of these words and of slots with that content
    abbrev pub rested : RingState T
    rested = record { cap = cap; head = s.head; tail = s.tail; stamps = s.stamps; slots = slots }

    tail_is : position_of s.tail ≡ g.tail
    tail_is = ap position_of codes.tail ∙ position_tail g.tail g.closed

    shut_is : is_shut s.tail ≡ g.closed
    shut_is = ap is_shut codes.tail ∙ shut_tail g.tail g.closed

    filled_at : (p : ℕ) → g.head ≤ p → p < g.tail → (x : T) × (get_or s.stamps (p % cap) 0 ≡ stamp_filled p) × (at_position cap slots p ≡ Some x) × (slice_get g.items (p - g.head) ≡ Some x)
    filled_at p low high = let f = rest.filled p low high in (f.0, f.1, lies (p % cap) (in_ring cap p ok.ring) ∙ f.2, f.3)

    holds : HoldsItems cap g.head g.tail s.stamps slots
    holds = record {
      some = let wide : 1 < cap = ok.ring.0 in omega arith;
      stamped = codes.stamped;
      slotted = long;
      order = let c = ok.count in omega arith;
      within = ok.room;
      filled = λ p low high. let f = filled_at p low high in (f.0, f.1, f.2);
      free = λ p low high. let f = rest.free p low high in (f.0, lies (p % cap) (in_ring cap p ok.ring) ∙ f.1);
    }

    items : items_of cap slots g.head (g.tail - g.head) ≡ g.items
    items = items_are cap (g.tail - g.head) g.head slots g.items (let c = ok.count in omega arith) (λ i lt.
        let f = filled_at (g.head + i) (omega arith) (omega arith) in
        let back : g.head + i - g.head ≡ i = omega arith in
        (f.0, f.2, ap (slice_get g.items) (sym back) ∙ f.3))

    pub rested_idle : IsIdle rested
    rested_idle = record {
      ring = ok.ring;
      below = let m = ok.most in omega (arith, tail_is, m);
      holds = subst (λ (z : ℕ × ℕ). HoldsItems cap z.0 z.1 s.stamps slots) (λ i. (sym codes.head i, sym tail_is i)) holds;
    }

    pub rested_queue : ring_queue rested ≡ queue_of cap g
    rested_queue =
        let listed : items_of cap slots s.head (position_of s.tail - s.head) ≡ g.items = (λ i. items_of cap slots (codes.head i) (tail_is i - codes.head i)) ∙ items in
        λ i. record { items = listed i; cap = Some cap; closed = shut_is i; coming = sym rest.none_coming i; accepted = tail_is i }
