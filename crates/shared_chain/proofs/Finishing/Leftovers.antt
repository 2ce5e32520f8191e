-- Blocks of a chain that nobody shares any more are emptied, one slot after the other.
use Rattle.std.proofs.Common.{◌≡◌, ◌∙◌, ◌⊎◌, inl, inr, ℕ, suc, ◌+◌, ◌-◌, ◌*◌, ◌<◌, ◌≤◌, ◌&&◌, ◌||◌, Bool, true, false, not, bit_and, List, length, Option, Some, None, IfSome, refl, sym, ap, subst, arith, slice_index_or}
use Rattle.std.proofs.lemmas.List.{length-set}
use Rattle.atomic_table.proofs.Lists.{set_else}
use mathlib.Core.Option.{some}
use lib.ListN.{get_elem?}
use denote.RawPtr.{Ptr, null_ptr, InBlock, Testable}
use Rattle.queue_laws.specs.Common.Vocabulary.{LIMIT, BLOCK_SLOTS, WRITE, READ}
use Rattle.mem_blocks.specs.{Web.Block, Web.Home, Web.block, Web.homed, Web.with_home, Web.without, Web.vacant, Web.full, Web.AllVacant, Web.Lives, declared.block.BlockPtr.BlockPtr, declared.sizes.TheConstants.SLOTS}
use Rattle.shared_parties.proofs.CallSteps.{set_at}
use Rattle.shared_chain.specs.Leftover.{SlotLeft, BlockLeft, StaysLeft, BlocksLeft, SameBut, Emptied, IsHere, is_held, any_held}
use Rattle.shared_chain.proofs.Frames.{Blocks.home_here, Blocks.gone_else, Homes.vacant_all, Tested.alive_within}

-- the numbers of blocks that are there, and of their items, fit a word
pub number_fits : (b n : ℕ) → n * BLOCK_SLOTS ≤ 2 * LIMIT → b + 2 < n → b + 2 < 18446744073709551616
number_fits b n few within = omega arith

pub next_fits : (b n : ℕ) → n * BLOCK_SLOTS ≤ 2 * LIMIT → b + 2 < n → b + 1 < 18446744073709551616
next_fits b n few within = omega arith

pub items_small : (b n : ℕ) → n * BLOCK_SLOTS ≤ 2 * LIMIT → b + 2 < n → b * BLOCK_SLOTS ≤ 2 * LIMIT
items_small b n few within = omega arith

pub items_fit : (b n : ℕ) → n * BLOCK_SLOTS ≤ 2 * LIMIT → b + 2 < n → b * BLOCK_SLOTS < 18446744073709551616
items_fit b n few within = omega arith

-- fewer blocks are left behind one that is there
fewer_left : (b old new : ℕ) → new ≡ old → b + 2 < old → new - (b + 1) < old - b
fewer_left b old new long within = omega arith

negated : (b h : Bool) → not b && not h ≡ not (b || h)
negated true h = refl
negated false h = refl

module _ {A : Type 0} where
  -- the item of a slot is taken out
  pub emptied_slot : (bs new : List (Block A)) (k slot : ℕ) (v : A) → k < length bs → new ≡ with_home bs k slot vacant → get_elem? (block bs k).homes slot ≡ some (full v)
      → Emptied (λ j. j ≡ slot) true (block bs k) (block new k)
  emptied_slot bs new k slot v within is lies = subst (λ (y : Block A). Emptied (λ j. j ≡ slot) true (block bs k) y) (sym (ap (λ ys. block ys k) is ∙ home_here bs k slot vacant within)) (record {
    at = refl;
    alive = refl;
    next = refl;
    words = refl;
    homes = length-set (block bs k).homes slot vacant;
    others = λ j ne. set_else (block bs k).homes slot j vacant ne;
    vacated = λ e j same. subst (λ i. get_elem? (homed (block bs k) slot vacant).homes i ≡ some vacant) (sym same) (set_at (block bs k).homes slot (full v) vacant lies);
  })

  -- a slot at which nothing was done
  pub slot_stays : (taken accepted n i : ℕ) (old new : Block A) → new.words ≡ old.words → get_elem? new.homes i ≡ get_elem? old.homes i → SlotLeft taken accepted n i old → SlotLeft taken accepted n i new
  slot_stays taken accepted n i old new words home left = record {
    read = λ lt set. home ∙ left.read lt (λ e. set (ap (λ ws. bit_and (slice_index_or ws i 0) READ) words ∙ e));
    written = λ le set. let w = left.written le (λ e. set (ap (λ ws. bit_and (slice_index_or ws i 0) WRITE) words ∙ e)) in (w.0, home ∙ w.1);
    free = λ le. home ∙ left.free le;
  }

  -- whether a call has one of the slots, which are looked at one after the other
  module _ (taken accepted n : ℕ) (old new : Block A) where
    pub none_held : true ≡ not (any_held taken accepted n 0 old)
    unfolding any_held
    none_held = refl

    pub told_on : (i : ℕ) (e v : Bool) → new.words ≡ old.words → e ≡ not (any_held taken accepted n i old) → v ≡ not (is_held taken accepted (n + i) i new) → (e && v) ≡ not (any_held taken accepted n (i + 1) old)
    unfolding any_held
    told_on i e v words before here =
        let next : i + 1 ≡ suc i = omega arith in
        let same : is_held taken accepted (n + i) i new ≡ is_held taken accepted (n + i) i old = rw words refl in
        rw (next, before, here ∙ ap not same) (negated (any_held taken accepted n i old) (is_held taken accepted (n + i) i old))

  -- a block all of whose slots are empty then may be given up
  pub emptied_vacant : (old new : Block A) (hs : List (Home A)) → length old.homes ≡ SLOTS → Emptied (λ j. j < SLOTS) true old new → hs ≡ new.homes → (length hs ≡ SLOTS) × AllVacant hs
  emptied_vacant old new hs long e is = subst (λ ys. (length ys ≡ SLOTS) × AllVacant ys) (sym is) (e.homes ∙ long, vacant_all new.homes (λ j lt. e.vacated refl j (let l = e.homes in omega arith)))

  -- the block that a link leads to is there
  pub here_within : (n : ℕ) (o : Option (BlockPtr A)) (l : BlockPtr A) (bs : List (Block A)) → o ≡ Some l → IsHere n o bs → n + 2 < length bs
  here_within n o l bs is here = let h = subst (λ z. IsHere n z bs) is here in alive_within bs (n + 2) h.1.0

  -- its link may be compared with null once it is emptied, and it is still there
  pub emptied_next : (r : Ptr) (old new : Block A) {P : ℕ → Type 0} {empty : Bool} → r ≡ new.next → Emptied P empty old new → Testable old.next → Testable r
  emptied_next r old new is e tested = subst (λ p. Testable p) (sym (is ∙ e.next)) tested

  pub emptied_lives : (p : Ptr) (old new : List (Block A)) (k : ℕ) {P : ℕ → Type 0} {empty : Bool} → Emptied P empty (block old k) (block new k) → Lives old k p → Lives new k p
  emptied_lives p old new k e lives = (e.alive ∙ lives.0, e.at ∙ lives.1)

  -- blocks that were emptied, or taken out, before this one
  pub same_behind : (k : ℕ) (old mid new : List (Block A)) → SameBut k old mid → (new ≡ mid) ⊎ (new ≡ without mid k) → SameBut k old new
  same_behind k old mid new same (inl is) = subst (λ ys. SameBut k old ys) (sym is) same
  same_behind k old mid new same (inr is) = subst (λ ys. SameBut k old ys) (sym is) (record {
    long = length-set mid k _ ∙ same.long;
    others = λ j ne. gone_else mid k j ne ∙ same.others j ne;
  })

  -- what stays left of the blocks behind one at which something was done
  module _ (taken accepted b : ℕ) (old new : List (Block A)) (same : SameBut (b + 2) old new) (left : BlocksLeft taken accepted b old) where
    stays_behind : (j : ℕ) → b + 1 ≤ j → j + 2 < length new → StaysLeft taken accepted j new
    stays_behind j le lt =
        let long = same.long in
        let here : block new (j + 2) ≡ block old (j + 2) = same.others (j + 2) (λ e. omega (arith, e, le)) in
        let next : block new (j + 3) ≡ block old (j + 3) = same.others (j + 3) (λ e. omega (arith, e, le)) in
        let was = left.stays j (omega (arith, le)) (omega (arith, lt, long)) in
        record {
          alive = ap (λ (x : Block A). x.alive) here ∙ was.alive;
          block_left = subst (λ (x : Block A). BlockLeft taken accepted (j * BLOCK_SLOTS) x) (sym here) was.block_left;
          tested = subst (λ (x : Block A). Testable x.next) (sym here) was.tested;
          leads = subst (λ (z : Block A × Block A × ℕ). (z.0.next ≡ null_ptr) ⊎ ((j + 3 < z.2) × (z.0.next ≡ z.1.at))) (λ i. (sym here i, sym next i, sym long i)) was.leads;
        }

    pub fewer_behind : b + 2 < length old → length new - (b + 1) < length old - b
    fewer_behind within = fewer_left b (length old) (length new) same.long within

    pub left_behind : BlocksLeft taken accepted (b + 1) new
    left_behind = record {
      few = subst (λ n. n * BLOCK_SLOTS ≤ 2 * LIMIT) (sym same.long) left.few;
      stays = stays_behind;
    }

    -- the link of the block leads to the one behind it, or nowhere
    pub here_behind : (o : Option (BlockPtr A)) (p : Ptr) → b + 2 < length old → p ≡ (block old (b + 2)).next → IfSome o (λ l. (l.ptr ≡ p) × InBlock l.ptr) → IsHere (b + 1) o new
    here_behind None p lt is found = tt
    here_behind (Some l) p lt is found = (found.1, go (left.stays b (omega arith) lt).leads) where
      number : b + 3 ≡ b + 1 + 2
      number = omega arith

      go : ((block old (b + 2)).next ≡ null_ptr) ⊎ ((b + 3 < length old) × ((block old (b + 2)).next ≡ (block old (b + 3)).at)) → Lives new (b + 1 + 2) l.ptr
      go (inl null) = absurd (subst InBlock (found.0 ∙ is ∙ null) found.1)
      go (inr at) =
          let next = same.others (b + 1 + 2) (λ e. omega (arith, e)) in (
            ap (λ (x : Block A). x.alive) next ∙ (left.stays (b + 1) (omega arith) (omega (arith, at.0))).alive,
            ap (λ (x : Block A). x.at) next ∙ sym (found.0 ∙ is ∙ at.1 ∙ ap (λ n. (block old n).at) number),
          )
