-- The touch of a slot leaves a call where it stands.
use Rattle.std.proofs.Common.{ℕ, ◌≡◌, ◌∙◌, true, Option, Some, None, List, [], ◌∷◌, refl, sym, ap, subst, inl, inr}
use denote.RawPtr.{Ptr, null_ptr}
use Rattle.atomic_table.specs.Table.{rest}
use Rattle.queue_laws.specs.Common.Vocabulary.{Call, Word, Op, Touch, Local}
use Rattle.mem_blocks.specs.{Web.Block, Web.Hand, Web.Sitter, Web.alive_at, Seats.Sits, Seats.Same, declared.block.BlockPtr.BlockPtr as Place, declared.web.Seat.Seat, declared.web.Web.Web}
use Rattle.shared_parties.specs.{declared.known.CallState.CallState, declared.known.InCall.InCall, declared.known.Work.Work as work, Calling.touched_list, Calling.handed_by, Calling.lies_in, CallsAt.Ready, Called.call_of_work, Called.begun_by}
use Rattle.shared_chain.specs.{Spots.spot, ChainCalls.chain_calls, Steps.slot_block, Steps.hand_by, Steps.HoldsBy, Steps.MayTouch, Names.link_of, Names.name_map, Names.local_map, Names.op_map, Names.state_block}
use Rattle.shared_chain.specs.Turning.{unnamed, call_at, CanDo, CanOperate, CanTouch, Swapped, Touched}

-- a block that lives is what it is made of
pub carried_block : {T : Type 0} (y : Block T) → y.alive ≡ true → y ≡ alive_at y.at y.next y.words y.homes
carried_block y lives = λ i. record { at = y.at; alive = lives i; next = y.next; words = y.words; homes = y.homes }

-- a seat that is the one that it was, twice
pub same_twice : {S V A : Type 0} (a b c : Seat S V A) → Same c b → Same b a → Same c a
same_twice a b c later first = (later.0 ∙ first.0, later.1 ∙ first.1, later.2 ∙ first.2)

-- it sits where it sat
pub sits_still : {S V K P A : Type 0} (w : Web S V K P A) (a b : Seat S V A) → Same b a → Sits a w → Sits b w
sits_still w a b same sits = (same.0 ∙ sits.0, same.1 ∙ sits.1)

-- the block whose state an operation is on, with other names
state_map : {B C : Type 0} (f : B → C) (o : Op B) → state_block (op_map f o) ≡ name_map f (state_block o)
state_map f (Op.Load (Word.State b i)) = refl
state_map f (Op.Or (Word.State b i) x) = refl
state_map f o = refl

-- the place of the slot in hand, and what lies in it
abbrev hand_place : {T : Type 0} → Option (Hand T) → Ptr
hand_place None = null_ptr
hand_place (Some h) = h.0

abbrev hand_content : {T : Type 0} → Option (Hand T) → Option T
hand_content None = None
hand_content (Some h) = h.2

module _ {T : Type 0} where
  -- the slot in the seat's hand is that of the call's block
  block_is : (l : Local ℕ) (o : Op ℕ) (p : Op (Place T)) → op_map link_of o ≡ p → state_block o ≡ Some (slot_block l o) → state_block p ≡ Some (link_of (slot_block l o))
  block_is l o p is at = ap state_block (sym is) ∙ (state_map link_of o ∙ ap (name_map link_of) at)

  pub can_touch : (m : Sitter T (CallState T)) (l : Local (Place T)) (u : Touch) (o : Op (Place T)) (x : Option T) (c : InCall T) → CanDo m l u o x c → CanTouch m u o x
  can_touch m l u o x c can = go u (subst (λ t. MayTouch c.local t c.op c.carried c.lends) can.touch can.may.1)
    where
      go : (t : Touch) → MayTouch c.local t c.op c.carried c.lends → CanTouch m t o x
      go Touch.Nothing may = tt
      go (Touch.Put i) (at, lends, (v, carried)) = (link_of (slot_block c.local c.op), block_is c.local c.op o can.op at, tt, can.holds.0 ∙ ap (hand_by (slot_block c.local c.op)) lends, (v, sym can.carried ∙ carried))
      go (Touch.Take i) (at, none, (v, lends)) = (link_of (slot_block c.local c.op), block_is c.local c.op o can.op at, tt, (v, can.holds.0 ∙ ap (hand_by (slot_block c.local c.op)) lends), sym can.carried ∙ none)
      go (Touch.Swap i) may = may

  -- a seat that has a slot is in the middle of its call
  in_call : (m : Sitter T (CallState T)) (c : InCall T) (k : ℕ) (y : Option T) → Ready chain_calls m.view c → c.lends ≡ (k, y) ∷ [] → m.view.work ≡ work.Calls c
  in_call m c k y (inl is) lends = is
  in_call m c k y (inr first) lends = absurd (let f : [] ≡ (k, y) ∷ [] = sym first.lends ∙ lends in cc)

  -- what is so once the slot is touched
  pub record TouchedAt (k : Call Unit) (l : Local (Place T)) (u : Touch) (o : Op (Place T)) (x : Option T) (m m' : Sitter T (CallState T)) (y : Option T) : Type 0 where
    pub same : call_at m' k l u o y ≡ call_at m k l u o x
    pub can : CanOperate m' o (call_at m' k l u o y)
    pub handed : y ≡ handed_by u x (call_at m k l u o x).lends

  pub touched_at : (k : Call Unit) (l : Local (Place T)) (u : Touch) (o : Op (Place T)) (x : Option T) (m m' : Sitter T (CallState T)) (y : Option T) → CanDo m l u o x (call_at m k l u o x) → Touched m u x m' y → TouchedAt k l u o x m m' y
  touched_at k l u o x m m' y can touched = by u can touched
    where
      swapped : (v : Touch) (i : ℕ) (z : Option T) → CanDo m l v o x (call_at m k l v o x) → (call_at m k l v o x).lends ≡ (i, z) ∷ [] → ((xs : List (ℕ × Option T)) → touched_list v x xs ≡ (i, x) ∷ rest xs)
          → ((xs : List (ℕ × Option T)) → handed_by v x xs ≡ lies_in xs) → Swapped m i x m' y → TouchedAt k l v o x m m' y
      swapped v i z can lends list hand (p, was, is) =
          let c = call_at m k l v o x in
          let at : m.view.work ≡ work.Calls c = in_call m c i z can.ready lends in
          let at' : m'.view.work ≡ work.Calls c = ap (λ (q : Sitter T (CallState T)). q.view.work) is ∙ at in
          let same : call_at m' k l v o y ≡ c = ap (call_of_work (begun_by m'.view k (local_map unnamed l) v (op_map unnamed o) y)) at' in
          let name = slot_block c.local c.op in
          let held : Some (p, i, y) ≡ Some (spot name, i, z) = sym was ∙ (can.holds.0 ∙ ap (hand_by name) lends) in
          let list_is : touched_list c.touch c.carried c.lends ≡ (i, x) ∷ rest c.lends = (λ j. touched_list (can.touch j) (can.carried j) c.lends) ∙ list c.lends in record {
            same = same;
            can = subst (CanOperate m' o) (sym same) (record {
              op = can.op;
              ready = inl at';
              may = can.may;
              holds = (
                ap (λ (q : Sitter T (CallState T)). q.hand) is ∙ (ap (λ q. Some (q, i, x)) (ap hand_place held) ∙ sym (ap (hand_by name) list_is)),
                ap (λ (q : Sitter T (CallState T)). q.spare) is ∙ can.holds.1,
              );
            });
            handed = ap hand_content held ∙ (ap lies_in (sym lends) ∙ sym (hand c.lends));
          }

      by : (v : Touch) → CanDo m l v o x (call_at m k l v o x) → Touched m v x m' y → TouchedAt k l v o x m m' y
      by Touch.Nothing can (same, kept) =
          let c = call_at m k l Touch.Nothing o x in
          let is : call_at m' k l Touch.Nothing o y ≡ c = λ i. call_at (same i) k l Touch.Nothing o (kept i) in record {
            same = is;
            can = subst (λ (z : Sitter T (CallState T) × InCall T). CanOperate z.0 o z.1) (λ i. (sym same i, sym is i)) (record {
              op = can.op;
              ready = can.ready;
              may = can.may;
              holds = subst (λ xs. HoldsBy c.local c.op xs m) (sym (ap (λ w. touched_list w c.carried c.lends) can.touch)) can.holds;
            });
            handed = kept;
          }
      by (Touch.Put i) can swap = let h = subst (λ t. MayTouch (call_at m k l (Touch.Put i) o x).local t (call_at m k l (Touch.Put i) o x).op (call_at m k l (Touch.Put i) o x).carried (call_at m k l (Touch.Put i) o x).lends) can.touch can.may.1 in
          swapped (Touch.Put i) i None can h.1 (λ xs. refl) (λ xs. refl) swap
      by (Touch.Take i) can swap = let h = subst (λ t. MayTouch (call_at m k l (Touch.Take i) o x).local t (call_at m k l (Touch.Take i) o x).op (call_at m k l (Touch.Take i) o x).carried (call_at m k l (Touch.Take i) o x).lends) can.touch can.may.1 in
          swapped (Touch.Take i) i (Some h.2.0) can h.2.1 (λ xs. refl) (λ xs. refl) swap
      by (Touch.Swap i) can swap = absurd (subst (λ t. MayTouch (call_at m k l (Touch.Swap i) o x).local t (call_at m k l (Touch.Swap i) o x).op (call_at m k l (Touch.Swap i) o x).carried (call_at m k l (Touch.Swap i) o x).lends) can.touch can.may.1)
