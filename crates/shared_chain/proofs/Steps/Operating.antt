-- The operation of a ready call's step may be done on the chain, and what it answered at run time is what it answered with names.
use Rattle.std.proofs.Common.{ℕ, ◌+◌, ◌%◌, ◌^◌, ◌≡◌, ◌∙◌, true, Option, Some, None, List, [], refl, sym, ap, subst, ◌<◌, arith}
use denote.RawPtr.{Ptr, InBlock, Testable}
use Rattle.queue_laws.specs.Common.{Vocabulary.Word, Vocabulary.Link, Vocabulary.Op, Vocabulary.Touch, Vocabulary.Answer, Vocabulary.Local, Operations.op_word, Operations.op_makes, Operations.answer_for, Vocabulary.BLOCK_SLOTS}
use Rattle.mem_blocks.specs.{Web.State, Web.Block, Web.Sitter, Web.Allows, Web.AllowsLink, Web.sitter, declared.block.BlockPtr.BlockPtr as Place, declared.hub.TheConstants.TAIL}
use Rattle.shared_parties.specs.{declared.known.CallState.CallState, declared.known.InCall.InCall, Calling.touched_list}
use Rattle.shared_chain.specs.{Spots.spot, Names.link_of, Names.word_map, Names.link_map, Names.op_map, Names.answer_map, Names.is_set_once, Rule.Rule, Turning.CanOperate, Turning.Operated, Turning.carried_place}
use Rattle.shared_chain.specs.Steps.{HasWord, MayDo, MayTouch, fresh_at, op_place, word_index, link_makes, hand_by, slot_block, carried_by, Follows, FollowsLink, FollowsGrant}
use Rattle.shared_chain.proofs.Steps.{Allowed.IsWordOp, Allowed.IsRead, Allowed.allows_word, Allowed.allows_added, Allowed.allows_link, Allowed.allows_store, Asking.allows_grant, Asking.allows_refusal}

-- the operation with names that one at run time stands for
abbrev Named : {T : Type 0} → Op (Place T) → Op ℕ → Type 0
Named (Op.Load w) o = (v : Word ℕ) × (o ≡ Op.Load v) × (w ≡ word_map link_of v)
Named (Op.Store w x) o = (v : Word ℕ) × (o ≡ Op.Store v x) × (w ≡ word_map link_of v)
Named (Op.Add w x) o = (v : Word ℕ) × (o ≡ Op.Add v x) × (w ≡ word_map link_of v)
Named (Op.Or w x) o = (v : Word ℕ) × (o ≡ Op.Or v x) × (w ≡ word_map link_of v)
Named (Op.And w x) o = (v : Word ℕ) × (o ≡ Op.And v x) × (w ≡ word_map link_of v)
Named (Op.Exchange w x y) o = (v : Word ℕ) × (o ≡ Op.Exchange v x y) × (w ≡ word_map link_of v)
Named (Op.LoadLink l) o = (k : Link ℕ) × (o ≡ Op.LoadLink k) × (l ≡ link_map link_of k)
Named (Op.StoreLink l p) o = (k : Link ℕ) × (f : ℕ) × (o ≡ Op.StoreLink k f) × (l ≡ link_map link_of k) × (p ≡ link_of f)
Named (Op.Install p) o = (f : ℕ) × (o ≡ Op.Install f) × (p ≡ link_of f)
Named Op.Ask o = o ≡ Op.Ask

named_map : (T : Type 0) (o : Op ℕ) → Named (op_map (link_of {T = T}) o) o
named_map T (Op.Load w) = (w, refl, refl)
named_map T (Op.Store w x) = (w, refl, refl)
named_map T (Op.Add w x) = (w, refl, refl)
named_map T (Op.Or w x) = (w, refl, refl)
named_map T (Op.And w x) = (w, refl, refl)
named_map T (Op.Exchange w x y) = (w, refl, refl)
named_map T (Op.LoadLink l) = (l, refl, refl)
named_map T (Op.StoreLink l f) = (l, f, refl, refl, refl)
named_map T (Op.Install f) = (f, refl, refl)
named_map T Op.Ask = refl

-- bits that are set once are so by whatever name
once_named : (T : Type 0) (w : Word ℕ) (bits : ℕ) → is_set_once (word_map (link_of {T = T}) w) bits ≡ is_set_once w bits
once_named T (Word.State name i) bits = refl
once_named T w bits = refl

-- where the word of an operation lies
abbrev Reached : Ptr → Ptr → Op ℕ → Ptr → ℕ → Type 0
Reached te he a p i = (p ≡ op_place te he a) × (i ≡ word_index (op_word a))

-- the number of a word that a chain has
index_low : (w : Word ℕ) → HasWord w → word_index w < BLOCK_SLOTS
index_low (Word.State name i) has = has
index_low Word.Tail has = omega arith
index_low Word.Head has = omega arith
index_low w has = absurd has

op_low : {T : Type 0} (l : Local ℕ) (o : Op ℕ) (xs : List (ℕ × Option T)) → IsWordOp o → MayDo l o xs → word_index (op_word o) < BLOCK_SLOTS
op_low l (Op.Load w) xs word may = index_low w may
op_low l (Op.Store w x) xs word may = index_low w may
op_low l (Op.Add w x) xs word may = index_low w may
op_low l (Op.Or w x) xs word may = index_low w may
op_low l (Op.And w x) xs word may = absurd may
op_low l (Op.Exchange w x y) xs word may = index_low w may
op_low l o xs word may = absurd word

-- a step tells what it told
allows_as : {S V : Type 0} (holds : State S V → Type 0) (id : ℕ) (m : Sitter S V) (p : Ptr) (i : ℕ) (f : ℕ → ℕ) (P Q : ℕ → Sitter S V → Type 0) → ((n : ℕ) (q : Sitter S V) → P n q → Q n q) → Allows holds id m p i f P → Allows holds id m p i f Q
allows_as holds id m p i f P Q more allows s rule here = let d = allows s rule here in (d.0, d.1, λ small. let z = d.2 small in (z.0, z.1, z.2, z.3, more _ _ z.4))

module _ {T : Type 0} (m : Sitter T (CallState T)) (o : Op (Place T)) (c : InCall T) (can : CanOperate m o c) where
  pub named : (a : Op (Place T)) → o ≡ a → Named a c.op
  named a is = subst (λ (x : Op (Place T)). Named x c.op) (can.op ∙ is) (named_map T c.op)

  may_as : (a : Op ℕ) → c.op ≡ a → MayDo c.local a c.lends
  may_as a is = subst (λ (x : Op ℕ). MayDo c.local x c.lends) is can.may.0

  module _ (te he : Ptr) (id : ℕ) where
    -- an operation on a word, which lies here
    pub may_do : (a : Op ℕ) (p : Ptr) (i : ℕ) → c.op ≡ a → IsWordOp a → Reached te he a p i → Allows (Rule te he) id m p i (op_makes a) (λ n q. Follows c (answer_for c.op n) q)
    may_do a p i is word (at, number) =
        subst (λ (z : Ptr × ℕ). Allows (Rule te he) id m z.0 z.1 (op_makes a) (λ n q. Follows c (answer_for c.op n) q)) (λ j. (sym at j, sym number j))
        (subst (λ (z : Op ℕ). Allows (Rule te he) id m (op_place te he z) (word_index (op_word z)) (op_makes z) (λ n q. Follows c (answer_for c.op n) q)) is
        (allows_word te he id m c can.ready can.holds (subst IsWordOp (sym is) word) (op_low c.local c.op c.lends (subst IsWordOp (sym is) word) can.may.0)))

    -- bits that are set once are added
    pub may_add : (w : Word ℕ) (at_run : Word (Place T)) (bits : ℕ) (p : Ptr) (i : ℕ) → c.op ≡ Op.Or w bits → at_run ≡ word_map link_of w → is_set_once at_run bits ≡ true → Reached te he (Op.Or w bits) p i
        → (by : ℕ) → by ≡ bits → Allows (Rule te he) id m p i (λ n. (n + by) % 2 ^ 64) (λ n q. Follows c (answer_for c.op n) q)
    may_add w at_run bits p i is stands once (at, number) by all =
        subst (λ (z : Ptr × ℕ × ℕ). Allows (Rule te he) id m z.0 z.1 (λ n. (n + z.2) % 2 ^ 64) (λ n q. Follows c (answer_for c.op n) q)) (λ j. (sym at j, sym number j, sym all j))
        (subst (λ (z : Op ℕ). Allows (Rule te he) id m (op_place te he z) (word_index (op_word z)) (λ n. (n + bits) % 2 ^ 64) (λ n q. Follows c (answer_for c.op n) q)) is
        (allows_added te he id m c w bits can.ready can.holds is (sym (once_named T w bits) ∙ (ap (λ (z : Word (Place T)). is_set_once z bits) (sym stands) ∙ once)) (op_low c.local c.op c.lends (subst IsWordOp (sym is) tt) can.may.0)))

    -- a store tells the same, whatever it found
    pub may_store : (w : Word ℕ) (x : ℕ) (p : Ptr) (i : ℕ) → c.op ≡ Op.Store w x → Reached te he (Op.Store w x) p i → Allows (Rule te he) id m p i (λ n. x) (λ n q. Follows c (answer_for c.op x) q)
    may_store w x p i is at =
        allows_as (Rule te he) id m p i (λ n. x) (λ n q. Follows c (answer_for c.op n) q) (λ n q. Follows c (answer_for c.op x) q) (λ n q. subst (λ (a : Answer ℕ). Follows c a q) (same n)) (may_do (Op.Store w x) p i is tt at)
      where
        same : (n : ℕ) → answer_for c.op n ≡ answer_for c.op x
        same n = ap (λ z. answer_for z n) is ∙ sym (ap (λ z. answer_for z x) is)

    -- the load and the install of a link
    pub may_read : (a : Op ℕ) (p : Ptr) → c.op ≡ a → IsRead a → p ≡ op_place te he a → AllowsLink (Rule te he) id m p (link_makes a) (λ q k. FollowsLink c q k)
    may_read a p is reads at =
        subst (λ z. AllowsLink (Rule te he) id m z (link_makes a) (λ q k. FollowsLink c q k)) (sym at)
        (subst (λ (z : Op ℕ). AllowsLink (Rule te he) id m (op_place te he z) (link_makes z) (λ q k. FollowsLink c q k)) is
        (allows_link te he id m c can.ready can.holds (subst IsRead (sym is) reads)))

    pub may_lead : (l : Link ℕ) (f : ℕ) (p q : Ptr) → c.op ≡ Op.StoreLink l f → p ≡ op_place te he (Op.StoreLink l f) → q ≡ spot f → AllowsLink (Rule te he) id m p (λ _. q) (λ _ k. Follows c Answer.Done k)
    may_lead l f p q is at leads =
        subst (λ (z : Ptr × Ptr). AllowsLink (Rule te he) id m z.0 (λ _. z.1) (λ _ k. Follows c Answer.Done k)) (λ j. (sym at j, sym leads j))
        (subst (λ (z : Op ℕ). AllowsLink (Rule te he) id m (op_place te he z) (λ _. spot f) (λ _ k. Follows c Answer.Done k)) is
        (allows_store te he id m c l f can.ready can.holds is))

module _ {T : Type 0} (c : InCall T) where
  -- what a step told is what it answered
  pub told : (a : Op ℕ) (n : ℕ) (q : Sitter T (CallState T)) → c.op ≡ a → Follows c (answer_for c.op n) q → Operated c (answer_map link_of (answer_for a n)) q
  told a n q is follows = (answer_for a n, refl, subst (λ (z : Op ℕ). Follows c (answer_for z n) q) is follows)

-- a call that asks has no slot and no spare
touches_nothing : {T : Type 0} (l : Local ℕ) (t : Touch) (v : Option T) (xs : List (ℕ × Option T)) → MayTouch l t Op.Ask v xs → t ≡ Touch.Nothing
touches_nothing l Touch.Nothing v xs may = refl
touches_nothing l (Touch.Swap i) v xs may = absurd may
touches_nothing l t v xs may = absurd (let e = may.0 in cc)

module _ {T : Type 0} (m : Sitter T (CallState T)) (c : InCall T) (can : CanOperate m Op.Ask c) where
  pub asks : c.op ≡ Op.Ask
  asks = named m Op.Ask c can Op.Ask refl

  may : MayDo c.local Op.Ask c.lends
  may = may_as m Op.Ask c can Op.Ask asks

  untouched : touched_list c.touch c.carried c.lends ≡ []
  untouched = ap (λ t. touched_list t c.carried c.lends) (touches_nothing c.local c.touch c.carried c.lends (subst (λ (z : Op ℕ). MayTouch c.local c.touch z c.carried c.lends) asks can.may.1)) ∙ may.0

  pub asks_empty : m.hand ≡ None
  asks_empty = can.holds.0 ∙ ap (hand_by (slot_block c.local c.op)) untouched

  pub asks_light : m.spare ≡ None
  asks_light = can.holds.1 ∙ ap carried_by may.1

  -- the look after a request that was refused
  pub may_refuse : (te he p : Ptr) (id : ℕ) → te ≡ p → Allows (Rule te he) id m p TAIL (λ n. n) (λ n q. Follows c Answer.Refused q)
  may_refuse te he p id at = allows_refusal te he id m c p at can.ready asks_empty asks_light asks

  -- the look after one that was granted, with the block that the seat took up then
  pub may_grant : (te he p : Ptr) (id : ℕ) (k : Sitter T (CallState T)) (q : Ptr) (x : Block T) → te ≡ p → k ≡ sitter m.view m.hand (Some x) → x ≡ fresh_at q → InBlock q × Testable q
      → Allows (Rule te he) id k p TAIL (λ n. n) (λ n r. FollowsGrant c (carried_place k) r)
  may_grant te he p id k q x at holds fresh lies =
      subst (λ (z : Sitter T (CallState T)). Allows (Rule te he) id z p TAIL (λ n. n) (λ n r. FollowsGrant c (carried_place z) r)) (sym (holds ∙ ap (λ (b : Block T). sitter m.view m.hand (Some b)) fresh))
      (allows_grant te he id (sitter m.view m.hand (Some (fresh_at q))) c p q at can.ready asks_empty refl lies asks)
