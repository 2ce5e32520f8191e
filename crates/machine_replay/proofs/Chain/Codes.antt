-- How a block of the machine stands for a block of a chain, and that it goes on doing so.
use Rattle.std.proofs.Common.{ℕ, ◌+◌, ◌<◌, ◌≡◌, ◌≢◌, ◌∙◌, inl, inr, Option, Some, None, List, length, sym, ap, subst, arith, get_or, set, get_or-set_same, get_or-set_other}
use Rattle.std.proofs.lemmas.{List.length-set, Bool.Decides.eqb_tells}
use Rattle.queue_steps.specs.State.{State}
use Rattle.machine_replay.specs.Vocabulary.{Answer, BLOCK_SLOTS}
use Rattle.queue_laws.specs.{Common.Stand.Stand, Chain.ChainAt.At, Chain.ChainAfter.after_of, Chain.ChainAnswers.linked_of, Chain.ChainAnswers.IsState, Chain.ChainCells.Done, Chain.ChainCells.Chain, Chain.ChainCells.ChainOk, Chain.ChainCells.item_at, Chain.ChainCells.LAST}
use Rattle.queue_laws.proofs.Chain.{ChainStates.done_alike, ChainSlots.lies, ChainSlots.SameSlot, ChainSlots.lies_same, ChainSlots.state_kept, ChainSlots.slot_set, ChainSlots.link_set, ChainSlots.step_slot, ChainSlots.step_link}
use Rattle.machine_memory.specs.{declared.blocks.BlockPlace.BlockPlace, Blocks.blank}

-- these places and this link are those of the chain's block b. The last slot's word does not tell that its item is read
pub record BlockIs {A : Type 0} (c : Chain A) (b : ℕ) (places : List (BlockPlace A)) (next : Option ℕ) : Type 0 where
  pub wide : length places ≡ BLOCK_SLOTS
  pub state : (i : ℕ) → i < BLOCK_SLOTS → (i ≡ LAST → c.readers (item_at b i) ≢ Done) → IsState c b i (get_or places i blank).state
  pub slot : (i : ℕ) → i < BLOCK_SLOTS → (get_or places i blank).item ≡ lies (c.writers (item_at b i)) (c.readers (item_at b i))
  pub linked : next ≡ linked_of (c.links b) (c.names (b + 1))

-- the block of which the place i alone changes
pub block_put : {A : Type 0} (c s : Chain A) (b i : ℕ) (x : BlockPlace A) (places : List (BlockPlace A)) (next : Option ℕ) → BlockIs c b places next → i < BLOCK_SLOTS
    → ((j : ℕ) → j < BLOCK_SLOTS → j ≢ i → SameSlot c s b j)
    → ((i ≡ LAST → s.readers (item_at b i) ≢ Done) → IsState s b i x.state) → x.item ≡ lies (s.writers (item_at b i)) (s.readers (item_at b i))
    → linked_of (c.links b) (c.names (b + 1)) ≡ linked_of (s.links b) (s.names (b + 1))
    → BlockIs s b (set places i x) next
block_put {A} c s b i x places next is low same here lies_here links = record {
  wide = length-set places i x ∙ is.wide;
  state = λ j lt unread. elim (eqb_tells j i) [
    | inl t ↦
        subst (λ k. IsState s b k (get_or (set places i x) k blank).state) (sym t.1)
        (subst (λ p. IsState s b i p.state) (sym (get_or-set_same places i x blank (let w = is.wide in omega arith))) (here (λ last. subst (λ k. s.readers (item_at b k) ≢ Done) t.1 (unread (t.1 ∙ last)))))
    | inr t ↦
        subst (λ p. IsState s b j p.state) (sym (get_or-set_other places i j x blank t.1))
        (state_kept (get_or places j blank).state (same j lt t.1) (is.state j lt (λ last. done_alike (c.readers (item_at b j)) (s.readers (item_at b j)) (sym (same j lt t.1).done) (unread last))))
  ];
  slot = λ j lt. elim (eqb_tells j i) [
    | inl t ↦
        subst (λ k. (get_or (set places i x) k blank).item ≡ lies (s.writers (item_at b k)) (s.readers (item_at b k))) (sym t.1)
        (ap (λ p. p.item) (get_or-set_same places i x blank (let w = is.wide in omega arith)) ∙ lies_here)
    | inr t ↦ ap (λ p. p.item) (get_or-set_other places i j x blank t.1) ∙ (is.slot j lt ∙ lies_same (same j lt t.1))
  ];
  linked = is.linked ∙ links;
}

-- the block of which nothing changes but the link
pub block_same : {A : Type 0} (c s : Chain A) (b : ℕ) (places : List (BlockPlace A)) (next after : Option ℕ) → BlockIs c b places next
    → ((j : ℕ) → j < BLOCK_SLOTS → SameSlot c s b j) → after ≡ linked_of (s.links b) (s.names (b + 1)) → BlockIs s b places after
block_same {A} c s b places next after is same links = record {
  wide = is.wide;
  state = λ j lt unread. state_kept (get_or places j blank).state (same j lt) (is.state j lt (λ last. done_alike (c.readers (item_at b j)) (s.readers (item_at b j)) (sym (same j lt).done) (unread last)));
  slot = λ j lt. is.slot j lt ∙ lies_same (same j lt);
  linked = links;
}

module _ {A : Type 0} {c : Chain A} {who : ℕ} {ms : List (State A)} {k : Stand A} (at : At c who ms k) (a : Answer ℕ) (ok : ChainOk c) (b : ℕ) (places : List (BlockPlace A)) (next : Option ℕ) (is : BlockIs c b places next) (leads : link_set at ≡ None) where
  same_link : linked_of (c.links b) (c.names (b + 1)) ≡ linked_of ((after_of at a).links b) ((after_of at a).names (b + 1))
  same_link = sym (step_link at a ok b (λ e. let z : None ≡ Some b = sym leads ∙ e in cc))

  -- a block of which a step sets the slot i, and one of which it sets none
  pub block_set : (i : ℕ) (x : BlockPlace A) → i < BLOCK_SLOTS → slot_set at ≡ Some (item_at b i)
      → ((i ≡ LAST → (after_of at a).readers (item_at b i) ≢ Done) → IsState (after_of at a) b i x.state) → x.item ≡ lies ((after_of at a).writers (item_at b i)) ((after_of at a).readers (item_at b i))
      → BlockIs (after_of at a) b (set places i x) next
  block_set i x low set here lies_here =
      block_put c (after_of at a) b i x places next is low
      (λ j lt ne. step_slot at a ok b j lt (λ e. let z : Some (item_at b i) ≡ Some (item_at b j) = sym set ∙ e in let y : item_at b i ≡ item_at b j = cc in ne (omega arith))) here lies_here same_link

  pub block_stays : slot_set at ≡ None → BlockIs (after_of at a) b places next
  block_stays none = block_same c (after_of at a) b places next next is (λ j lt. step_slot at a ok b j lt (λ e. let z : None ≡ Some (item_at b j) = sym none ∙ e in cc)) (is.linked ∙ same_link)
