-- What a step of a call on the chain leaves of the blocks of a web, by the laws of the chain.
use Rattle.std.proofs.Common.{ℕ, ◌+◌, ◌<◌, ◌≡◌, ◌≢◌, ◌∙◌, Bool, Option, Some, None, List, length, refl, sym, ap, subst, arith, lit<}
use denote.RawPtr.{Ptr}
use Rattle.queue_laws.specs.Common.{Vocabulary.Word, Vocabulary.Link, Vocabulary.Op, Vocabulary.Answer, Vocabulary.BLOCK_SLOTS, Operations.op_word, Stand.Stand}
use Rattle.queue_laws.specs.Chain.{ChainCells.Chain, ChainCells.ChainOk, ChainCells.HoldsOnly, ChainCells.Nothing, ChainCells.item_at, ChainAt.At, ChainAnswers.Answers, ChainAfter.chain_of, ChainAfter.after_of, ChainAfter.left_by, ChainPasses.spare_in}
use Rattle.queue_laws.proofs.Chain.ChainEnds.{Ends, ends_of, ends_made, step_ends}
use Rattle.queue_laws.proofs.Chain.ChainSlots.{SameBlock, item_moved, block_altered, use_changed, step_block, step_item, step_uses}
use Rattle.queue_steps.specs.{State.State, ChainNext.chain_next}
use Rattle.mem_blocks.specs.Web.{Block, Sitter, block, Lives}
use Rattle.shared_parties.specs.declared.known.CallState.{CallState}
use Rattle.shared_chain.specs.{ChainCalls.OutChain, ChainCalls.ChainLent, Rule.home_of, Rule.IsThere, Rule.Codes}
use Rattle.shared_chain.specs.Steps.{HoldsBy, HoldsFor, op_place, word_index, blocks_made, answered, LeadsThere, SlotsFor, BlockStep}
use Rattle.shared_chain.proofs.Frames.{Blocks.there_same, Blocks.home_in, Ends.OnEnd, Ends.EndsAre, Ends.ends_coded, Ends.made_long, Ends.made_else, Leaves.spare_on, Leaves.keeps, Leaves.idles_free, Leaves.nothing_held, Leaves.none_holds, Leaves.op_step}

-- the step that was answered so leads to the chain r, and these slots are with their readers then
module _ {A : Type 0} (te he : Ptr) (g : OutChain A) {who : ℕ} {ms : List (State A)} {k : Stand A} (here : At g.chain who ms k) (a : Answer ℕ) (r : Chain A) (leads : after_of here a ≡ r) (out : ℕ → Bool) where
  abbrev after : OutChain A
  after = record { chain = r; out = out }

  -- a slot whose item the step does not move is where it was
  pub home_stays : (b i : ℕ) → item_moved here ≢ Some (item_at b i) → out (item_at b i) ≡ g.out (item_at b i) → home_in after b i ≡ home_in g b i
  home_stays b i unmoved same =
      let n = item_at b i in
      let item = subst (λ (s : Chain A). (s.writers n ≡ g.chain.writers n) × (s.readers n ≡ g.chain.readers n)) leads (step_item here a n unmoved) in
      λ j. home_of (item.0 j) (item.1 j) (same j)

  module _ (ok : ChainOk g.chain) (bs : List (Block A)) (codes : Codes te he g bs) where
    -- a block that the step does not alter stands for the chain as before
    pub block_stays : (b : ℕ) → b < g.chain.blocks → block_altered here ≢ Some b → ((i : ℕ) → i < BLOCK_SLOTS → home_in after b i ≡ home_in g b i) → IsThere after b (block bs (b + 2))
    block_stays b lt ne homes = there_same g after b (block bs (b + 2)) (subst (λ (s : Chain A). SameBlock g.chain s b) leads (step_block here a ok b lt ne)) homes (codes.there b lt)

    module _ (unused : use_changed here a ≡ None) where
      -- where no name gets another use, what the operation makes of the ends and each block is all that is owed of the blocks
      pub codes_made : (cs : List (Block A)) → length cs ≡ length bs → EndsAre te he (ends_made k.op (ends_of g.chain)) cs → ((b : ℕ) → b < g.chain.blocks → IsThere after b (block cs (b + 2))) → Codes te he after cs
      codes_made cs long are there =
          let ends = subst (λ (e : Ends). EndsAre te he e cs) (sym (step_ends here a ok) ∙ ap (λ (s : Chain A). ends_of s) leads) are in
          let same = subst (λ (s : Chain A). (s.uses ≡ g.chain.uses) × (s.blocks ≡ g.chain.blocks)) leads (step_uses here a unused) in
          record {
            tail = ends.0;
            head = ends.1;
            size = long ∙ (codes.size ∙ ap (λ n. n + 2) (sym same.1));
            there = λ b lt. there b (subst (λ n. b < n) same.1 lt);
            tested = λ f used. codes.tested f (rw (same.0) at used);
            fresh = (codes.fresh.0, λ f le. ap (λ u. u f) same.0 ∙ codes.fresh.1 f le);
          }

      -- an operation on an end leaves each block
      pub codes_ends : (number : ℕ) → number < 2 → OnEnd k.op number → block_altered here ≡ None → ((b i : ℕ) → home_in after b i ≡ home_in g b i) → Codes te he after (blocks_made k.op number bs)
      codes_ends number low at unaltered homes =
          codes_made (blocks_made k.op number bs) (made_long k.op number bs) (ends_coded te he (ends_of g.chain) bs (omega (arith, codes.size)) (codes.tail, codes.head) k.op number at)
          (λ b lt. subst (λ (y : Block A). IsThere after b y) (sym (made_else k.op number bs (b + 2) (λ e. omega (arith, e, low))))
          (block_stays b lt (λ e. let z : None ≡ Some b = sym unaltered ∙ e in cc) (λ i low. homes b i)))

-- the operation o is on the end of this number, where it finds these blocks
abbrev pub AtEnd : {A : Type 0} → Ptr → Ptr → OutChain A → List (Block A) → Op ℕ → ℕ → Type 0
AtEnd te he g bs o n = (n < 2) × OnEnd o n × Lives bs n (op_place te he o) × (word_index (op_word o) ≡ 0) × LeadsThere g.chain bs o n × Answers g.chain o (answered g.chain bs o n)

-- a step that alters no block, moves no item and gives no name another use
abbrev pub OnEnds : {A : Type 0} {c : Chain A} {who : ℕ} {ms : List (State A)} {k : Stand A} → At c who ms k → Answer ℕ → Type 0
OnEnds here a = (use_changed here a ≡ None) × (block_altered here ≡ None) × (item_moved here ≡ None)

module _ {A : Type 0} {te he : Ptr} {g : OutChain A} {bs : List (Block A)} where
  -- the word of the tail, and that of the head, where it is found
  pub tail_read : Codes te he g bs → AtEnd te he g bs (Op.Load Word.Tail) 0
  tail_read codes = (lit< tt, tt, codes.tail.lives, refl, tt, ap (λ w. Answer.Found w) codes.tail.word)

  pub head_read : Codes te he g bs → AtEnd te he g bs (Op.Load Word.Head) 1
  head_read codes = (lit< tt, tt, codes.head.lives, refl, tt, ap (λ w. Answer.Found w) codes.head.word)

  -- the link to the pushers' block, and that to the poppers'
  pub last_read : Codes te he g bs → AtEnd te he g bs (Op.LoadLink Link.TailBlock) 0
  last_read codes = (lit< tt, tt, codes.tail.lives, refl, codes.tail.next, refl)

  pub front_read : Codes te he g bs → AtEnd te he g bs (Op.LoadLink Link.HeadBlock) 1
  front_read codes = (lit< tt, tt, codes.head.lives, refl, codes.head.next, refl)

  -- the head's word or link, where another one is stored
  pub head_set : (x : ℕ) → Codes te he g bs → AtEnd te he g bs (Op.Store Word.Head x) 1
  head_set x codes = (lit< tt, tt, codes.head.lives, refl, tt, refl)

  module _ {who : ℕ} {ms : List (State A)} {k : Stand A} (number : ℕ) (here : At g.chain who ms k) (ok : ChainOk g.chain) (codes : Codes te he g bs) (at : AtEnd te he g bs k.op number) (same : OnEnds here (answered g.chain bs k.op number)) where
    codes_on : Codes te he (record { chain = after_of here (answered g.chain bs k.op number); out = g.out }) (blocks_made k.op number bs)
    codes_on =
        let a = answered g.chain bs k.op number in
        codes_ends te he g here a (after_of here a) refl g.out ok bs codes same.0 number at.0 at.1 same.1 (λ b i. home_stays te he g here a (after_of here a) refl g.out b i (λ e. let z : None ≡ Some (item_at b i) = sym same.2 ∙ e in cc) refl)

    -- a party that holds nothing
    pub none_on_end : (m : Sitter A (CallState A)) → HoldsOnly g.chain who Nothing → HoldsOnly (after_of here (answered g.chain bs k.op number)) who Nothing → spare_on (chain_next (chain_of k.local) (answered g.chain bs k.op number)) ≡ spare_in k.local
        → (xs : List (ℕ × Option A)) → ChainLent g who xs → HoldsBy k.local k.op xs m → BlockStep te he g who bs m here
    none_on_end m none still spare xs lent holds =
        op_step here number at.2 (λ e. at.3) at.4 at.5 (idles_free codes_on still (none_holds (chain_next (chain_of k.local) (answered g.chain bs k.op number)) (spare_in k.local) m spare (nothing_held g who k.local k.op xs m none lent holds)))

    -- a party that goes on with the slots that it has
    pub keeps_on_end : (m : Sitter A (CallState A)) → let r : OutChain A = record { chain = left_by (after_of here (answered g.chain bs k.op number)) (chain_next (chain_of k.local) (answered g.chain bs k.op number)); out = g.out } in
        SlotsFor r who (chain_next (chain_of k.local) (answered g.chain bs k.op number)) → (xs : List (ℕ × Option A)) → ChainLent r who xs → HoldsFor xs (chain_next (chain_of k.local) (answered g.chain bs k.op number)) m → BlockStep te he g who bs m here
    keeps_on_end m slots xs lent holds = op_step here number at.2 (λ e. at.3) at.4 at.5 (keeps codes_on slots xs lent holds)
