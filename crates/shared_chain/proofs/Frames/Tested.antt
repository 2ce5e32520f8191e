-- Every link of the web can be compared with null, and neither a step of a call nor the acts beside it touch the count of parties.
use Rattle.std.proofs.Common.{ℕ, zero, suc, ◌+◌, ◌<◌, ◌≡◌, ◌∙◌, inl, inr, true, false, Some, None, List, [], ◌∷◌, ◌++◌, length, refl, sym, ap, subst, arith, get_or, get_or-set_other, get_or-set_same, set, length-set, length-append}
use mathlib.Core.Logic.{dite}
use native.Mathlib.Decide.{ℕ_discrete}
use denote.RawPtr.{Ptr, Testable}
use Rattle.queue_laws.specs.{Common.Vocabulary.Op, Common.Vocabulary.BLOCK_SLOTS, Chain.ChainAnswers.last_of, Chain.ChainAnswers.shown_of, Chain.ChainAnswers.linked_of, Common.Operations.op_word, Common.Operations.op_makes}
use Rattle.queue_laws.specs.Chain.ChainCells.{LinkState, Linked, Shown, Seen, Use, Chained, ChainOk, LinkOk, ShownOk}
use Rattle.mem_blocks.specs.Web.{Block, Act, takes, gives, lays, lifts, block, HoldsWord, word_of, homed, gone, linked, worded, with_word, with_next, acted, blocks_after, if_unset}
use Rattle.mem_blocks.specs.declared.hub.TheConstants.{TAIL, PARTIES, HEAD}
use Rattle.shared_chain.specs.{Spots.spot, ChainCalls.OutChain, Rule.lead_of, Rule.IsUsed, Rule.IsThere, Rule.Codes, Steps.word_index, Steps.blocks_made}
use Rattle.shared_chain.proofs.Frames.Blocks.{word_here, word_else}

used_chained : (u : Use) (b : ℕ) → u ≡ Chained b → IsUsed u
used_chained u b e = rw e tt

module _ {A : Type 0} where
  pub alive_within : (bs : List (Block A)) (k : ℕ) → (block bs k).alive ≡ true → k < length bs
  alive_within [] k e = absurd (let f : false ≡ true = e in cc)
  alive_within (x ∷ bs) zero e = omega arith
  alive_within (x ∷ bs) (suc k) e = omega (arith, alive_within bs k e)

  module _ (te he : Ptr) (g : OutChain A) (bs : List (Block A)) (ok : ChainOk g.chain) (codes : Codes te he g bs) where
    -- the place of a block of the chain
    named_tested : (b : ℕ) → b < g.chain.blocks → Testable (spot (g.chain.names b))
    named_tested b lt = codes.tested (g.chain.names b) (used_chained (g.chain.uses (g.chain.names b)) b (ok.name b lt))

    last_tested : (n : ℕ) → n ≡ g.chain.blocks → Testable (lead_of (last_of g.chain.names n))
    last_tested zero e = omega arith
    last_tested (suc b) e = named_tested b (omega arith)

    shown_tested : (s : Shown) → ShownOk g.chain.blocks g.chain.head g.chain.front g.chain.known g.chain.passer s → Testable (lead_of (shown_of s (g.chain.names g.chain.front)))
    shown_tested Seen h = named_tested g.chain.front h
    shown_tested s h = omega arith

    linked_tested : (b : ℕ) (l : LinkState) → LinkOk g.chain.blocks b l → Testable (lead_of (linked_of l (g.chain.names (b + 1))))
    linked_tested b Linked h = named_tested (b + 1) h
    linked_tested b l h = omega arith

    -- where a link of a living block leads can be compared with null
    pub next_tested : (k : ℕ) → (block bs k).alive ≡ true → Testable (block bs k).next
    next_tested zero alive = subst Testable (sym codes.tail.next) (last_tested g.chain.blocks refl)
    next_tested (suc zero) alive = subst Testable (sym codes.head.next) (shown_tested g.chain.shown ok.seen)
    next_tested (suc (suc b)) alive =
        let within : b < g.chain.blocks = (let l = alive_within bs (suc (suc b)) alive in let s = codes.size in omega arith) in
        let at : b + 2 ≡ suc (suc b) = omega arith in
        let there : IsThere g b (block bs (suc (suc b))) = subst (λ k. IsThere g b (block bs k)) at (codes.there b within) in
        elim (there.1) [
          | inl dead ↦ absurd (let f : true ≡ false = sym alive ∙ dead.1 in cc)
          | inr lives ↦ subst Testable (sym lives.2.linked) (linked_tested b (g.chain.links b) (ok.link b))
        ]

  -- a living block has the word of a step: of an end that is its first
  pub word_held : (te he : Ptr) (g : OutChain A) (bs : List (Block A)) → Codes te he g bs → (k i : ℕ) → (block bs k).alive ≡ true → (k < 2 → i ≡ 0) → i < BLOCK_SLOTS → i < length (block bs k).words
  word_held te he g bs codes zero i alive first low = omega (arith, first (omega arith), codes.tail.words)
  word_held te he g bs codes (suc zero) i alive first low = omega (arith, first (omega arith), codes.head.words)
  word_held te he g bs codes (suc (suc b)) i alive first low =
      let within : b < g.chain.blocks = (let l = alive_within bs (suc (suc b)) alive in let s = codes.size in omega arith) in
      let at : b + 2 ≡ suc (suc b) = omega arith in
      let there : IsThere g b (block bs (suc (suc b))) = subst (λ k. IsThere g b (block bs k)) at (codes.there b within) in
      elim (there.1) [
        | inl dead ↦ absurd (let f : true ≡ false = sym alive ∙ dead.1 in cc)
        | inr lives ↦ omega (arith, low, lives.2.words)
      ]

  -- both ends have their positions, wherever they are said to lie
  pub ends_hold : {te he p q : Ptr} {g : OutChain A} {bs : List (Block A)} → te ≡ p → he ≡ q → Codes te he g bs → HoldsWord bs 0 p TAIL × HoldsWord bs 1 q HEAD
  ends_hold at_tail at_head codes = (((codes.tail.lives.0, codes.tail.lives.1 ∙ at_tail), omega (arith, codes.tail.words)), ((codes.head.lives.0, codes.head.lives.1 ∙ at_head), omega (arith, codes.head.words)))

  -- the words of a block that becomes another one with the same words, and of a block where one more is laid
  set_word : (bs : List (Block A)) (b : ℕ) (x : Block A) (k i : ℕ) → k < length bs → x.words ≡ (block bs b).words → word_of (set bs b x) k i ≡ word_of bs k i
  set_word bs b x k i lt same = dite (ℕ_discrete k b)
      (λ e. ap (λ (y : Block A). get_or y.words i 0) (ap (λ z. block (set bs z x) k) (sym e) ∙ get_or-set_same bs k x _ lt) ∙ ap (λ ws. get_or ws i 0) (same ∙ ap (λ z. (block bs z).words) (sym e)))
      (λ ne. ap (λ (y : Block A). get_or y.words i 0) (get_or-set_other bs b k x _ ne))

  laid_word : (bs : List (Block A)) (x : Block A) (k i : ℕ) → k < length bs → word_of (bs ++ x ∷ []) k i ≡ word_of bs k i
  laid_word [] x k i lt = absurd (omega arith)
  laid_word (y ∷ bs) x zero i lt = refl
  laid_word (y ∷ bs) x (suc k) i lt = laid_word bs x k i (omega arith)

  act_word : (bs : List (Block A)) (a : Act A) (k i : ℕ) → k < length bs → (word_of (acted bs a) k i ≡ word_of bs k i) × (k < length (acted bs a))
  act_word bs (takes b j c) k i lt = (set_word bs b (homed (block bs b) j None) k i lt refl, omega (arith, length-set bs b (homed (block bs b) j None)))
  act_word bs (gives b j c) k i lt = (set_word bs b (homed (block bs b) j (Some c)) k i lt refl, omega (arith, length-set bs b (homed (block bs b) j (Some c))))
  act_word bs (lays x) k i lt = (laid_word bs x k i lt, omega (arith, length-append bs (x ∷ [])))
  act_word bs (lifts b) k i lt = (set_word bs b (gone (block bs b)) k i lt refl, omega (arith, length-set bs b (gone (block bs b))))

  pub acts_word : (bs : List (Block A)) (acts : List (Act A)) (k i : ℕ) → k < length bs → word_of (blocks_after bs acts) k i ≡ word_of bs k i
  acts_word bs [] k i lt = refl
  acts_word bs (a ∷ more) k i lt = let h = act_word bs a k i lt in acts_word (acted bs a) more k i h.1 ∙ h.0

  -- the word PARTIES of the tail's end, where a word that is written is not that one
  word_count : (bs : List (Block A)) (b i n : ℕ) → 0 < length bs → (b ≡ 0 → i ≡ 0) → word_of (with_word bs b i n) 0 PARTIES ≡ word_of bs 0 PARTIES
  word_count bs b i n lt at = dite (ℕ_discrete b 0)
      (λ same. subst (λ z. word_of (with_word bs z i n) 0 PARTIES ≡ word_of bs 0 PARTIES) (sym same)
      (ap (λ (x : Block A). get_or x.words PARTIES 0) (word_here bs 0 i n lt) ∙ get_or-set_other (block bs 0).words i PARTIES n 0 (λ e. absurd (let z = at same in omega arith))))
      (λ ne. ap (λ (x : Block A). get_or x.words PARTIES 0) (word_else bs b i n 0 (λ e. ne (sym e))))

  written_count : (bs : List (Block A)) (b i n : ℕ) → 0 < length bs → (b ≡ 0 → i ≡ 0) → (word_of (with_word bs b i n) 0 PARTIES ≡ word_of bs 0 PARTIES) × (0 < length (with_word bs b i n))
  written_count bs b i n lt at = (word_count bs b i n lt at, omega (arith, length-set bs b (worded (block bs b) i n)))

  next_count : (bs : List (Block A)) (b : ℕ) (q : Ptr) → 0 < length bs → (word_of (with_next bs b q) 0 PARTIES ≡ word_of bs 0 PARTIES) × (0 < length (with_next bs b q))
  next_count bs b q lt = (set_word bs b (linked (block bs b) q) 0 PARTIES lt refl, omega (arith, length-set bs b (linked (block bs b) q)))

  made_count : (bs : List (Block A)) (o : Op ℕ) (b : ℕ) → 0 < length bs → (b ≡ 0 → word_index (op_word o) ≡ 0) → (word_of (blocks_made o b bs) 0 PARTIES ≡ word_of bs 0 PARTIES) × (0 < length (blocks_made o b bs))
  made_count bs (Op.LoadLink l) b lt at = next_count bs b (block bs b).next lt
  made_count bs (Op.StoreLink l x) b lt at = next_count bs b (spot x) lt
  made_count bs (Op.Install x) b lt at = next_count bs b (if_unset (spot x) (block bs b).next) lt
  made_count bs o b lt at = written_count bs b (word_index (op_word o)) (op_makes o (word_of bs b (word_index (op_word o)))) lt at

  -- the count of parties after a step of a call and the acts beside it
  pub count_kept : (bs : List (Block A)) (o : Op ℕ) (b : ℕ) (acts : List (Act A)) → 0 < length bs → (b ≡ 0 → word_index (op_word o) ≡ 0) → word_of (blocks_after (blocks_made o b bs) acts) 0 PARTIES ≡ word_of bs 0 PARTIES
  count_kept bs o b acts lt at = let m = made_count bs o b lt at in acts_word (blocks_made o b bs) acts 0 PARTIES m.1 ∙ m.0
