-- A step on the state of a slot: what it finds there, and what it makes of it.
use Rattle.std.proofs.Common.{slice_index_or, Some}
use mathlib.Core.Option.{some}
use lib.ListN.{get_elem?}
use Rattle.mem_blocks.specs.Web.{Content, May, gives, with_home, Block, Sitter, block, Lives, word_of, with_word}
use Rattle.shared_chain.proofs.Frames.{Blocks.home_here, Homes.SlotTurns, Homes.turns_both, Homes.turns_home, Homes.home_set, Blocks.named_alive, Blocks.word_same, Leaves.Leaves, Leaves.none_out, Leaves.op_step}
use Rattle.std.proofs.Common.{ℕ, ◌+◌, ◌/◌, ◌%◌, ◌<◌, ◌≡◌, ◌≢◌, ◌∙◌, Option, List, length, sym, ap, subst, arith, bit_or}
use denote.RawPtr.{Ptr}
use Rattle.queue_laws.specs.{Common.Stand.stand, Chain.ChainFacts.IsNamed, Chain.ChainAt.At, Chain.ChainAt.Only, Chain.ChainAnswers.IsState, Chain.ChainAfter.chain_of, Chain.ChainAfter.after_of}
use Rattle.queue_laws.proofs.Chain.{ChainReads.own_item, ChainReads.not_given_up, ChainStates.state_answers}
use Rattle.queue_laws.specs.Common.Vocabulary.{Call, Effect, Word, Op, Touch, Answer, Local, BLOCK_SLOTS}
use Rattle.queue_steps.specs.{State.State, ChainNext.chain_next}
use Rattle.queue_laws.specs.Chain.ChainCells.{Done, GivenUp, ChainOk, Write, Read, Passed, HoldsOnly, item_at}
use Rattle.shared_parties.specs.declared.known.CallState.{CallState}
use Rattle.shared_chain.specs.{Spots.spot, ChainCalls.OutChain, ChainCalls.HasOut, Rule.BlockIs, Rule.Codes, Steps.BlockStep}

module _ {A : Type 0} (te he : Ptr) where
  module _ (g : OutChain A) (who : ℕ) (bs : List (Block A)) (m : Sitter A (CallState A)) where
    -- a load of a slot's state
    pub load_step : (b name i : ℕ) {ms : List (State A)} {l : Local ℕ} {t : Touch} {v : Option A} {k : Call A} {es : List (Effect A)} (here : At g.chain who ms (stand l t (Op.Load (Word.State name i)) v k es))
        → ChainOk g.chain → Codes te he g bs → IsNamed g.chain b name → g.chain.walks b ≢ GivenUp → IsState g.chain b i (word_of bs (b + 2) i)
        → Leaves te he g who bs m (after_of here (Answer.Found (word_of bs (b + 2) i))) (chain_next (chain_of l) (Answer.Found (word_of bs (b + 2) i))) → BlockStep te he g who bs m here
    load_step b name i {l = l} here ok codes named on state left =
        let r = after_of here (Answer.Found (word_of bs (b + 2) i)) in
        let x = chain_next (chain_of l) (Answer.Found (word_of bs (b + 2) i)) in
        op_step here (b + 2) (named_alive codes named on).0 (λ e. absurd (omega arith)) tt (state_answers g.chain b name i (word_of bs (b + 2) i) ok named state)
        (subst (λ (cs : List (Block A)). Leaves te he g who cs m r x) (sym (word_same bs (b + 2) i)) left)

    -- bits of a slot's state that are set
    pub or_step : (b name i y : ℕ) {ms : List (State A)} {l : Local ℕ} {t : Touch} {v : Option A} {k : Call A} {es : List (Effect A)} (here : At g.chain who ms (stand l t (Op.Or (Word.State name i) y) v k es))
        → ChainOk g.chain → Codes te he g bs → IsNamed g.chain b name → g.chain.walks b ≢ GivenUp → IsState g.chain b i (word_of bs (b + 2) i)
        → Leaves te he g who (with_word bs (b + 2) i (bit_or (word_of bs (b + 2) i) y)) m (after_of here (Answer.Found (word_of bs (b + 2) i))) (chain_next (chain_of l) (Answer.Found (word_of bs (b + 2) i))) → BlockStep te he g who bs m here
    or_step b name i y here ok codes named on state left = op_step here (b + 2) (named_alive codes named on).0 (λ e. absurd (omega arith)) tt (state_answers g.chain b name i (word_of bs (b + 2) i) ok named state) left

  pub walks_none : (r : OutChain A) (who b : ℕ) → HoldsOnly r.chain who (Only (Passed b)) → (n : ℕ) → ¬ (HasOut r who n)
  walks_none r who b holds = none_out r who (Only (Passed b)) holds (λ n e. let z : Write n ≡ Passed b = e in cc) (λ n e. let z : Read n ≡ Passed b = e in cc)

  -- the slot i of the item n, which is still to be read, where the web has it
  pub record SlotAt (g : OutChain A) (bs : List (Block A)) (n i name : ℕ) : Type 0 where
    pub at : item_at (n / BLOCK_SLOTS) i ≡ n
    pub low : i < BLOCK_SLOTS
    pub named : IsNamed g.chain (n / BLOCK_SLOTS) name
    pub long : n / BLOCK_SLOTS + 2 < length bs
    pub unread : g.chain.readers (item_at (n / BLOCK_SLOTS) i) ≢ Done
    pub on : g.chain.walks (n / BLOCK_SLOTS) ≢ GivenUp
    pub lives : Lives bs (n / BLOCK_SLOTS + 2) (spot name)
    pub block_is : BlockIs g (n / BLOCK_SLOTS) (block bs (n / BLOCK_SLOTS + 2))
    pub state : IsState g.chain (n / BLOCK_SLOTS) i (word_of bs (n / BLOCK_SLOTS + 2) i)

  pub slot_at : {g : OutChain A} {bs : List (Block A)} {n i name : ℕ} → ChainOk g.chain → Codes te he g bs → IsNamed g.chain (n / BLOCK_SLOTS) name → i ≡ n % BLOCK_SLOTS → g.chain.readers n ≢ Done → SlotAt g bs n i name
  slot_at {g = g} {n = n} {i = i} ok codes named offset still =
      let low : i < BLOCK_SLOTS = omega (arith, offset) in
      let here = ap (λ j. item_at (n / BLOCK_SLOTS) j) offset ∙ own_item n in
      let unread = subst (λ j. g.chain.readers j ≢ Done) (sym here) still in
      let on = not_given_up g.chain n ok still in
      let there = named_alive codes named on in
      record {
        at = here;
        low = low;
        named = named;
        long = omega (arith, codes.size, named.0);
        unread = unread;
        on = on;
        lives = there.0;
        block_is = there.1;
        state = there.1.state i low (λ last. unread);
      }

-- the seat gives the slot i of the block k back with this in it, after an operation that made cs of the blocks bs
pub record GaveBack {A : Type 0} (bs cs : List (Block A)) (m : Sitter A (CallState A)) (k i : ℕ) (c : Content A) : Type 0 where
  pub may : May cs m (gives k i c)
  pub turns : SlotTurns k i bs (with_home cs k i (Some c))
  pub home : get_elem? (block (with_home cs k i (Some c)) k).homes i ≡ some (Some c)
  pub word : word_of (with_home cs k i (Some c)) k i ≡ word_of cs k i

pub gave_back : {A : Type 0} {te he : Ptr} {g : OutChain A} {bs cs : List (Block A)} {m : Sitter A (CallState A)} {n i name : ℕ} {c : Content A} → SlotAt te he g bs n i name → SlotTurns (n / BLOCK_SLOTS + 2) i bs cs → m.hand ≡ Some (spot name, i, c)
    → GaveBack bs cs m (n / BLOCK_SLOTS + 2) i c
gave_back {A = A} {bs = bs} {cs = cs} {n = n} {i = i} {c = c} is t hand =
    let k = n / BLOCK_SLOTS + 2 in
    let long : k < length cs = omega (arith, is.long, t.size) in
    let low : i < length (block cs k).homes = omega (arith, t.here.homes, is.block_is.homes, is.low) in
    record {
      may = (t.here.alive ∙ is.lives.0, low, hand ∙ (λ j. Some (sym (t.here.at ∙ is.lives.1) j, i, c)));
      turns = turns_both k i bs cs (with_home cs k i (Some c)) t (turns_home k i (Some c) cs long);
      home = home_set cs k i (Some c) long low;
      word = ap (λ (x : Block A). slice_index_or x.words i 0) (home_here cs k i (Some c) long);
    }
