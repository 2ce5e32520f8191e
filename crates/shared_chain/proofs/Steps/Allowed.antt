-- What the web asks of the steps of a call on a shared chain: each may be done, and tells how the call goes on.
use Rattle.std.proofs.Common.{ℕ, ◌+◌, ◌%◌, ◌^◌, ◌<◌, ◌≡◌, true, Option, None, List, length, refl, sym, subst, arith}
use mathlib.Core.Option.{some}
use lib.ListN.{get_elem?}
use denote.RawPtr.{Ptr, Testable}
use Rattle.queue_laws.specs.Common.{Vocabulary.Word, Vocabulary.Link, Vocabulary.Op, Vocabulary.Answer, Operations.OnWord, Operations.op_word, Operations.op_makes, Operations.answer_for, Vocabulary.BLOCK_SLOTS}
use Rattle.queue_laws.specs.Chain.{ChainCells.Chain, ChainAnswers.Answers, ChainAnswers.last_of}
use Rattle.mem_blocks.specs.Web.{Block, State, Sitter, Lives, block, word_of, with_word, with_next, KeepsRule, Allows, AllowsLink}
use Rattle.mem_blocks.specs.declared.hub.TheConstants.{PARTIES}
use Rattle.shared_parties.specs.{declared.known.CallState.CallState, declared.known.InCall.InCall, Calling.Standing, Calling.touched_list, CallsAt.Ready}
use Rattle.shared_parties.proofs.CallSteps.{stands_at}
use Rattle.shared_chain.specs.{ChainCalls.chain_calls, Rule.lead_of, Rule.Rule, Spots.spot, Names.is_set_once}
use Rattle.shared_chain.specs.Steps.{HoldsBy, op_place, word_index, link_makes, blocks_made, link_found, answered, LeadsThere, BlockStep, Follows, FollowsLink}
use Rattle.shared_chain.proofs.{CallLaws.chain_call_laws, CallLaws.OnBlocks, CallLaws.chain_opens, Steps.Allowing.follows, Steps.BlockSteps.block_steps, Frames.Written.out_wrote, Frames.Unset.FindsUnset, Frames.Unset.finds_unset}
use Rattle.shared_chain.proofs.Frames.Tested.{next_tested, word_held, count_kept}

-- an operation on a word
abbrev pub IsWordOp : Op ℕ → Type 0
IsWordOp o = OnWord (λ w. Unit {0}) o

-- a load or an install of a link
abbrev pub IsRead : Op ℕ → Type 0
IsRead (Op.LoadLink l) = Unit {0}
IsRead (Op.Install x) = Unit {0}
IsRead _ = ⊥

-- what a load or an install of a link finds
abbrev found_name : {A : Type 0} → Chain A → Op ℕ → ℕ → Option ℕ
found_name c (Op.LoadLink l) k = link_found c l k
found_name c (Op.Install x) k = last_of c.names c.blocks
found_name c _ k = None

on_word : (o : Op ℕ) → IsWordOp o → OnBlocks o
on_word (Op.LoadLink l) word = absurd word
on_word (Op.StoreLink l x) word = absurd word
on_word (Op.Install x) word = absurd word
on_word Op.Ask word = absurd word
on_word o word = tt

on_found : (o : Op ℕ) → IsRead o → OnBlocks o
on_found (Op.LoadLink l) finds = tt
on_found (Op.Install x) finds = tt
on_found o finds = absurd finds

module _ {A : Type 0} where
  -- what an operation on a word makes of the blocks, and what it answers
  made_word : (c : Chain A) (o : Op ℕ) (k : ℕ) (bs : List (Block A)) → IsWordOp o
      → (blocks_made o k bs ≡ with_word bs k (word_index (op_word o)) (op_makes o (word_of bs k (word_index (op_word o))))) × (answered c bs o k ≡ answer_for o (word_of bs k (word_index (op_word o))))
  made_word c (Op.LoadLink l) k bs word = absurd word
  made_word c (Op.StoreLink l x) k bs word = absurd word
  made_word c (Op.Install x) k bs word = absurd word
  made_word c Op.Ask k bs word = absurd word
  made_word c o k bs word = (refl, refl)

  made_found : (o : Op ℕ) (k : ℕ) (bs : List (Block A)) → IsRead o → blocks_made o k bs ≡ with_next bs k (link_makes o (block bs k).next)
  made_found (Op.LoadLink l) k bs finds = refl
  made_found (Op.Install x) k bs finds = refl
  made_found o k bs finds = absurd finds

  answered_found : (c : Chain A) (bs : List (Block A)) (o : Op ℕ) (k : ℕ) → IsRead o → LeadsThere c bs o k → (answered c bs o k ≡ Answer.Linked (found_name c o k)) × ((block bs k).next ≡ lead_of (found_name c o k))
  answered_found c bs (Op.LoadLink l) k finds leads = (refl, leads)
  answered_found c bs (Op.Install x) k finds leads = (refl, leads)
  answered_found c bs o k finds leads = absurd finds

  -- what one step does at one state of the web
  pub record Done (te he : Ptr) (id : ℕ) (m : Sitter A (CallState A)) (c : InCall A) (s : State A (CallState A)) (r : Rule te he s) : Type 0 where
    pub number : ℕ
    pub lives : Lives s.blocks number (op_place te he c.op)
    pub leads : LeadsThere r.cells.chain s.blocks c.op number
    pub tested : Testable (block s.blocks number).next
    pub goes : KeepsRule (Rule te he) s (blocks_made c.op number s.blocks) id m (Follows c (answered r.cells.chain s.blocks c.op number))
    pub held : word_index (op_word c.op) < BLOCK_SLOTS → word_index (op_word c.op) < length (block s.blocks number).words
    pub unset : IsWordOp c.op → FindsUnset c.op (word_of s.blocks number (word_index (op_word c.op)))

  module _ (te he : Ptr) (id : ℕ) (m : Sitter A (CallState A)) (c : InCall A) where
    step_done : Ready chain_calls m.view c → HoldsBy c.local c.op (touched_list c.touch c.carried c.lends) m → OnBlocks c.op → (s : State A (CallState A)) (r : Rule te he s) → get_elem? s.views id ≡ some m.view → Done te he id m c s r
    step_done ready holds on s r at = record {
      number = b.number;
      lives = b.lives;
      leads = b.leads;
      tested = next_tested te he r.cells s.blocks r.all.ok r.codes b.number b.lives.0;
      goes = follows te he s r id m.view c at st (answered r.cells.chain s.blocks c.op b.number) (blocks_made c.op b.number s.blocks) m b.found
          (record { out = b.out; acts = b.acts; mays = b.mays; codes = b.codes; others = b.others; slots = b.slots; lends = b.lends; lent = b.lent; holds = b.holds })
          (count_kept s.blocks c.op b.number b.acts (let z = r.codes.size in omega arith) (λ e. b.counts (omega (arith, e))));
      held = λ low. word_held te he r.cells s.blocks r.codes b.number (word_index (op_word c.op)) b.lives.0 b.counts low;
      unset = λ word. finds_unset r.cells.chain id (word_of s.blocks b.number (word_index (op_word c.op))) st.here.0
          (subst (λ (a : Answer ℕ). Answers r.cells.chain c.op a) (made_word r.cells.chain c.op b.number s.blocks word).1 b.found);
    }
      where
        st : Standing chain_calls r.cells r.history id m.view.known c
        st = stands_at chain_calls chain_call_laws OnBlocks r.cells r.history (word_of s.blocks 0 PARTIES) s.views r.all id m.view c (chain_opens c.call) at ready

        b : BlockStep te he r.cells id s.blocks m st.here.0
        b = block_steps te he r.cells id s.blocks m r.all.ok (out_wrote r.cells r.history (word_of s.blocks 0 PARTIES) s.views r.all) r.codes c.lends st.here.0 on st.here.2 st.lent holds

    -- an operation on a word makes this of its block
    word_goes : (s : State A (CallState A)) (r : Rule te he s) (d : Done te he id m c s r) → IsWordOp c.op
        → KeepsRule (Rule te he) s (with_word s.blocks d.number (word_index (op_word c.op)) (op_makes c.op (word_of s.blocks d.number (word_index (op_word c.op))))) id m (Follows c (answer_for c.op (word_of s.blocks d.number (word_index (op_word c.op)))))
    word_goes s r d word =
        let made = made_word r.cells.chain c.op d.number s.blocks word in
        subst (λ (z : List (Block A) × Answer ℕ). KeepsRule (Rule te he) s z.0 id m (Follows c z.1)) (λ i. (made.0 i, made.1 i)) d.goes

    pub allows_word : Ready chain_calls m.view c → HoldsBy c.local c.op (touched_list c.touch c.carried c.lends) m → IsWordOp c.op → word_index (op_word c.op) < BLOCK_SLOTS
        → Allows (Rule te he) id m (op_place te he c.op) (word_index (op_word c.op)) (op_makes c.op) (λ n q. Follows c (answer_for c.op n) q)
    allows_word ready holds word low s r at =
        let d = step_done ready holds (on_word c.op word) s r at in
        (d.number, (d.lives, d.held low), λ small. word_goes s r d word)

    -- a bit that is unset is added
    pub allows_added : (w : Word ℕ) (bits : ℕ) → Ready chain_calls m.view c → HoldsBy c.local c.op (touched_list c.touch c.carried c.lends) m → c.op ≡ Op.Or w bits → is_set_once w bits ≡ true → word_index (op_word c.op) < BLOCK_SLOTS
        → Allows (Rule te he) id m (op_place te he c.op) (word_index (op_word c.op)) (λ n. (n + bits) % 2 ^ 64) (λ n q. Follows c (answer_for c.op n) q)
    allows_added w bits ready holds is once low s r at =
        let word : IsWordOp c.op = subst IsWordOp (sym is) tt in
        let d = step_done ready holds (on_word c.op word) s r at in
        let n = word_of s.blocks d.number (word_index (op_word c.op)) in
        let sums = λ (small : n < 2 ^ 64). subst (λ (o : Op ℕ). op_makes o n ≡ (n + bits) % 2 ^ 64) (sym is) (subst (λ (o : Op ℕ). FindsUnset o n) is (d.unset word) once small) in
        (d.number, (d.lives, d.held low), λ small. subst (λ x. KeepsRule (Rule te he) s (with_word s.blocks d.number (word_index (op_word c.op)) x) id m (Follows c (answer_for c.op n))) (sums small) (word_goes s r d word))

    pub allows_link : Ready chain_calls m.view c → HoldsBy c.local c.op (touched_list c.touch c.carried c.lends) m → IsRead c.op → AllowsLink (Rule te he) id m (op_place te he c.op) (link_makes c.op) (λ q k. FollowsLink c q k)
    allows_link ready holds finds s r at =
        let d = step_done ready holds (on_found c.op finds) s r at in
        let x = found_name r.cells.chain c.op d.number in
        let found = answered_found r.cells.chain s.blocks c.op d.number finds d.leads in
        let g = subst (λ (z : List (Block A) × Answer ℕ). KeepsRule (Rule te he) s z.0 id m (Follows c z.1)) (λ i. (made_found c.op d.number s.blocks finds i, found.0 i)) d.goes in
        (d.number, d.lives, (d.tested, (g.0, g.1, g.2, g.3, (x, found.1, g.4))))

    pub allows_store : (l : Link ℕ) (x : ℕ) → Ready chain_calls m.view c → HoldsBy c.local c.op (touched_list c.touch c.carried c.lends) m → c.op ≡ Op.StoreLink l x
        → AllowsLink (Rule te he) id m (op_place te he c.op) (λ _. spot x) (λ _ k. Follows c Answer.Done k)
    allows_store l x ready holds is s r at =
        let on : OnBlocks c.op = subst OnBlocks (sym is) tt in
        let d = step_done ready holds on s r at in
        (d.number, d.lives, (d.tested, subst (λ (o : Op ℕ). KeepsRule (Rule te he) s (blocks_made o d.number s.blocks) id m (Follows c (answered r.cells.chain s.blocks o d.number))) is d.goes))
