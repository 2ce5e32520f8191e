-- The steps that count parties, part them and bring them together keep the rule of the web, which lets the views and the count change.
use Rattle.std.proofs.Common.{◌≡◌, ◌≢◌, ℕ, ◌+◌, ◌<◌, List, [], ◌∷◌, ◌++◌, length, set, refl, ap, sym, ◌∙◌, subst, get_or, get_or-set_same, get_or-set_other, length-set, arith}
use mathlib.Core.Option.{some}
use lib.ListN.{get_elem?}
use denote.RawPtr.{Ptr}
use Rattle.queue_laws.specs.Chain.ChainAnswers.{tail_word, last_of}
use Rattle.mem_blocks.specs.Web.{Block, State, Sitter, block, worded, word_of, with_word, Allows, CanFork, CanMerge}
use Rattle.mem_blocks.specs.declared.hub.TheConstants.{TAIL, PARTIES}
use Rattle.shared_parties.specs.{declared.count.Change.Change, declared.known.CallState.CallState, CallStates.Sharing, Parting.Regroups, PartyCount.changed, PartyCount.MayAct, CallsAt.CallsAt}
use Rattle.shared_parties.proofs.Sharings.{sharing, regrouped}
use Rattle.shared_chain.specs.{ChainCalls.OutChain, ChainCalls.chain_calls, Rule.EndIs, Rule.IsThere, Rule.Codes, Rule.Rule, Parties.OfView}
use Rattle.shared_chain.proofs.Frames.Blocks.{word_here, word_else, word_same, end_as}

module _ {T : Type 0} (te he : Ptr) where
  -- the count of parties is none of the words that stand for the chain
  codes_counted : (g : OutChain T) (bs : List (Block T)) (n : ℕ) → Codes te he g bs → Codes te he g (with_word bs 0 PARTIES n)
  codes_counted g bs n codes =
      let low : 0 < length bs = let s = codes.size in omega arith in
      let here = word_here bs 0 PARTIES n low in
      let else : (j : ℕ) → j ≢ 0 → block (with_word bs 0 PARTIES n) j ≡ block bs j = λ j ne. word_else bs 0 PARTIES n j ne in
      let head = else 1 (λ e. absurd (omega arith)) in
      let counted : EndIs te (tail_word g.chain) (last_of g.chain.names g.chain.blocks) (worded (block bs 0) PARTIES n) = record {
        lives = codes.tail.lives;
        words = length-set (block bs 0).words PARTIES n ∙ codes.tail.words;
        word = get_or-set_other (block bs 0).words PARTIES TAIL n 0 (λ e. absurd (omega arith)) ∙ codes.tail.word;
        next = codes.tail.next;
      } in
      record {
        tail = end_as counted here refl refl;
        head = end_as codes.head head refl refl;
        size = length-set bs 0 _ ∙ codes.size;
        there = λ b lt. subst (IsThere g b) (sym (else (b + 2) (λ e. absurd (omega arith)))) (codes.there b lt);
        tested = codes.tested;
        fresh = codes.fresh;
      }

  count_is : (g : OutChain T) (bs : List (Block T)) (n : ℕ) → Codes te he g bs → word_of (with_word bs 0 PARTIES n) 0 PARTIES ≡ n
  count_is g bs n codes =
      let low : 0 < length bs = let s = codes.size in omega arith in
      ap (λ (x : Block T). get_or x.words PARTIES 0) (word_here bs 0 PARTIES n low) ∙ get_or-set_same (block bs 0).words PARTIES n 0 (let w = codes.tail.words in omega arith)

  abbrev pub shares : (s : State T (CallState T)) (r : Rule te he s) → Sharing (word_of s.blocks 0 PARTIES) s.views
  shares s r = sharing chain_calls r.cells r.history (word_of s.blocks 0 PARTIES) s.views r.all

  -- the rule stays true where only the count and the views change
  pub keeps_parties : (s : State T (CallState T)) (r : Rule te he s) (n : ℕ) (vs : List (CallState T)) → Regroups (shares s r) n vs → Rule te he record { blocks = with_word s.blocks 0 PARTIES n; views = vs }
  keeps_parties s r n vs same = record {
    cells = r.cells;
    history = r.history;
    codes = codes_counted r.cells s.blocks n r.codes;
    all = subst (λ (z : ℕ). CallsAt chain_calls r.cells r.history z vs) (sym (count_is r.cells s.blocks n r.codes)) (regrouped chain_calls r.cells r.history (word_of s.blocks 0 PARTIES) s.views r.all n vs same);
  }

  -- a step on the count
  pub recounts : (id : ℕ) (m : Sitter T (CallState T)) (p : Ptr) (c : Change) (told : ℕ → CallState T → CallState T → Type 0) → p ≡ te → MayAct c told id m.view → Allows (Rule te he) id m p PARTIES (changed c) (λ n. OfView (told n) m)
  recounts id m p c told is does s r at =
      let n : ℕ = word_of s.blocks 0 PARTIES in let d = does n s.views (shares s r) at in
      (0, ((r.codes.tail.lives.0, r.codes.tail.lives.1 ∙ sym is), omega (arith, r.codes.tail.words)), λ fits. (d.0, [], tt, keeps_parties s r (changed c n) (set s.views id d.0) d.1, (d.2, refl, refl)))

  -- the seats change, and the count does not
  seats_change : (s : State T (CallState T)) (r : Rule te he s) (vs : List (CallState T)) → Regroups (shares s r) (word_of s.blocks 0 PARTIES) vs → Rule te he record { blocks = s.blocks; views = vs }
  seats_change s r vs same = subst (λ (bs : List (Block T)). Rule te he record { blocks = bs; views = vs }) (word_same s.blocks 0 PARTIES) (keeps_parties s r (word_of s.blocks 0 PARTIES) vs same)

  -- a seat becomes two
  pub forks : (p : Ptr) (id : ℕ) (v left right : CallState T) → p ≡ te → ((n : ℕ) (vs : List (CallState T)) (k : Sharing n vs) → get_elem? vs id ≡ some v → Regroups k n (set vs id left ++ right ∷ [])) → CanFork (Rule te he) p id v left right
  forks p id v left right is does s r at =
      (0, (r.codes.tail.lives.0, r.codes.tail.lives.1 ∙ sym is), seats_change s r (set s.views id left ++ right ∷ []) (does (word_of s.blocks 0 PARTIES) s.views (shares s r) at))

  -- two seats become one
  pub merges : (p : Ptr) (id : ℕ) (v : CallState T) (other : ℕ) (w both spent : CallState T) → p ≡ te
      → ((n : ℕ) (vs : List (CallState T)) (k : Sharing n vs) → get_elem? vs id ≡ some v → other ≢ id → get_elem? (set vs id both) other ≡ some w → Regroups k n (set (set vs id both) other spent)) → CanMerge (Rule te he) p id v other w both spent
  merges p id v other w both spent is does s r =
      (0, (r.codes.tail.lives.0, r.codes.tail.lives.1 ∙ sym is), λ at two at'. seats_change s r (set (set s.views id both) other spent) (does (word_of s.blocks 0 PARTIES) s.views (shares s r) at two at'))
