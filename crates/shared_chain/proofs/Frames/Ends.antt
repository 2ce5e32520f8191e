-- The two ends of the blocks of a web, as they stand for the words and links of a chain, and what an operation makes of them.
use mathlib.Core.Option.{some}
use lib.ListN.{get_elem?}
use Rattle.mem_blocks.specs.{Web.State, Web.Sitter, Web.KeepsRule, Web.Allows, declared.sizes.TheConstants.END_WORDS}
use Rattle.shared_parties.specs.declared.known.CallState.{CallState}
use Rattle.shared_chain.specs.{Rule.Rule, Spots.spot, Rule.lead_of, Rule.EndIs, Steps.word_index, Steps.blocks_made}
use Rattle.shared_chain.proofs.Frames.Blocks.{word_same}
use Rattle.std.proofs.Common.{ℕ, ◌<◌, ◌≡◌, ◌≢◌, ◌∙◌, zero, suc, Option, Some, None, List, length, refl, sym, ap, subst, arith, set, get_or-set_other, length-set}
use denote.RawPtr.{Ptr}
use Rattle.queue_laws.specs.Common.{Vocabulary.Word, Vocabulary.Link, Vocabulary.Op, Operations.op_word, Operations.op_makes, Operations.offered}
use Rattle.queue_laws.proofs.Chain.ChainEnds.{Ends, end_word, put_word, put_link, ends_made}
use Rattle.mem_blocks.specs.Web.{Block, block, linked, worded, with_word, with_next, word_of, if_unset}
use Rattle.shared_chain.proofs.Frames.Blocks.{word_here, word_else, next_here, next_else, next_same, end_as, end_worded, end_linked}

-- the word, the link and the operation of the end of this number
abbrev WordAt : Word ℕ → ℕ → Type 0
WordAt Word.Tail zero = Unit {0}
WordAt Word.Head (suc zero) = Unit {0}
WordAt w n = ⊥

abbrev LinkAt : Link ℕ → ℕ → Type 0
LinkAt Link.TailBlock zero = Unit {0}
LinkAt Link.HeadBlock (suc zero) = Unit {0}
LinkAt l n = ⊥

abbrev pub OnEnd : Op ℕ → ℕ → Type 0
OnEnd (Op.LoadLink l) n = LinkAt l n
OnEnd (Op.StoreLink l f) n = LinkAt l n
OnEnd (Op.Install f) n = LinkAt Link.TailBlock n
OnEnd Op.Ask n = ⊥
OnEnd o n = WordAt (op_word o) n

-- where a link leads that is set only where it is unset
unset_leads : (l : Option ℕ) (f : ℕ) → if_unset (spot f) (lead_of l) ≡ lead_of (offered l f)
unset_leads None f = refl
unset_leads (Some b) f = refl

module _ {A : Type 0} where
  -- an operation on a block makes another one of it, and leaves all others
  made_set : (o : Op ℕ) (k : ℕ) (bs : List (Block A)) → (x : Block A) × (blocks_made o k bs ≡ set bs k x)
  made_set (Op.LoadLink l) k bs = (linked (block bs k) (block bs k).next, refl)
  made_set (Op.StoreLink l f) k bs = (linked (block bs k) (spot f), refl)
  made_set (Op.Install f) k bs = (linked (block bs k) (if_unset (spot f) (block bs k).next), refl)
  made_set o k bs = (worded (block bs k) (word_index (op_word o)) (op_makes o (word_of bs k (word_index (op_word o)))), refl)

  pub made_long : (o : Op ℕ) (k : ℕ) (bs : List (Block A)) → length (blocks_made o k bs) ≡ length bs
  made_long o k bs = let m = made_set o k bs in ap (λ (cs : List (Block A)). length cs) m.1 ∙ length-set bs k m.0

  pub made_else : (o : Op ℕ) (k : ℕ) (bs : List (Block A)) (j : ℕ) → j ≢ k → block (blocks_made o k bs) j ≡ block bs j
  made_else o k bs j ne = let m = made_set o k bs in ap (λ (cs : List (Block A)). block cs j) m.1 ∙ get_or-set_other bs k j m.0 _ ne

  module _ (te he : Ptr) where
    -- the blocks 0 and 1 are these ends
    abbrev pub EndsAre : Ends → List (Block A) → Type 0
    EndsAre e bs = EndIs te e.tail e.last (block bs 0) × EndIs he e.head e.front (block bs 1)

    -- so are they among other blocks
    pub ends_as : (e : Ends) (bs cs : List (Block A)) → EndsAre e bs → ((j : ℕ) → j < 2 → block cs j ≡ block bs j) → EndsAre e cs
    ends_as e bs cs are same = (end_as are.0 (same 0 (omega arith)) refl refl, end_as are.1 (same 1 (omega arith)) refl refl)

    module _ (e : Ends) (bs : List (Block A)) (two : 1 < length bs) (are : EndsAre e bs) where
      -- a word of theirs becomes f of what it was, or a link leads there
      word_ends : (w : Word ℕ) (n : ℕ) (f : ℕ → ℕ) → WordAt w n → EndsAre (put_word e w (f (end_word e w))) (with_word bs n (word_index w) (f (word_of bs n (word_index w))))
      word_ends Word.Tail zero f at =
          let x = f (word_of bs 0 0) in (end_as (end_worded are.0 x) (word_here bs 0 0 x (omega arith)) (ap f are.0.word) refl, end_as are.1 (word_else bs 0 0 x 1 (λ z. absurd (omega arith))) refl refl)
      word_ends Word.Head (suc zero) f at =
          let x = f (word_of bs 1 0) in (end_as are.0 (word_else bs 1 0 x 0 (λ z. absurd (omega arith))) refl refl, end_as (end_worded are.1 x) (word_here bs 1 0 x two) (ap f are.1.word) refl)
      word_ends w n f at = absurd at

      tail_ends : (q : Ptr) (l : Option ℕ) → q ≡ lead_of l → EndsAre (record e { last = l }) (with_next bs 0 q)
      tail_ends q l leads = (end_as (end_linked are.0 q leads) (next_here bs 0 q (omega arith)) refl refl, end_as are.1 (next_else bs 0 q 1 (λ z. absurd (omega arith))) refl refl)

      link_ends : (l : Link ℕ) (n f : ℕ) → LinkAt l n → EndsAre (put_link e l f) (with_next bs n (spot f))
      link_ends Link.TailBlock zero f at = tail_ends (spot f) (Some f) refl
      link_ends Link.HeadBlock (suc zero) f at =
          (end_as are.0 (next_else bs 1 (spot f) 0 (λ z. absurd (omega arith))) refl refl, end_as (end_linked {k = Some f} are.1 (spot f) refl) (next_here bs 1 (spot f) two) refl refl)
      link_ends l n f at = absurd at

      -- what an operation on one of them makes of both
      pub ends_coded : (o : Op ℕ) (n : ℕ) → OnEnd o n → EndsAre (ends_made o e) (blocks_made o n bs)
      ends_coded (Op.LoadLink l) n at = subst (λ (cs : List (Block A)). EndsAre e cs) (sym (next_same bs n)) are
      ends_coded (Op.StoreLink l f) n at = link_ends l n f at
      ends_coded (Op.Install f) zero at = tail_ends (if_unset (spot f) (block bs 0).next) (offered e.last f) (ap (if_unset (spot f)) are.0.next ∙ unset_leads e.last f)
      ends_coded (Op.Install f) (suc n) at = absurd at
      ends_coded Op.Ask n at = absurd at
      ends_coded o n at = word_ends (op_word o) n (op_makes o) at

  -- a load of a word of the tail's end is allowed, and tells what is so whatever the web is
  pub looks_at : (te he : Ptr) (id : ℕ) (m : Sitter A (CallState A)) (p : Ptr) (i : ℕ) (told : Sitter A (CallState A) → Type 0) → te ≡ p → i < END_WORDS
      → ((s : State A (CallState A)) (r : Rule te he s) → get_elem? s.views id ≡ some m.view → KeepsRule (Rule te he) s s.blocks id m told) → Allows (Rule te he) id m p i (λ n. n) (λ n q. told q)
  looks_at te he id m p i told is low tells s r at = (
    0,
    ((r.codes.tail.lives.0, r.codes.tail.lives.1 ∙ is), omega (arith, r.codes.tail.words, low)),
    λ small. subst (λ (bs : List (Block A)). KeepsRule (Rule te he) s bs id m told) (sym (word_same s.blocks 0 i)) (tells s r at),
  )
