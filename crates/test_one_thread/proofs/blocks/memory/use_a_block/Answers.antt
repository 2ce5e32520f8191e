use Rattle.std.proofs.Common.{◌≡◌, ℕ, ◌<◌, true, List, [], ◌∷◌, ◌++◌, length, set, sym, refl, ap, ◌∙◌, subst, lit<}
use Rattle.std.specs.Prelude.{Some}
use mathlib.Core.Option.{some}
use lib.ListN.{get_elem?}
use denote.RawPtr.{InBlock}
use Rattle.mem_blocks.specs.Web.{Home, Block, block, alive_at, full, HoldsWord, Rests, with_word, with_home}
use Rattle.test_one_thread.proofs.blocks.memory.use_a_block.Goals as goal

pub set_word-requires : goal.set_word-requires
set_word-requires g c = let l = c.in_ok-link.block in let made = c.in_ok-link.ensures in let B : Block ℕ = alive_at l.at l.next l.words l.homes in
    subst (λ (bs : List (Block ℕ)). InBlock c.in_ok-link.link.ptr × HoldsWord bs 0 c.in_ok-link.link.ptr 3) (sym (c.lay.ensures.1 ∙ ap (λ bs. bs ++ B ∷ []) c.empty-chain.ensures.1))
    (made.2, ((refl, made.1), subst (λ (ns : List ℕ). 3 < length ns) (sym made.4) (lit< tt)))

pub word-word-requires : goal.word-word-requires
word-word-requires g c = let l = c.in_ok-link.block in let made = c.in_ok-link.ensures in let B : Block ℕ = alive_at l.at l.next l.words l.homes in
    let path : c.put.new.self.blocks ≡ with_home (with_word (B ∷ []) 0 3 9) 0 62 (full 7) = c.put.ensures.1
    ∙ ap (λ bs. with_home bs 0 62 (full 7)) (c.set_word.ensures.1 ∙ ap (λ bs. with_word bs 0 3 9) (c.lay.ensures.1 ∙ ap (λ bs. bs ++ B ∷ []) c.empty-chain.ensures.1)) in
    subst (λ (bs : List (Block ℕ)). InBlock c.in_ok-link.link.ptr × HoldsWord bs 0 c.in_ok-link.link.ptr 3) (sym path)
    (made.2, ((refl, made.1), subst (λ (ns : List ℕ). 3 < length (set ns 3 9)) (sym made.4) (lit< tt)))

pub take-item-requires : goal.take-item-requires
take-item-requires g c = let l = c.in_ok-link.block in let made = c.in_ok-link.ensures in let B : Block ℕ = alive_at l.at l.next l.words l.homes in
    let path : c.word-word.new.self.blocks ≡ with_home (with_word (B ∷ []) 0 3 9) 0 62 (full 7) = ap (λ x. x.blocks) c.word-word.ensures.0 ∙ c.put.ensures.1
    ∙ ap (λ bs. with_home bs 0 62 (full 7)) (c.set_word.ensures.1 ∙ ap (λ bs. with_word bs 0 3 9) (c.lay.ensures.1 ∙ ap (λ bs. bs ++ B ∷ []) c.empty-chain.ensures.1)) in
    subst (λ (bs : List (Block ℕ)). InBlock c.in_ok-link.link.ptr × ((block bs 0).alive ≡ true × (block bs 0).at ≡ c.in_ok-link.link.ptr) × ((x : ℕ) × Rests bs 0 62 (Some x))) (sym path)
    (made.2, (refl, made.1), (7, subst (λ (hs : List (Home ℕ)). get_elem? (set hs 62 (full 7)) 62 ≡ some (full 7)) (sym made.5) refl))
