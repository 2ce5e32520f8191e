-- The rule holds at the beginning: two ends, no block, and one party.
use Rattle.std.proofs.Common.{◌≡◌, ◌∙◌, false, None, List, [], ◌∷◌, ◌++◌, replicate, refl, sym, ap, subst, arith, lit<}
use denote.RawPtr.{Ptr, null_ptr}
use Rattle.mem_blocks.specs.{Web.Block, Web.alive_at, Web.HoldsWord, Web.with_word, declared.sizes.TheConstants.END_WORDS, declared.hub.TheConstants.PARTIES}
use Rattle.queue_laws.proofs.Chain.ChainFirst.{first, first_ok, first_idle, first_spares}
use Rattle.shared_parties.{specs.CallStates.is_busy, specs.CallsAt.CallsAt, proofs.FirstParty.first_rests, proofs.FirstParty.first_kept}
use Rattle.shared_chain.specs.{ChainCalls.OutChain, ChainCalls.chain_calls, Rule.Codes, Rule.Rule, Rule.first_seat}

-- an end whose link is unset and whose words are 0
abbrev end_at : {T : Type 0} → Ptr → Block T
end_at p = alive_at p null_ptr (replicate END_WORDS 0) []

-- both ends, once the first party is counted
abbrev both_ends : {T : Type 0} → Ptr → Ptr → List (Block T)
both_ends te he = with_word (end_at te ∷ end_at he ∷ []) 0 PARTIES 1

module _ {T : Type 0} where
  abbrev no_items : OutChain T
  no_items = record { chain = first; out = λ n. false }

  first_codes : (te he : Ptr) → Codes te he no_items (both_ends te he)
  first_codes te he = record {
    tail = record { lives = (refl, refl); words = refl; word = refl; next = refl };
    head = record { lives = (refl, refl); words = refl; word = refl; next = refl };
    size = refl;
    there = λ b lt. absurd (omega arith);
    tested = λ f used. absurd used;
    fresh = (0, λ f le. refl);
  }

  first_calls : CallsAt chain_calls no_items [] 1 (first_seat {T = T} ∷ [])
  first_calls = record {
    ok = first_ok;
    state = refl;
    calls = λ j d c at busy. absurd (first_rests None j d at (ap is_busy busy));
    free = λ j none. (first_idle T j, first_spares T j);
    kept = first_kept None;
  }

  first_rule : (te he : Ptr) → Rule te he (record { blocks = both_ends te he; views = first_seat {T = T} ∷ [] })
  first_rule te he = record { cells = no_items; history = []; codes = first_codes te he; all = first_calls }

  -- both ends as they were laid, the first of which has a word for the count
  pub has_count : (te : Ptr) (none one two : List (Block T)) (x y : Block T) → none ≡ [] → one ≡ none ++ x ∷ [] → two ≡ one ++ y ∷ [] → x ≡ end_at te → HoldsWord two 0 te PARTIES
  has_count te none one two x y e₀ e₁ e₂ is_x =
      let laid : two ≡ end_at te ∷ y ∷ [] = e₂ ∙ (ap (λ q. q ++ y ∷ []) (e₁ ∙ ap (λ q. q ++ x ∷ []) e₀) ∙ ap (λ z. z ∷ y ∷ []) is_x) in
      subst (λ (q : List (Block T)). HoldsWord q 0 te PARTIES) (sym laid) ((refl, refl), lit< tt)

  -- both ends as they were laid, one after the other, and the count written
  pub opens : (te he : Ptr) (none one two bs : List (Block T)) (x y : Block T) → none ≡ [] → one ≡ none ++ x ∷ [] → two ≡ one ++ y ∷ [] → bs ≡ with_word two 0 PARTIES 1 → x ≡ end_at te → y ≡ end_at he
      → Rule te he (record { blocks = bs; views = first_seat {T = T} ∷ [] })
  opens te he none one two bs x y e₀ e₁ e₂ e₃ is_x is_y =
      let laid : two ≡ end_at te ∷ end_at he ∷ [] = e₂ ∙ (ap (λ q. q ++ y ∷ []) (e₁ ∙ ap (λ q. q ++ x ∷ []) e₀) ∙ (λ i. is_x i ∷ is_y i ∷ [])) in
      subst (λ (q : List (Block T)). Rule te he (record { blocks = q; views = first_seat {T = T} ∷ [] })) (sym (e₃ ∙ ap (λ q. with_word q 0 PARTIES 1) laid)) (first_rule te he)
