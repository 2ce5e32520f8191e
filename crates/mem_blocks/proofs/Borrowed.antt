-- How a step finds its word or its link in an invariant that holds a borrow, which a token of the borrow's lifetime opens. Assumes `Logic`.
use Rattle.mem_blocks.proofs.Walks.{Bool, true, false, cond, ◌≡◌, refl, subst, List, [], ◌∷◌, ℕ, Ura, vnull, ptr_same, SProp, ent, sep, wand, ex, guard, upd, emp, upd_i, apply∗, Lft, Share, Fml, ftrue, fsep, flft, fbor, finv, Logic, sem, ‵, raw, ◌⊛◌, some, ◌$◌, ◌∵◌, !, qed, by}
use Rattle.mem_blocks.proofs.Walks.{move, keep, split, split3, join, pick, show, check, frame, each, assume, suffices, settle, use1, use2, fpack, done, Ptr, block_ptr, null_ptr, ptr_val, Testable, tests_null, nothing, asks, always, cell, alike, compares}
use mathlib.Core.List.{Mem, not-mem-nil}
use base.{Logic.ex_i, Fml.fnamed}
use Rattle.std.specs.Sync.RawAtomic.{Shift, rests, opens, shuts, enters, leaves, word, if_none, along, shifted, back, found, Pointer.found_ptr, Pointer.asks_by_cases}

module _ {M : Type 1} {𝓤 : Ura M} (𝓛 : Logic 𝓤) where
  open 𝓛 use {H, A}

  abbrev Pr : Type 2
  Pr = SProp 𝓤

  abbrev ◌⊢◌ : Pr → Pr → Type 1
  P ⊢ Q = ent 𝓤 P Q

  abbrev ◌∗◌ : Pr → Pr → Pr
  P ∗ Q = sep 𝓤 P Q

  abbrev ◌-∗◌ : Pr → Pr → Pr
  P -∗ Q = wand 𝓤 P Q

  abbrev ⟦◌⟧ : Fml → Pr
  ⟦ P ⟧ = sem 𝓛 P

  infix 26 ◌⊢◌
  infixr 35 ◌∗◌
  infixr 30 ◌-∗◌
  module _ (κ : Lft) (q : Share) (I : Fml) where
    abbrev P : Fml
    P = fbor κ I

    abbrev Open : Pr
    Open = A.obor κ q I

    abbrev OpenList : ℕ → List (ℕ × Fml)
    OpenList j = (j, P) ∷ []

    -- the invariant opened, and what has to be shown then
    opens_to : (K : List (ℕ × Fml) → Pr) (X : Pr) → ((j : ℕ) → Open ∗ (⟦ I ⟧ ∗ X) ⊢ upd 𝓤 (K (OpenList j))) → A.inv P ∗ (A.lft κ q ∗ X) ⊢ shifted 𝓛 K []
    opens_to K X h = qed 𝓛 (‵ (finv P) ∷ raw (A.lft κ q) ∷ raw X ∷ []) ∵ use1 𝓛 (some (λ (j : ℕ). ‵ (fnamed j P))) (𝓛.invs.inv_named P) $ pick ! (λ j.
        let Opened : Pr = (A.bor κ I ∗ A.lft κ q) ∗ ((Open ∗ ⟦ I ⟧) -∗ upd 𝓤 (K (OpenList j))) in suffices ! _ (ex_i 𝓤 (λ (s : Shift). along 𝓛 s K []) (enters j P (opens κ q I rests))) $
        suffices ! _ (upd_i 𝓤 (guard 𝓤 (¬ Mem j []) (A.named j P ∗ (⟦ P ⟧ -∗ upd 𝓤 Opened)))) $ check ! (λ m. not-mem-nil m) $ frame ! $ assume ! (‵ P) $
        suffices ! _ (upd_i 𝓤 Opened) $ join ! $ frame ! $ assume ! (raw Open ⊛ ‵ I) $ split ! $ by ! (h j))

    -- and shut again, with what the step leaves
    shuts_with : (j : ℕ) (T : Fml) → Open ∗ upd 𝓤 (⟦ I ⟧ ∗ ⟦ T ⟧) ⊢ shifted 𝓛 (if_none 𝓛 ⟦ fsep (flft κ q) T ⟧) (OpenList j)
    shuts_with j T = let Z : Pr = ⟦ fsep (flft κ q) T ⟧ in let Q : Pr = ⟦ P ⟧ ∗ upd 𝓤 Z in let N : Pr = (A.bor κ I ∗ A.lft κ q) -∗ upd 𝓤 Q in
        qed 𝓛 (raw Open ∷ raw (upd 𝓤 (⟦ I ⟧ ∗ ⟦ T ⟧)) ∷ []) ∵ suffices ! _ (ex_i 𝓤 (λ (s : Shift). along 𝓛 s (if_none 𝓛 Z) (OpenList j)) (shuts κ q I (leaves rests))) $ move ! (1 ∷ []) $
        settle 𝓛 ((Open ∗ ⟦ I ⟧) ∗ N) (‵ I ⊛ ‵ T) $ suffices ! _ (upd_i 𝓤 ((Open ∗ ⟦ I ⟧) ∗ N)) $ split ! $ move ! (2 ∷ 0 ∷ []) $ join ! $ frame ! $
        assume ! (‵ P ⊛ ‵ (flft κ q)) $ suffices ! _ (upd_i 𝓤 Q) $ split ! $ frame ! $ suffices ! _ (upd_i 𝓤 Z) $ done !

    module _ (b o : ℕ) where
      module _ (f : ℕ → ℕ) (gain : ℕ → Fml) where
        abbrev pub Word-back : ℕ → Pr
        Word-back n = ⟦ word b o (f n) ⟧ -∗ upd 𝓤 (⟦ I ⟧ ∗ ⟦ gain n ⟧)

        -- the word is n, and the invariant stands again once it is f n
        abbrev pub Word-found : ℕ → Pr
        Word-found n = ⟦ word b o n ⟧ ∗ Word-back n

        pub word_step : (X : Pr) → ⟦ I ⟧ ∗ X ⊢ upd 𝓤 (ex 𝓤 Word-found) → A.inv P ∗ (A.lft κ q ∗ X) ⊢ asks 𝓛 (block_ptr b o) f always (λ n. fsep (flft κ q) (gain n))
        word_step X h = let then : ℕ → Fml = λ n. fsep (flft κ q) (gain n) in let K : List (ℕ × Fml) → Pr = λ L. ex 𝓤 (found 𝓛 L b o f always then) in
            opens_to K X (λ j. qed 𝓛 (raw Open ∷ ‵ I ∷ raw X ∷ []) ∵ move ! (1 ∷ 2 ∷ []) $ use2 𝓛 (raw (upd 𝓤 (ex 𝓤 Word-found))) h $
            settle 𝓛 (K (OpenList j)) (some (λ (n : ℕ). ‵ (word b o n) ⊛ raw (Word-back n))) $ suffices ! _ (upd_i 𝓤 (K (OpenList j))) $ pick ! (λ n. split ! $ show ! (found 𝓛 (OpenList j) b o f always then) n $ frame ! $
            each ! (λ (_ : always n). back 𝓛 (OpenList j) b o f then n) (λ _. assume ! (‵ (word b o (f n))) $ let R : Pr = upd 𝓤 (⟦ I ⟧ ∗ ⟦ gain n ⟧) in
            use2 𝓛 (raw R) (apply∗ 𝓤 ⟦ word b o (f n) ⟧ R) $ move ! (1 ∷ 0 ∷ []) $ by ! (shuts_with j (gain n)))))

      -- the same for a link, in cases C: it is `was c`, which `tells c`, and becomes `new c`
      module _ (C : Type 0) (was new : C → Ptr) (tells gain : C → Fml) where
        abbrev pub BlockPtr-back : C → Pr
        BlockPtr-back c = ⟦ cell b o (new c) ⟧ -∗ upd 𝓤 (⟦ I ⟧ ∗ ⟦ gain c ⟧)

        abbrev pub BlockPtr-found : C → Pr
        BlockPtr-found c = ⟦ cell b o (was c) ⟧ ∗ ⟦ tells c ⟧ ∗ BlockPtr-back c

        pub link_step : (X : Pr) → ⟦ I ⟧ ∗ X ⊢ upd 𝓤 (ex 𝓤 BlockPtr-found) → A.inv P ∗ (A.lft κ q ∗ X) ⊢ asks_by_cases 𝓛 C was new tells (λ c. fsep (flft κ q) (gain c)) (block_ptr b o)
        link_step X h = let then : C → Fml = λ c. fsep (flft κ q) (gain c) in let K : List (ℕ × Fml) → Pr = λ L. ex 𝓤 (found_ptr 𝓛 C was new tells then L b o) in
            opens_to K X (λ j. qed 𝓛 (raw Open ∷ ‵ I ∷ raw X ∷ []) ∵ move ! (1 ∷ 2 ∷ []) $ use2 𝓛 (raw (upd 𝓤 (ex 𝓤 BlockPtr-found))) h $
            settle 𝓛 (K (OpenList j)) (some (λ (c : C). ‵ (cell b o (was c)) ⊛ ‵ (tells c) ⊛ raw (BlockPtr-back c))) $ suffices ! _ (upd_i 𝓤 (K (OpenList j))) $ pick ! (λ c. split3 ! $
            show ! (found_ptr 𝓛 C was new tells then (OpenList j) b o) c $ frame ! $ frame ! $ assume ! (‵ (cell b o (new c))) $ let R : Pr = upd 𝓤 (⟦ I ⟧ ∗ ⟦ gain c ⟧) in
            use2 𝓛 (raw R) (apply∗ 𝓤 ⟦ cell b o (new c) ⟧ R) $ move ! (1 ∷ 0 ∷ []) $ by ! (shuts_with j (gain c))))

      -- and for a link that is compared with null: in the cases it is the place found, and whether that is null
      module _ (new : Ptr) (gain : Ptr → Fml) where
        abbrev pub Null-found : Ptr × Bool → Pr
        Null-found = BlockPtr-found (Ptr × Bool) (λ c. c.0) (λ c. cond c.1 new c.0) (λ c. alike c.0 null_ptr c.1) (λ c. gain c.0)

        one_gain : (y : Bool) (Q : Fml) → Q ≡ cond y Q Q
        one_gain true Q = refl
        one_gain false Q = refl

        pub null_step : (X : Pr) → ⟦ I ⟧ ∗ X ⊢ upd 𝓤 (ex 𝓤 Null-found)
            → A.inv P ∗ (A.lft κ q ∗ X) ⊢ compares 𝓛 (block_ptr b o) null_ptr new (λ p. fsep (flft κ q) (gain p)) (λ p. fsep (flft κ q) (gain p))
        null_step X h = let C : Type 0 = Ptr × Bool in let was : C → Ptr = λ c. c.0 in let new' : C → Ptr = λ c. cond c.1 new c.0 in let tells : C → Fml = λ c. alike c.0 null_ptr c.1 in
            subst (λ (F : C → Fml). A.inv P ∗ (A.lft κ q ∗ X) ⊢ asks_by_cases 𝓛 C was new' tells F (block_ptr b o)) (λ i c. one_gain c.1 (fsep (flft κ q) (gain c.0)) i) (link_step C was new' tells (λ c. gain c.0) X h)

  -- a place that can be compared with null is compared with it
  pub null_tested : (p : Ptr) → Testable p → emp 𝓤 ⊢ ⟦ alike p null_ptr (ptr_same (ptr_val p) vnull) ⟧
  null_tested p low = qed 𝓛 (raw (emp 𝓤) ∷ []) ∵ nothing ! $ fpack ! _ (λ _. ftrue) (tests_null p low, refl) $ keep ! (0 ∷ []) $ done !
