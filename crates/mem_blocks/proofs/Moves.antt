-- What a step of a seat does to the web, while the invariant is open for that step; and the web's first and last moments. Assumes `Logic`.
use Rattle.mem_blocks.proofs.Walks.{puts_back, id⊢, ◌≡◌, ℕ, ◌+◌, ◌*◌, ◌<◌, List, [], ◌∷◌, ◌++◌, set, sym, refl, subst, arith, w64, None, asks, always, cell, alike, Bool, cond, get_elem?, Ura, Ty, ty_int, vint, vnull, ptr_same, has_ty, WT, full_share, Coded, SProp, ent, sep, wand}
use Rattle.mem_blocks.proofs.Walks.{ex, all, guard, upd, emp, via, apply∗, all_e, upd_i, Lft, Share, Fml, ftrue, fsep, fex, fbor, finv, flft, Logic, sem, ‵, raw, ◌⊛◌, some, given, later, ◌$◌, ◌∵◌, !, qed, by, move, keep, drop, use0, use1, use2, use3, split, split3, fsplit, fsplit3, END_WORDS}
use Rattle.mem_blocks.proofs.Walks.{fjoin, fjoin3, fpick, fpack, pick, learn, check, show, frame, each, assume, suffices, await, rewrite, settle, done, RattleType, Ptr, block_ptr, null_ptr, ptr_val, block_of, count_of, Testable, nothing, word, Block, Sitter, Act, sitter, block}
use Rattle.mem_blocks.proofs.Walks.{Lives, word_of, with_word, with_next, blocks_after, sitter_after, if_unset, StaysIn, Allows, AllowsLink, CanFork, CanMerge, LastBlocks, LastBlocksBy, WebId, age, hand_owns, chain_owns, spare_owns, seat_owns, inside_owns, web_owns, SLOTS}
use Rattle.std.{proofs.Common.T, specs.Sync.RawAtomic.Pointer.asks_ptr}
use mathlib.Core.Option as maybe
use base.{Share.quarter, Share.three_quarters, Fml.flent}
use types.{Kit.Item, Kit.Seq, Kit.Step, Kit.step, Kit.Goal, Kit.prop, Kit.updating, Kit.now, Owned.basic, Keyed.entries_new, Keyed.entries_take, Tokens.lft_new, Tokens.lft_end, Tokens.bor_new, Tokens.lent_back}
use Rattle.atomic_table.specs.Seated.{fact, seen, roster, halved, unused}
use Rattle.atomic_table.proofs.Roster.{Moved, moves, Joined, joins, apart, resets}
use Rattle.mem_blocks.specs.{Web.State, Web.viewed, Web.KeepsRule, Laid.state_owns, Laid.known_to_all, Links.leads_to, Links.answered_place, Links.IsAnsweredPlace, declared.operation.LinkOperation.LinkOperation, declared.operation.LinkOperation.LinkOperation as does}
use Rattle.mem_blocks.proofs.{LinkOperations.link_tag, LinkOperations.asks_link, Blocks.acts, Blocks.Reworded, Blocks.word_at, Blocks.Relinked, Blocks.link_at, Blocks.same_word, Blocks.Near, Blocks.near_end}
use Rattle.mem_blocks.proofs.Borrowed.{word_step, Word-found, link_step, BlockPtr-found, null_step, null_tested}

module _ {M : Type 1} {𝓤 : Ura M} (𝓛 : Logic 𝓤) (R : RattleType) (token : Ty → Ptr → Fml) {V : Type 0} (cv : Coded V) (holds : State R.Denot V → Type 0) where
  open 𝓛 use {H, A}

  abbrev Pr : Type 2
  Pr = SProp 𝓤

  abbrev ◌⊢◌ : Pr → Pr → Type 1
  P ⊢ Q = ent 𝓤 P Q

  abbrev ◌∗◌ : Pr → Pr → Pr
  P ∗ Q = sep 𝓤 P Q

  abbrev ◌-∗◌ : Pr → Pr → Pr
  P -∗ Q = wand 𝓤 P Q

  abbrev ⟦◌⟧ : Fml → Pr
  ⟦ P ⟧ = sem 𝓛 P

  infix 26 ◌⊢◌
  infixr 35 ◌∗◌
  infixr 30 ◌-∗◌
  abbrev S : Type 0
  S = R.Denot

  module _ (z : WebId) where
    abbrev γ : ℕ
    γ = z.0

    abbrev κ : Lft
    κ = age z

    abbrev I : Fml
    I = inside_owns R token cv.code z holds

    abbrev sat : ℕ → Sitter S V → Fml
    sat = seat_owns R token cv.code z

    abbrev part : ℕ → V → Fml
    part id v = seen cv.code γ id three_quarters v

    shuts_in : (bs : List (Block S)) (vs : List V) → holds record { blocks = bs; views = vs } → ⟦ chain_owns R token bs ⟧ ∗ ⟦ roster cv.code γ 0 vs ⟧ ⊢ ⟦ I ⟧
    shuts_in bs vs good = let t : State S V = record { blocks = bs; views = vs } in qed 𝓛 (‵ (chain_owns R token bs) ∷ ‵ (roster cv.code γ 0 vs) ∷ []) ∵
        nothing ! $ fpack ! (holds t) (λ _. ftrue) good $ move ! (1 ∷ 2 ∷ 0 ∷ []) $ fjoin3 ! $ fpack ! (State S V) (state_owns R token cv.code z holds) t $ done !

    module _ {K : Type 0} {Γ : List (Item 𝓤)} where
      -- the invariant is opened
      looks_in : K → {G : Goal 𝓤 H} → ((s : State S V) → holds s → Seq K 𝓛 (‵ (chain_owns R token s.blocks) ∷ ‵ (roster cv.code γ 0 s.views) ∷ Γ) G) → Seq K 𝓛 (‵ I ∷ Γ) G
      looks_in t k = fpick t (λ s. fsplit3 t $ move t (2 ∷ []) $ fpick t (λ so. drop t $ k s so))

      -- a seat's part of its view shows that the view stands among the views
      knows : K → {G : Goal 𝓤 H} (vs : List V) (j : ℕ) (v : V) → (get_elem? vs j ≡ maybe.some v → Seq K 𝓛 (raw (all 𝓤 (Moved 𝓛 cv γ 0 vs j j)) ∷ Γ) G) → Seq K 𝓛 (‵ (roster cv.code γ 0 vs) ∷ ‵ (part j v) ∷ Γ) G
      knows t vs j v k = use2 𝓛 (given (get_elem? vs j ≡ maybe.some v) (raw (all 𝓤 (Moved 𝓛 cv γ 0 vs j j)))) (moves 𝓛 cv γ vs 0 j j v (omega arith)) $ learn t k

      -- and another takes its place
      renews : K → (vs : List V) (j : ℕ) (w : V) (P : Pr) → Step K 𝓛 (‵ (roster cv.code γ 0 (set vs j w)) ∷ ‵ (part j w) ∷ Γ) (prop (upd 𝓤 P)) (raw (all 𝓤 (Moved 𝓛 cv γ 0 vs j j)) ∷ Γ) (prop (upd 𝓤 P))
      renews t vs j w P = step (λ s. use1 𝓛 (raw (Moved 𝓛 cv γ 0 vs j j w)) (all_e 𝓤 (Moved 𝓛 cv γ 0 vs j j) w) $ settle 𝓛 P (‵ (roster cv.code γ 0 (set vs j w)) ⊛ ‵ (part j w)) $ split t $ s)

    abbrev pub Seated : ℕ → (Sitter S V → Type 0) → Sitter S V → Fml
    Seated id then u = fsep (fact (then u)) (sat id u)

    -- the seat after the step, of which `then` holds
    abbrev pub after : ℕ → (Sitter S V → Type 0) → Fml
    after id then = fex (Sitter S V) (Seated id then)

    -- the step is done: the acts follow, and the view moves
    carries_on : (s : State S V) (bs : List (Block S)) (id : ℕ) (m : Sitter S V) (then : Sitter S V → Type 0) → KeepsRule holds s bs id m then
        → ⟦ chain_owns R token bs ⟧ ∗ all 𝓤 (Moved 𝓛 cv γ 0 s.views id id) ∗ (⟦ hand_owns R m.hand ⟧ ∗ ⟦ spare_owns R token m.spare ⟧) ⊢ upd 𝓤 (⟦ I ⟧ ∗ ⟦ after id then ⟧)
    carries_on s bs id m then r = let w : V = r.0 in let more : List (Act S) = r.1 in let u : Sitter S V = viewed w (sitter_after bs m more) in let Z : Pr = ⟦ I ⟧ ∗ ⟦ after id then ⟧ in let vs : List V = set s.views id w in
        qed 𝓛 (‵ (chain_owns R token bs) ∷ raw (all 𝓤 (Moved 𝓛 cv γ 0 s.views id id)) ∷ ‵ (hand_owns R m.hand) ∷ ‵ (spare_owns R token m.spare) ∷ []) ∵ move ! (1 ∷ []) $
        renews ! s.views id w Z $ move ! (2 ∷ 3 ∷ 4 ∷ []) $
        use3 𝓛 (‵ (chain_owns R token (blocks_after bs more)) ⊛ ‵ (hand_owns R u.hand) ⊛ ‵ (spare_owns R token u.spare)) (acts 𝓛 R token bs m more r.2) $ split3 ! $ move ! (0 ∷ 3 ∷ []) $
        use2 𝓛 (‵ I) (shuts_in (blocks_after bs more) vs r.3) $ suffices ! _ (upd_i 𝓤 Z) $ frame ! $ show ! (λ (x : Sitter S V). ⟦ Seated id then x ⟧) u $
        nothing ! $ fpack ! (then u) (λ _. ftrue) r.4 $ move ! (0 ∷ 3 ∷ 1 ∷ 2 ∷ []) $ done !

    module _ (q : Share) (p : Ptr) where
      abbrev b : ℕ
      b = block_of p

      abbrev word_place : ℕ → ℕ
      word_place i = i * 8 + (count_of p + 8)

      -- where the block is the web's number j, the word i may become f of what it was
      abbrev Allowed : ℕ → (ℕ → ℕ) → (ℕ → Fml) → State S V → ℕ → Pr
      Allowed i f gain s j = guard 𝓤 (Lives s.blocks j p × Near 𝓛 R token i (block s.blocks j)) (all 𝓤 (λ (_ : word_of s.blocks j i < 18446744073709551616).
          ⟦ chain_owns R token (with_word s.blocks j i (f (word_of s.blocks j i))) ⟧ -∗ upd 𝓤 (⟦ I ⟧ ∗ ⟦ gain (word_of s.blocks j i) ⟧)))

      -- a step on the word i, where `law` shows how the invariant stands again
      words_by : (i : ℕ) (f : ℕ → ℕ) (gain : ℕ → Fml) (X : Pr) → ((s : State S V) → holds s → ⟦ roster cv.code γ 0 s.views ⟧ ∗ X ⊢ ex 𝓤 (Allowed i f gain s))
          → A.inv (fbor κ I) ∗ A.lft κ q ∗ X ⊢ asks 𝓛 (block_ptr b (word_place i)) f always (λ n. fsep (flft κ q) (gain n))
      words_by i f gain X law = let e : ℕ = word_place i in let G : Pr = ex 𝓤 (Word-found 𝓛 κ q I b e f gain) in
          word_step 𝓛 κ q I b e f gain X (qed 𝓛 (‵ I ∷ raw X ∷ []) ∵ suffices ! _ (upd_i 𝓤 G) $ looks_in ! (λ s so. move ! (1 ∷ 2 ∷ []) $
          use2 𝓛 (some (λ (j : ℕ). raw (Allowed i f gain s j))) (law s so) $ pick ! (λ (k : ℕ).
          let n : ℕ = word_of s.blocks k i in let W : Fml = chain_owns R token (with_word s.blocks k i (f n)) in let Z : Pr = upd 𝓤 (⟦ I ⟧ ∗ ⟦ gain n ⟧) in let Then : n < 18446744073709551616 → Pr = λ _. ⟦ W ⟧ -∗ Z in
          use1 𝓛 (given (Lives s.blocks k p × Near 𝓛 R token i (block s.blocks k)) (raw (all 𝓤 Then))) (id⊢ 𝓤 (Allowed i f gain s k)) $ learn ! (λ lies. move ! (1 ∷ []) $
          use1 𝓛 (given (i < SLOTS) (‵ (word b e n) ⊛ raw (all 𝓤 (Reworded 𝓛 R token s.blocks k p i)))) (word_at 𝓛 R token s.blocks k p i lies.1 lies.0) $ learn ! (λ few. split ! $
          use1 𝓛 (given (T (has_ty (ty_int w64) (vint w64 n)) × WT (vint w64 n)) (‵ (word b e n))) (𝓛.laws.at_wt full_share (ty_int w64) b e (vint w64 n)) $ learn ! (λ typed.
          show ! (Word-found 𝓛 κ q I b e f gain) n $ frame ! $
          assume ! (‵ (word b e (f n))) $ puts_back ! (word b e) (λ j. chain_owns R token (with_word s.blocks k i j)) (f n) $ move ! (1 ∷ []) $
          use1 𝓛 (raw (⟦ W ⟧ -∗ Z)) (all_e 𝓤 Then typed.1.fits) $ move ! (1 ∷ 0 ∷ []) $ by ! (apply∗ 𝓤 ⟦ W ⟧ Z)))))))

      -- The views after a load that changes no block, with what it leaves.
      abbrev Viewed : List (Block S) → Fml → List V → Pr
      Viewed bs gain vs = guard 𝓤 (holds record { blocks = bs; views = vs }) (⟦ roster cv.code γ 0 vs ⟧ ∗ ⟦ gain ⟧)

      -- where the block is the web's number j, a load leaves such views
      abbrev Unchanged : Fml → State S V → ℕ → Pr
      Unchanged gain s j = guard 𝓤 (Lives s.blocks j p) (upd 𝓤 (ex 𝓤 (Viewed s.blocks gain)))

      reads_by : (i : ℕ) (gain : Fml) (X : Pr) → i < END_WORDS → ((s : State S V) → holds s → ⟦ roster cv.code γ 0 s.views ⟧ ∗ X ⊢ ex 𝓤 (Unchanged gain s))
          → A.inv (fbor κ I) ∗ A.lft κ q ∗ X ⊢ asks 𝓛 (block_ptr b (word_place i)) (λ n. n) always (λ n. fsep (flft κ q) gain)
      reads_by i gain X near law = words_by i (λ n. n) (λ _. gain) X (λ s so. qed 𝓛 (‵ (roster cv.code γ 0 s.views) ∷ raw X ∷ []) ∵ use2 𝓛 (some (λ (j : ℕ). raw (Unchanged gain s j))) (law s so) $ pick ! (λ (k : ℕ).
          let n : ℕ = word_of s.blocks k i in let W : Fml = chain_owns R token (with_word s.blocks k i n) in let Done : Pr = ⟦ I ⟧ ∗ ⟦ gain ⟧ in
          use1 𝓛 (given (Lives s.blocks k p) (raw (upd 𝓤 (ex 𝓤 (Viewed s.blocks gain))))) (id⊢ 𝓤 (Unchanged gain s k)) $ learn ! (λ lies. show ! (Allowed i (λ x. x) (λ _. gain) s) k $ check ! (lies, near_end 𝓛 R token (block s.blocks k) i near) $
          each ! (λ (_ : n < 18446744073709551616). ⟦ W ⟧ -∗ upd 𝓤 Done) (λ _. assume ! (‵ W) $ rewrite ! 0 (λ (bs : List (Block S)). ‵ (chain_owns R token bs)) (same_word 𝓛 R token s.blocks k i) refl $ move ! (1 ∷ []) $
          settle 𝓛 Done (some (λ (vs : List V). given (holds record { blocks = s.blocks; views = vs }) (‵ (roster cv.code γ 0 vs) ⊛ ‵ gain))) $ pick ! (λ vs. learn ! (λ good. split ! $ move ! (2 ∷ 0 ∷ []) $
          use2 𝓛 (‵ I) (shuts_in s.blocks vs good) $ suffices ! _ (upd_i 𝓤 Done) $ frame ! $ done !))))))

      -- the same of the first word
      reads_first : (gain : Fml) (X : Pr) → ((s : State S V) → holds s → ⟦ roster cv.code γ 0 s.views ⟧ ∗ X ⊢ ex 𝓤 (Unchanged gain s))
          → A.inv (fbor κ I) ∗ A.lft κ q ∗ X ⊢ asks 𝓛 (block_ptr b (count_of p + 8)) (λ n. n) always (λ n. fsep (flft κ q) gain)
      reads_first gain X law = let first : word_place 0 ≡ count_of p + 8 = omega arith in subst (λ (j : ℕ). A.inv (fbor κ I) ∗ A.lft κ q ∗ X ⊢ asks 𝓛 (block_ptr b j) (λ n. n) always (λ n. fsep (flft κ q) gain)) first (reads_by 0 gain X (omega arith) law)

      -- a load without a seat
      pub peeks : (i : ℕ) → i < END_WORDS → StaysIn holds p → A.inv (fbor κ I) ∗ A.lft κ q ∗ ⟦ ftrue ⟧ ⊢ asks 𝓛 (block_ptr b (word_place i)) (λ n. n) always (λ n. fsep (flft κ q) ftrue)
      peeks i near stays = reads_by i ftrue ⟦ ftrue ⟧ near (λ s so. let r = stays s so in let Z : Pr = ex 𝓤 (Viewed s.blocks ftrue) in
          qed 𝓛 (‵ (roster cv.code γ 0 s.views) ∷ ‵ ftrue ∷ []) ∵ show ! (Unchanged ftrue s) r.0 $ check ! r.1 $ suffices ! _ (upd_i 𝓤 Z) $ show ! (Viewed s.blocks ftrue) s.views $ check ! so $ done !)

      module _ (id : ℕ) (m : Sitter S V) where
        pub steps : (i : ℕ) (f : ℕ → ℕ) (then : ℕ → Sitter S V → Type 0) → Allows holds id m p i f then
            → A.inv (fbor κ I) ∗ A.lft κ q ∗ ⟦ sat id m ⟧ ⊢ asks 𝓛 (block_ptr b (word_place i)) f always (λ n. fsep (flft κ q) (after id (then n)))
        steps i f then law = words_by i f (λ n. after id (then n)) ⟦ sat id m ⟧ (λ s so.
            qed 𝓛 (‵ (roster cv.code γ 0 s.views) ∷ ‵ (part id m.view) ∷ ‵ (hand_owns R m.hand) ∷ ‵ (spare_owns R token m.spare) ∷ []) ∵
            knows ! s.views id m.view (λ at. let r = law s so at in let n : ℕ = word_of s.blocks r.0 i in let bs : List (Block S) = with_word s.blocks r.0 i (f n) in show ! (Allowed i f (λ n. after id (then n)) s) r.0 $ check ! (r.1.0, λ so. r.1.1) $
            each ! (λ (_ : n < 18446744073709551616). ⟦ chain_owns R token bs ⟧ -∗ upd 𝓤 (⟦ I ⟧ ∗ ⟦ after id (then n) ⟧)) (λ small. assume ! (‵ (chain_owns R token bs)) $ by ! (carries_on s bs id m (then n) (r.2 small)))))

        -- what a step on a link leaves: the seat, and a fact on the place found
        abbrev pub answered : (Ptr → Type 0) → (Ptr → Sitter S V → Type 0) → Ptr → Fml
        answered φ then u = after id (λ x. φ u × then u x)

        -- the link becomes f of what it was, in the cases C that `tells` shows
        links_by : (C : Type 0) (was : C → Ptr) (f : Ptr → Ptr) (new : C → Ptr) (tells : C → Fml) (φ : Ptr → Type 0) (then : Ptr → Sitter S V → Type 0) → ((u : Ptr) → Testable u → φ u)
            → ((u : Ptr) → Testable u → emp 𝓤 ⊢ ex 𝓤 (λ (c : C). guard 𝓤 ((was c ≡ u) × (new c ≡ f u)) ⟦ tells c ⟧)) → AllowsLink holds id m p f then
            → ⟦ I ⟧ ∗ ⟦ sat id m ⟧ ⊢ upd 𝓤 (ex 𝓤 (BlockPtr-found 𝓛 κ q I b (count_of p + 0) C was new tells (λ c. answered φ then (was c))))
        links_by C was f new tells φ then says cases law = let e : ℕ = count_of p + 0 in let L : C → Pr = BlockPtr-found 𝓛 κ q I b e C was new tells (λ c. answered φ then (was c)) in
            qed 𝓛 (‵ I ∷ ‵ (part id m.view) ∷ ‵ (hand_owns R m.hand) ∷ ‵ (spare_owns R token m.spare) ∷ []) ∵ suffices ! _ (upd_i 𝓤 (ex 𝓤 L)) $
            looks_in ! (λ s so. move ! (1 ∷ 2 ∷ []) $ let Moves : Pr = all 𝓤 (Moved 𝓛 cv γ 0 s.views id id) in
            knows ! s.views id m.view (λ at. let r = law s so at in let k : ℕ = r.0 in let u : Ptr = (block s.blocks k).next in let bs : List (Block S) = with_next s.blocks k (f u) in let goes = r.2.1 in move ! (1 ∷ []) $
            use1 𝓛 (‵ (cell b e u) ⊛ raw (all 𝓤 (Relinked 𝓛 R token s.blocks k p))) (link_at 𝓛 R token s.blocks k p r.1) $ split ! $
            use0 𝓛 (some (λ (c : C). given ((was c ≡ u) × (new c ≡ f u)) (‵ (tells c)))) (cases u r.2.0) $ pick ! (λ c. learn ! (λ is. show ! L c $
            rewrite ! 1 (λ (x : Ptr). ‵ (cell b e x)) (sym is.0) refl $ move ! (1 ∷ 0 ∷ []) $ frame ! $ frame ! $
            assume ! (‵ (cell b e (new c))) $ rewrite ! 0 (λ (x : Ptr). ‵ (cell b e x)) is.1 refl $ puts_back ! (cell b e) (λ x. chain_owns R token (with_next s.blocks k x)) (f u) $
            by ! (subst (λ (x : Ptr). ⟦ chain_owns R token bs ⟧ ∗ Moves ∗ (⟦ hand_owns R m.hand ⟧ ∗ ⟦ spare_owns R token m.spare ⟧) ⊢ upd 𝓤 (⟦ I ⟧ ∗ ⟦ answered φ then x ⟧)) (sym is.0)
            (carries_on s bs id m (λ x. φ u × then u x) (goes.0, goes.1, goes.2, goes.3, (says u r.2.0, goes.4))))))))

        -- a load, or a store of what f says
        relinks : (f : Ptr → Ptr) (φ : Ptr → Type 0) (then : Ptr → Sitter S V → Type 0) → ((u : Ptr) → Testable u → φ u) → AllowsLink holds id m p f then
            → A.inv (fbor κ I) ∗ A.lft κ q ∗ ⟦ sat id m ⟧ ⊢ asks_ptr 𝓛 (block_ptr b (count_of p + 0)) f (λ u. fsep (flft κ q) (answered φ then u))
        relinks f φ then says law = link_step 𝓛 κ q I b (count_of p + 0) Ptr (λ u. u) f (λ _. ftrue) (answered φ then) ⟦ sat id m ⟧ (links_by Ptr (λ u. u) f f (λ _. ftrue) φ then says
            (λ u low. qed 𝓛 (raw (emp 𝓤) ∷ []) ∵ show ! (λ (c : Ptr). guard 𝓤 ((c ≡ u) × (f c ≡ f u)) (emp 𝓤)) u $ check ! (refl, refl) $ done !) law)

        null_cond : (new u : Ptr) → cond (ptr_same (ptr_val u) vnull) new u ≡ if_unset new u
        null_cond new (block_ptr c o) = refl
        null_cond new null_ptr = refl

        -- one step on the link
        pub operates_link : (op : LinkOperation) (new : Ptr) (then : Ptr → Sitter S V → Type 0) → AllowsLink holds id m p (leads_to op new) (λ u. then (answered_place op new u))
            → A.inv (fbor κ I) ∗ A.lft κ q ∗ ⟦ sat id m ⟧ ⊢ asks_link 𝓛 (block_ptr b (count_of p + 0)) new (λ u. fsep (flft κ q) (answered (IsAnsweredPlace op new) then u)) (link_tag op)
        operates_link does.Load new then law = relinks (λ u. u) Testable then (λ u low. low) law
        operates_link does.Store new then law = relinks (λ _. new) (λ _. new ≡ new) (λ _. then new) (λ u low. refl) law
        operates_link does.Install new then law = let C : Type 0 = Ptr × Bool in let was : C → Ptr = λ c. c.0 in let new' : C → Ptr = λ c. cond c.1 new c.0 in let tells : C → Fml = λ c. alike c.0 null_ptr c.1 in
            null_step 𝓛 κ q I b (count_of p + 0) new (answered Testable then) ⟦ sat id m ⟧ (links_by C was (if_unset new) new' tells Testable then (λ u low. low)
            (λ u low. let y : Bool = ptr_same (ptr_val u) vnull in qed 𝓛 (raw (emp 𝓤) ∷ []) ∵ show ! (λ (c : C). guard 𝓤 ((was c ≡ u) × (new' c ≡ if_unset new u)) ⟦ tells c ⟧) (u, y) $ check ! (refl, null_cond new u) $ by ! (null_tested 𝓛 u low)) law)

        -- a view cut in two
        module _ (l r : V) where
          abbrev pub Two : ℕ → Fml
          Two j = fsep (sat j (sitter r None None)) (sat id (sitter l m.hand m.spare))

          pub forks : CanFork holds p id m.view l r → A.inv (fbor κ I) ∗ A.lft κ q ∗ ⟦ sat id m ⟧ ⊢ asks 𝓛 (block_ptr b (count_of p + 8)) (λ n. n) always (λ n. fsep (flft κ q) (fex ℕ Two))
          forks law = reads_first (fex ℕ Two) ⟦ sat id m ⟧ (λ s so. let vs : List V = set s.views id l in let Z : Pr = ex 𝓤 (Viewed s.blocks (fex ℕ Two)) in
              qed 𝓛 (‵ (roster cv.code γ 0 s.views) ∷ ‵ (part id m.view) ∷ ‵ (hand_owns R m.hand) ∷ ‵ (spare_owns R token m.spare) ∷ []) ∵
              knows ! s.views id m.view (λ at. let good = law s so at in show ! (Unchanged (fex ℕ Two) s) good.0 $ check ! good.1 $ renews ! s.views id l Z $
              use1 𝓛 (raw (upd 𝓤 (ex 𝓤 (Joined 𝓛 cv γ 0 vs r)))) (joins 𝓛 cv γ vs 0 r) $ settle 𝓛 Z (some (λ (j : ℕ). ‵ (roster cv.code γ 0 (vs ++ r ∷ [])) ⊛ ‵ (part j r))) $ pick ! (λ j. split ! $ suffices ! _ (upd_i 𝓤 Z) $
              show ! (Viewed s.blocks (fex ℕ Two)) (vs ++ r ∷ []) $ check ! good.2 $ frame ! $ show ! (λ (x : ℕ). ⟦ Two x ⟧) j $ nothing ! $ nothing ! $ move ! (2 ∷ 0 ∷ 1 ∷ []) $ fjoin3 ! $ move ! (1 ∷ 2 ∷ 3 ∷ []) $ fjoin3 ! $ move ! (1 ∷ 0 ∷ []) $ fjoin ! $ done !)))

        -- a view taken in
        module _ (other : ℕ) (it : Sitter S V) (both spent : V) where
          abbrev pub Merged : Fml
          Merged = fsep (sat id (sitter both m.hand m.spare)) (sat other (sitter spent it.hand it.spare))

          pub absorbs : CanMerge holds p id m.view other it.view both spent
              → A.inv (fbor κ I) ∗ A.lft κ q ∗ (⟦ sat id m ⟧ ∗ ⟦ sat other it ⟧) ⊢ asks 𝓛 (block_ptr b (count_of p + 8)) (λ n. n) always (λ n. fsep (flft κ q) Merged)
          absorbs law = reads_first Merged (⟦ sat id m ⟧ ∗ ⟦ sat other it ⟧) (λ s so. let good = law s so in let vs : List V = set s.views id both in let us : List V = set vs other spent in let Z : Pr = ex 𝓤 (Viewed s.blocks Merged) in
              qed 𝓛 (‵ (roster cv.code γ 0 s.views) ∷ ‵ (sat id m) ∷ ‵ (sat other it) ∷ []) ∵ show ! (Unchanged Merged s) good.0 $ check ! good.1 $ move ! (1 ∷ []) $ fsplit ! $ move ! (3 ∷ []) $ fsplit ! $ move ! (2 ∷ 0 ∷ []) $
              -- [both views; what the other holds; what this one holds; the roster]
              use2 𝓛 (given (¬ (other ≡ id)) (‵ (part id m.view) ⊛ ‵ (part other it.view))) (apart 𝓛 cv γ id other m.view it.view) $ learn ! (λ distinct. split ! $ move ! (4 ∷ 0 ∷ []) $
              knows ! s.views id m.view (λ at. renews ! s.views id both Z $ move ! (0 ∷ 2 ∷ []) $ knows ! vs other it.view (λ there. renews ! vs other spent Z $ suffices ! _ (upd_i 𝓤 Z) $
              show ! (Viewed s.blocks Merged) us $ check ! (good.2 at distinct there) $ frame ! $ move ! (0 ∷ 2 ∷ []) $ fjoin ! $ move ! (1 ∷ 2 ∷ []) $ fjoin ! $ done !))))

    -- ---- the end
    abbrev pub LastOwned : List (Block S) → Pr
    LastOwned bs = guard 𝓤 (LastBlocks holds bs) ⟦ chain_owns R token bs ⟧

    pub ends : ⟦ web_owns R token cv.code z holds ⟧ ⊢ H.⇛ (ex 𝓤 LastOwned)
    unfolding Rattle.mem_blocks.specs.Laid.seal
    ends = qed 𝓛 (‵ (flft κ full_share) ∷ ‵ (known_to_all R token cv.code z holds) ∷ ‵ (flent κ I) ∷ []) ∵ updating ! $ lft_end ! tt $ keep ! (0 ∷ 2 ∷ []) $ lent_back ! tt $
        looks_in ! (λ s so. now ! $ show ! LastOwned s.blocks $ check ! (s.views, so) $ keep ! (0 ∷ []) $ done !)

    module _ (id : ℕ) (m : Sitter S V) where
      abbrev pub EndedBy : List (Block S) → Pr
      EndedBy bs = guard 𝓤 (LastBlocksBy holds id m.view bs) ⟦ chain_owns R token bs ⟧

      pub ends_by : ⟦ sat id m ⟧ ∗ ⟦ web_owns R token cv.code z holds ⟧ ⊢ H.⇛ (ex 𝓤 EndedBy)
      unfolding Rattle.mem_blocks.specs.Laid.seal
      ends_by = qed 𝓛 (‵ (sat id m) ∷ (‵ (flft κ full_share) ⊛ ‵ (known_to_all R token cv.code z holds) ⊛ ‵ (flent κ I)) ∷ []) ∵ fsplit ! $ keep ! (0 ∷ 2 ∷ []) $ move ! (1 ∷ []) $ split3 ! $ updating ! $ lft_end ! tt $ keep ! (0 ∷ 2 ∷ 3 ∷ []) $ lent_back ! tt $
          looks_in ! (λ s so. move ! (1 ∷ 2 ∷ []) $ knows ! s.views id m.view (λ at. now ! $ show ! EndedBy s.blocks $ check ! (s.views, so, at) $ keep ! (1 ∷ []) $ done !))

  -- ---- the beginning
  module _ (bs : List (Block S)) (v : V) where
    abbrev pub Begun : WebId → Pr
    Begun z = ⟦ web_owns R token cv.code z holds ⟧ ∗ ⟦ seat_owns R token cv.code z 0 (sitter v None None) ⟧

    pub begins : holds record { blocks = bs; views = v ∷ [] } → ⟦ chain_owns R token bs ⟧ ⊢ H.⇛ (ex 𝓤 Begun)
    unfolding Rattle.mem_blocks.specs.Laid.seal
    begins good = qed 𝓛 (‵ (chain_owns R token bs) ∷ []) ∵ updating ! $ lft_new ! tt (λ a. let κ : Lft = a ∷ [] in
        use0 𝓛 (later (some (λ (γ : ℕ). ‵ (unused cv.code γ 0 v)))) (via 𝓤 _ (entries_new halved 𝓛 0 (λ _. (full_share, cv.code v))) (basic 𝓛 (ex 𝓤 (λ (γ : ℕ). ⟦ unused cv.code γ 0 v ⟧)))) $ await ! tt $ pick ! (λ γ.
        let z : WebId = (γ, a) in let I : Fml = inside_owns R token cv.code z holds in let L : Fml = seen cv.code γ 0 quarter v in let Mine : Fml = seen cv.code γ 0 three_quarters v in
        use1 𝓛 (‵ (seen cv.code γ 0 full_share v) ⊛ ‵ (unused cv.code γ 1 v)) (entries_take halved 𝓛 γ 0 (λ _. (full_share, cv.code v))) $ split ! $
        use1 𝓛 (later (‵ L ⊛ ‵ Mine)) (via 𝓤 _ (resets 𝓛 cv γ 0 v v) (basic 𝓛 (⟦ L ⟧ ∗ ⟦ Mine ⟧))) $ await ! tt $ split ! $ move ! (2 ∷ []) $ fpack ! V (unused cv.code γ 1) v $ move ! (1 ∷ 0 ∷ []) $ fjoin ! $ move ! (3 ∷ 0 ∷ []) $
        use2 𝓛 (‵ I) (shuts_in z bs (v ∷ []) good) $ bor_new ! tt κ $ use1 𝓛 (later (‵ (finv (fbor κ I)))) (𝓛.invs.inv_new (fbor κ I)) $ await ! tt $ move ! (3 ∷ 0 ∷ 1 ∷ []) $ fjoin3 ! $
        nothing ! $ nothing ! $ move ! (3 ∷ 0 ∷ 1 ∷ []) $ fjoin3 ! $ now ! $ show ! Begun z $ move ! (1 ∷ 0 ∷ []) $ done !))
