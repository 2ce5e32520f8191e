-- What walks have in common: how the steps of a seat begin and end, and small moves. Assumes `Logic`.
use Rattle.std.proofs.Common.{◌≡◌, ℕ, zero, suc, ◌^◌, ◌<◌, List, [], ◌∷◌, sym, refl, subst, w64}
use seplogic.Ra.Ura.{Ura}
use mir.{Val.Val, Val.vint, Val.vptr, Syntax.Fn}
use base.{Fraction.full_share, Stored.Gv}
use base.Logic.{SProp, ent, wand, all, emp, id⊢, apply∗, all_e}
use base.Fml.{Lft, Share, GName, Fml, ftrue, feq, flt, fhide, fsep, fex, fobs, fauth, fbor, fobor, flft, fshr_bor}
use types.{Logic.Logic, Logic.sem, SemTy.Body, Run.enter, Tokens.shr_bor-open, Tokens.obor_close}
use prog.Wp.{Calls, Loops, WpFn}
use types.Kit.{Item, Seq, Step, step, Goal, allocs, params', runs, at_ret, prop, Soaks, ‵, raw, ◌⊛◌, ◌$◌, move, drop, split, split3, join, fsplit, fsplit3, fjoin, fjoin3, feq_i, flt_i, fpick, rewrite, suffices, use0, use1, use2}
use ghost.Rules.{Halves}
use contract.Monad.{fact, fact_i}
use denote.{RattleType.RattleType, Opens.unhide, Memory.mem, Memory.cell_at, Steps.nothing, Steps.opens, Steps.closes}
use denote.RawPtr.{Ptr, block_ptr, block_of, count_of, at_block, InBlock}
use Rattle.mem_blocks.proofs.Made.{Blank, blank_val, blank_made}

-- n parameters that a call uses up
abbrev pub spent : ℕ → Fml
spent zero = ftrue
spent (suc n) = fsep ftrue (spent n)

-- a `&mut` that a call gives back
abbrev pub given_back : List Val → ℕ → ℕ → Fml → Fml → Fml
given_back us b o seen lent = fsep (feq (List Val) us (vptr b o ∷ [])) (fsep seen lent)

-- a `&mut` that stands for h when the call ends, and n parameters after it
abbrev pub lent_back : (Sr : RattleType) → Lft → List Val → ℕ → ℕ → GName → Sr.Denot → ℕ → Fml
lent_back Sr κ us b o γ h n = fsep (given_back us b o (fobs γ (Sr.coded.code h)) (fbor κ (Body (mem Sr) b o γ))) (spent n)

module _ {M : Type 1} {𝓤 : Ura M} {𝓛 : Logic 𝓤} {K : Type 0} {Γ : List (Item 𝓤)} where
  open 𝓛 use {H}

  -- A pointer into a block is its block at its offset: what is shown of that holds of the pointer.
  in_block : K → (p : Ptr) → InBlock p → (F : Ptr → SProp 𝓤) → Step K 𝓛 Γ (prop (F (block_ptr (block_of p) (count_of p)))) Γ (prop (F p))
  in_block t p inside F = let there : Ptr = block_ptr (block_of p) (count_of p) in suffices t (F there) (subst (λ (u : Ptr). ent 𝓤 (F there) (F u)) (sym (at_block p inside)) (id⊢ 𝓤 (F there)))

  -- A call is entered whose arguments have the pointer in them.
  pub enters_at : K → (p : Ptr) → InBlock p → (C : Calls 𝓤 H) (Λ : Loops 𝓤 H) (f : Fn) (vs : Ptr → List Val) (Kf : Val → SProp 𝓤)
      → Step K 𝓛 Γ (allocs f.locals (λ E. params' E (vs (block_ptr (block_of p) (count_of p))) (runs C Λ E f.body (at_ret E Kf)))) Γ (prop (WpFn 𝓤 H C Λ f (vs p) Kf))
  enters_at t p inside C Λ f vs Kf = step (λ s. in_block t p inside (λ u. WpFn 𝓤 H C Λ f (vs u) Kf) $ enter t C Λ f (vs (block_ptr (block_of p) (count_of p))) Kf $ s)

  module _ {G : Goal 𝓤 H} where
    -- a fact that the call ensures
    pub tells : K → (φ : Type 0) → φ → Step K 𝓛 (raw (fact 𝓤 φ) ∷ Γ) G Γ G
    tells t φ so = use0 𝓛 (raw (fact 𝓤 φ)) (fact_i 𝓤 φ (emp 𝓤) so)

    -- the number that the call answers with
    pub numbers : K → (n : ℕ) → n < 2 ^ 64 → Step K 𝓛 (‵ (fsep (feq (List Val) (vint w64 n ∷ []) (vint w64 n ∷ [])) (flt n (2 ^ 64))) ∷ Γ) G Γ G
    numbers t n fits = step (λ s. flt_i t n (2 ^ 64) fits $ feq_i t (List Val) (vint w64 n ∷ []) (vint w64 n ∷ []) refl $ fjoin t $ s)

    -- a struct whose one field has no bytes, and what it owns
    pub blank : K → (X : RattleType) {P : Fml} → Step K 𝓛 (‵ (fsep ((Blank X).own_val (record {}, tt) (blank_val ∷ [])) P) ∷ Γ) G (‵ P ∷ Γ) G
    blank t X = step (λ s. use0 𝓛 (‵ ((Blank X).own_val (record {}, tt) (blank_val ∷ []))) (blank_made X 𝓛) $ fjoin t $ s)

    -- a piece of a whole is put back, whatever it is now
    pub puts_back : K → {X : Type 0} (piece whole : X → Fml) (x : X) → Step K 𝓛 (‵ (whole x) ∷ Γ) G (‵ (piece x) ∷ raw (all 𝓤 (λ (y : X). wand 𝓤 (sem 𝓛 (piece y)) (sem 𝓛 (whole y)))) ∷ Γ) G
    puts_back t piece whole x = step (λ s. move t (1 ∷ []) $ use1 𝓛 (raw (wand 𝓤 (sem 𝓛 (piece x)) (sem 𝓛 (whole x)))) (all_e 𝓤 (λ y. wand 𝓤 (sem 𝓛 (piece y)) (sem 𝓛 (whole y))) x) $ move t (1 ∷ 0 ∷ []) $
        use2 𝓛 (‵ (whole x)) (apply∗ 𝓤 (sem 𝓛 (piece x)) (sem 𝓛 (whole x))) $ s)

    pub gives_back : K → {us : List Val} (b o : ℕ) {seen lent : Fml} → us ≡ vptr b o ∷ [] → Step K 𝓛 (‵ (given_back us b o seen lent) ∷ Γ) G (‵ seen ∷ ‵ lent ∷ Γ) G
    gives_back t {us} b o e = step (λ s. feq_i t (List Val) us (vptr b o ∷ []) e $ fjoin3 t $ s)

    pub spends : K → (n : ℕ) → Step K 𝓛 (‵ (spent n) ∷ Γ) G Γ G
    spends t zero = nothing t
    spends t (suc n) = step (λ s. spends t n $ nothing t $ fjoin t $ s)

module _ {M : Type 1} {𝓤 : Ura M} {𝓛 : Logic 𝓤} {K : Type 0} {Γ : List (Item 𝓤)} {G : Goal 𝓤 𝓛.H} where
  open 𝓛 use {H}

  -- a parameter, and n after it that a call uses up
  pub alone : K → (n : ℕ) {P : Fml} → Step K 𝓛 (‵ (fsep P (spent n)) ∷ Γ) G (‵ P ∷ Γ) G
  alone t n = step (λ s. spends t n $ move t (1 ∷ 0 ∷ []) $ fjoin t $ s)

  -- The first parameter of a call is a `&mut`, and its others hold nothing.
  pub takes_ref : K → {same seen lent more life others : Fml} → Step K 𝓛 (‵ seen ∷ ‵ lent ∷ ‵ life ∷ ‵ others ∷ Γ) G (((‵ life ⊛ ‵ others) ⊛ ‵ (fsep (fsep same (fsep seen lent)) more)) ∷ Γ) G
  takes_ref t = step (λ s. split t $ split t $ move t (2 ∷ []) $ fsplit t $ fsplit3 t $ drop t $ move t (2 ∷ []) $ drop t $ s)

  -- Its first is the `&` to a web, and its second the `&mut` with a seat: the web's tokens and its invariant, and the seat.
  pub takes_step : K → {same bare shared inv same' seen lent more life life' others : Fml}
      → Step K 𝓛 (‵ shared ∷ ‵ inv ∷ ‵ life ∷ ‵ seen ∷ ‵ lent ∷ ‵ life' ∷ ‵ others ∷ Γ) G (((‵ life ⊛ ‵ life' ⊛ ‵ others) ⊛ ‵ (fsep (fsep same (fhide (fsep bare (fsep shared inv)))) (fsep (fsep same' (fsep seen lent)) more))) ∷ Γ) G
  takes_step t = step (λ s. split t $ split3 t $ move t (3 ∷ []) $ fsplit3 t $ fsplit t $ drop t $ unhide t $ fsplit3 t $ drop t $ move t (2 ∷ []) $ fsplit3 t $ drop t $ move t (4 ∷ []) $ drop t $ move t (2 ∷ 3 ∷ 4 ∷ 0 ∷ 1 ∷ []) $ s)

  -- A `&mut` is opened, and what its referent owns beside its fields comes first.
  pub opens_ref : K → Soaks G → (Sr : RattleType) (h : Sr.Denot) {κ : Lft} {q : Share} {γ : GName} (b o : ℕ) {owned : Fml} {fields : List Val → Fml} → ((ts : List Val) → Sr.own_val h ts ≡ fsep (fields ts) owned)
      → ((ts : List Val) → Seq K 𝓛 (‵ owned ∷ ‵ (fields ts) ∷ ‵ (cell_at full_share Sr.mir ts b o) ∷ ‵ (fobor κ q (Body (mem Sr) b o γ)) ∷ ‵ (fobs γ (Sr.coded.code h)) ∷ ‵ (fauth γ (Sr.coded.code h)) ∷ Γ) G)
      → Seq K 𝓛 (‵ (fobs γ (Sr.coded.code h)) ∷ ‵ (fbor κ (Body (mem Sr) b o γ)) ∷ ‵ (flft κ q) ∷ Γ) G
  opens_ref t z Sr h b o same k = opens t z Sr b o (λ ts. move t (1 ∷ []) $ rewrite t 0 (λ (F : Fml). ‵ F) (same ts) refl $ fsplit t $ move t (1 ∷ []) $ k ts)

  -- It is closed with h in its place.
  pub closes_ref : K → Soaks G → (Sr : RattleType) (h : Sr.Denot) {κ : Lft} {q : Share} {owned fields : Fml} {u v : Gv} {γ : GName} (ts : List Val) {us : List Val} (b o : ℕ) → us ≡ vptr b o ∷ [] → Sr.own_val h ts ≡ fsep fields owned
      → Step K 𝓛 (‵ (given_back us b o (fobs γ (Sr.coded.code h)) (fbor κ (Body (mem Sr) b o γ))) ∷ ‵ (flft κ q) ∷ Γ) G
      (‵ owned ∷ ‵ fields ∷ ‵ (cell_at full_share Sr.mir ts b o) ∷ ‵ (fobor κ q (Body (mem Sr) b o γ)) ∷ ‵ (fobs γ u) ∷ ‵ (fauth γ v) ∷ Γ) G
  closes_ref t z Sr h ts b o is same = step (λ s. move t (1 ∷ 0 ∷ []) $ fjoin t $ rewrite t 0 (λ (F : Fml). ‵ F) (sym same) refl $ move t (1 ∷ 0 ∷ []) $ closes t z Sr h ts b o $ gives_back t b o is $ s)

module _ {M : Type 1} {𝓤 : Ura M} {𝓛 : Logic 𝓤} {K : Type 0} {Γ : List (Item 𝓤)} {G : Goal 𝓤 𝓛.H} where
  open 𝓛 use {H}

  module _ {κ : Lft} {q : Share} {γ : GName} where
    module _ {fields others : Fml} {u v : Gv} where
      -- The same, and n parameters that hold nothing are given back, with the tokens.
      pub shuts_ref : K → Soaks G → (Sr : RattleType) (h : Sr.Denot) {owned : Fml} (ts : List Val) {us : List Val} (b o n : ℕ) → us ≡ vptr b o ∷ [] → Sr.own_val h ts ≡ fsep fields owned
          → Step K 𝓛 ((‵ (flft κ q) ⊛ ‵ others) ∷ ‵ (lent_back Sr κ us b o γ h n) ∷ Γ) G
          (‵ owned ∷ ‵ fields ∷ ‵ (cell_at full_share Sr.mir ts b o) ∷ ‵ (fobor κ q (Body (mem Sr) b o γ)) ∷ ‵ (fobs γ u) ∷ ‵ (fauth γ v) ∷ ‵ others ∷ Γ) G
      shuts_ref t z Sr h ts b o n is same = step (λ s. closes_ref t z Sr h ts b o is same $ alone t n $ move t (1 ∷ 2 ∷ []) $ join t $ s)

    module _ {κ' : Lft} {q' : Share} where
      -- The web's token Φ is taken out of a `&`, and the seat out of a `&mut`, where it owns `owned x`, and x is y. C is the invariant, which stays as it is.
      pub begins_step : K → Soaks G → (Sr : RattleType) (h : Sr.Denot) {Φ : Share → Fml} {C : Fml} → Halves 𝓤 H 𝓛.A Φ → (b o : ℕ)
          → {X : Type 0} (owned : X → Fml) {x y : X} → x ≡ y → {fields : List Val → Fml} → ((ts : List Val) → Sr.own_val h ts ≡ fsep (fields ts) (owned x))
          → ((s : Share) (ts : List Val) → Seq K 𝓛 (‵ (owned y) ∷ ‵ (fields ts) ∷ ‵ (cell_at full_share Sr.mir ts b o) ∷ ‵ (fobor κ' q' (Body (mem Sr) b o γ)) ∷ ‵ (fobs γ (Sr.coded.code h)) ∷ ‵ (fauth γ (Sr.coded.code h)) ∷ ‵ (fobor κ q (Φ s)) ∷ ‵ (Φ s) ∷ ‵ C ∷ Γ) G)
          → Seq K 𝓛 (‵ (fshr_bor κ Φ) ∷ ‵ C ∷ ‵ (flft κ q) ∷ ‵ (fobs γ (Sr.coded.code h)) ∷ ‵ (fbor κ' (Body (mem Sr) b o γ)) ∷ ‵ (flft κ' q') ∷ Γ) G
      begins_step t z Sr h halves b o owned e same k = move t (0 ∷ 2 ∷ []) $ shr_bor-open t z halves (λ s. move t (3 ∷ 4 ∷ 5 ∷ []) $ opens_ref t z Sr h b o same (λ ts. rewrite t 0 (λ u. ‵ (owned u)) e refl $ k s ts))

      module _ {fields others : Fml} {u v : Gv} where
        -- The token T is shut in again, and a seat `new x` stands in its place. The `&`, the seat's `&mut` and n parameters that hold nothing are given back, with the tokens.
        pub ends_step : K → Soaks G → (Sr : RattleType) {T : Fml} {X : Type 0} {more sat : X → Fml} (b o : ℕ) (ts : List Val) (n : ℕ) (new : X → Sr.Denot) → ((x : X) → Sr.own_val (new x) ts ≡ fsep fields (sat x))
            → ((x : X) → Seq K 𝓛 (‵ (more x) ∷ (‵ (flft κ q) ⊛ ‵ (flft κ' q') ⊛ ‵ others) ∷ ‵ (fsep ftrue (lent_back Sr κ' (vptr b o ∷ []) b o γ (new x) n)) ∷ Γ) G)
            → Seq K 𝓛 (‵ (fsep T (fex X (λ x. fsep (more x) (sat x)))) ∷ ‵ fields ∷ ‵ (cell_at full_share Sr.mir ts b o) ∷ ‵ (fobor κ' q' (Body (mem Sr) b o γ)) ∷ ‵ (fobs γ u) ∷ ‵ (fauth γ v) ∷ ‵ (fobor κ q T) ∷ ‵ others ∷ Γ) G
        ends_step t z Sr b o ts n new same k = fsplit t $ move t (7 ∷ 0 ∷ []) $ obor_close t z $ drop t $ move t (1 ∷ []) $ fpick t (λ x. fsplit t $ move t (1 ∷ 3 ∷ 4 ∷ 5 ∷ 6 ∷ 7 ∷ 8 ∷ []) $
            closes_ref t z Sr (new x) ts b o refl (same x) $ alone t n $ nothing t $ fjoin t $ move t (1 ∷ 2 ∷ []) $ join t $ move t (3 ∷ 0 ∷ []) $ join t $ move t (2 ∷ 0 ∷ []) $ k x)
