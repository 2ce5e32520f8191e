-- The tally at a call: what `is_refused` and `give_back` are handed, and what is had of them afterwards. Assumes `Logic`.
use Rattle.std.proofs.Common.{◌≡◌, ℕ, zero, suc, ◌+◌, ◌^◌, ◌<◌, Bool, List, [], ◌∷◌, refl, ap, w64}
use seplogic.Ra.Ura.{Ura}
use mir.{Syntax.Body, Syntax.seq, Val.Val, Val.vunit, Val.vbool, Val.vint, Val.vptr}
use base.Logic.{SProp, ent, ex, sep, guard, id⊢}
use base.Fml.{Lft, Share, ftrue, fsep, flft}
use prog.{Memory.Memory, Memory.size, Memory.align, Memory.up, Routine.Routine}
use types.Logic.{Logic, sem}
use contract.Monad.{Fun}
use types.Kit.{‵, ◌⊛◌, some, later, raw, ◌$◌, ◌∵◌, !, qed, done, move, keep, use1, split, join, pick, check, show, fjoin, feq_i, feq_l, flt_i, fsplit, await, updating, now as at_once}
use denote.{RattleType.RattleType, Memory.hidden_shr, Opens.unhide, Param.param, Steps.nothing, Steps.only, Triple.Statement.Contract, Triple.Spec.triple_of, Builtin.bool, Builtin.unit}
use Rattle.std.proofs.alloc.Calls.{Al, α, seen}
use Rattle.test_support.specs.contracts.allocators.Tally as tally
use Rattle.test_support.specs.contracts.allocators.Refusing as refusing
use Rattle.test_support.specs.contracts.allocators.is_refused as refused
use Rattle.test_support.specs.contracts.allocators.give_back as back

-- a body without its first n statements
abbrev pub later_of : ℕ → Body → Body
later_of zero b = b
later_of (suc n) (seq first others) = later_of n others
later_of (suc n) b = b

-- the tally
abbrev pub Counted : RattleType
Counted = tally.the_row

module _ {M : Type 1} {𝓤 : Ura M} (𝓛 : Logic 𝓤) (at_mem : Memory → SProp 𝓤) (run : Routine → Fun 𝓤) where
  abbrev pub IsRefused : Contract 𝓤
  IsRefused = triple_of 𝓛 refused.signature (refused.spec 𝓛 at_mem run)

  abbrev pub GivesBack : Contract 𝓤
  GivesBack = triple_of 𝓛 back.signature (back.spec 𝓛 at_mem run)

  -- the tally t at c, lent for κ, with the size n and the alignment a
  abbrev pub at_refused : Lft → Share → ℕ × ℕ → Counted.Denot → ℕ → ℕ → IsRefused.Ghost
  at_refused κ q c t n a = (((κ, tt), (q, tt), tt, (record { ref_ptr = c; now = t }, (n, (a, tt))), (vptr c.0 c.1 ∷ [], (vint w64 n ∷ [], (vint w64 a ∷ [], tt)))), tt)

  abbrev pub at_back : Lft → Share → ℕ × ℕ → Counted.Denot → ℕ → ℕ → GivesBack.Ghost
  at_back κ q c t n a = (((κ, tt), (q, tt), tt, (record { ref_ptr = c; now = t }, (n, (a, tt))), (vptr c.0 c.1 ∷ [], (vint w64 n ∷ [], (vint w64 a ∷ [], tt)))), tt)

module _ {M : Type 1} {𝓤 : Ura M} (𝓛 : Logic 𝓤) (at_mem : Memory → SProp 𝓤) (run : Routine → Fun 𝓤) (κ : Lft) (q : Share) (c : ℕ × ℕ) (t : Counted.Denot) (n a : ℕ) where
  open 𝓛 use {H, A}

  pub IsRefused-goes : n < 2 ^ 64 → a < 2 ^ 64 → ent 𝓤 (sep 𝓤 (sem 𝓛 (hidden_shr Counted κ t c.0 c.1)) (A.lft κ q)) ((IsRefused 𝓛 at_mem run).pre (at_refused 𝓛 at_mem run κ q c t n a))
  IsRefused-goes fits_n fits_a =
      qed 𝓛 (‵ (hidden_shr Counted κ t c.0 c.1) ∷ ‵ (flft κ q) ∷ []) ∵
      nothing ! $ flt_i ! a (2 ^ 64) fits_a $ feq_i ! (List Val) (vint w64 a ∷ []) (vint w64 a ∷ []) refl $ fjoin ! $ fjoin ! $
      flt_i ! n (2 ^ 64) fits_n $ feq_i ! (List Val) (vint w64 n ∷ []) (vint w64 n ∷ []) refl $ fjoin ! $ fjoin ! $
      move ! (1 ∷ []) $ feq_i ! (List Val) (vptr c.0 c.1 ∷ []) (vptr c.0 c.1 ∷ []) refl $ fjoin ! $ fjoin ! $ nothing ! $ move ! (2 ∷ []) $ join ! $ join ! $ nothing ! $ move ! (1 ∷ []) $ done !

  -- both are handed the same
  pub GivesBack-goes : n < 2 ^ 64 → a < 2 ^ 64 → ent 𝓤 (sep 𝓤 (sem 𝓛 (hidden_shr Counted κ t c.0 c.1)) (A.lft κ q)) ((GivesBack 𝓛 at_mem run).pre (at_back 𝓛 at_mem run κ q c t n a))
  GivesBack-goes = IsRefused-goes

  -- the token of the lifetime comes back, with a flag
  pub IsRefused-gives : (v : Val) → ent 𝓤 ((IsRefused 𝓛 at_mem run).post (at_refused 𝓛 at_mem run κ q c t n a) v) (H.⇛ (ex 𝓤 (λ (b : Bool). guard 𝓤 (v ≡ vbool b) (A.lft κ q))))
  IsRefused-gives v =
      qed 𝓛 (raw ((IsRefused 𝓛 at_mem run).post (at_refused 𝓛 at_mem run κ q c t n a) v) ∷ []) ∵ updating ! $
      use1 𝓛 (later (some (λ (r : Bool). ((‵ (flft κ q) ⊛ ‵ ftrue) ⊛ ‵ (bool.own_val r (v ∷ []))) ⊛ some (λ (ws : Unit {0} × (Unit {0} × (Unit {0} × Unit {0}))). ‵ (fsep ftrue (fsep ftrue (fsep ftrue ftrue))) ⊛ ‵ ftrue)))) (id⊢ 𝓤 _) $ await ! tt $ pick ! (λ r.
      split ! $ split ! $ move ! (1 ∷ []) $ feq_l ! (λ e. split ! $ at_once ! $ show ! (λ (b : Bool). guard 𝓤 (v ≡ vbool b) (A.lft κ q)) r $ check ! (ap only e) $ keep ! (0 ∷ []) $ done !))

  pub GivesBack-gives : (v : Val) → ent 𝓤 ((GivesBack 𝓛 at_mem run).post (at_back 𝓛 at_mem run κ q c t n a) v) (H.⇛ (guard 𝓤 (v ≡ vunit) (A.lft κ q)))
  GivesBack-gives v =
      qed 𝓛 (raw ((GivesBack 𝓛 at_mem run).post (at_back 𝓛 at_mem run κ q c t n a) v) ∷ []) ∵ updating ! $
      use1 𝓛 (later (some (λ (r : Unit {0}). ((‵ (flft κ q) ⊛ ‵ ftrue) ⊛ ‵ (unit.own_val r (v ∷ []))) ⊛ some (λ (ws : Unit {0} × (Unit {0} × (Unit {0} × Unit {0}))). ‵ (fsep ftrue (fsep ftrue (fsep ftrue ftrue))) ⊛ ‵ ftrue)))) (id⊢ 𝓤 _) $ await ! tt $ pick ! (λ r.
      split ! $ split ! $ move ! (1 ∷ []) $ feq_l ! (λ e. split ! $ at_once ! $ check ! (ap only e) $ keep ! (0 ∷ []) $ done !))

module _ (Z : Al) where
  -- where the inner allocator lies in one at p, and where its tally does
  abbrev pub inner_at : ℕ × ℕ → ℕ × ℕ
  inner_at p = (p.0, p.1 + up (align (α Z)) 0)

  abbrev pub tally_at : ℕ × ℕ → ℕ × ℕ
  tally_at p = (p.0, p.1 + up 8 (up (align (α Z)) 0 + size (α Z)))

  module _ {M : Type 1} {𝓤 : Ura M} (𝓛 : Logic 𝓤) (κ : Lft) (p : ℕ × ℕ) (h : (refusing.the_row Z.row).Denot) where
    -- who sees an allocator sees its inner one and its tally
    pub fields-seen : ent 𝓤 (sem 𝓛 (hidden_shr (refusing.the_row (param 0 Z.row)) κ h p.0 p.1))
        (sep 𝓤 (sem 𝓛 (seen Z κ (inner_at p) h.inner)) (sem 𝓛 (hidden_shr Counted κ h.tally (tally_at p).0 (tally_at p).1)))
    fields-seen =
        qed 𝓛 (‵ (hidden_shr (refusing.the_row (param 0 Z.row)) κ h p.0 p.1) ∷ []) ∵ unhide ! $ fsplit ! $ fsplit ! $ use1 𝓛 (‵ (seen Z κ (inner_at p) h.inner)) (id⊢ 𝓤 _) $ move ! (1 ∷ []) $ fsplit ! $ move ! (2 ∷ 0 ∷ []) $ join ! $ keep ! (0 ∷ []) $ done !
