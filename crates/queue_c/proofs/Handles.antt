-- The machine values of a handle that C keeps. Assumes `Logic`.
use Rattle.std.proofs.Common.{◌≡◌, ℕ, List, [], ◌∷◌, ◌++◌, refl, subst, lit<}
use seplogic.Ra.Ura.{Ura}
use mir.{Syntax.impl, Syntax.tnil, Syntax.dnil, Raw.raw as bare, Val.Val, Val.vstruct, Val.of_list, Val.has_ty, Val.WT}
use mathlib.Core.Bool.{true, ◌&&◌}
use lib.Dec.{T}
use base.{Fraction.full_share, Fml.ftrue, Logic.ent, Logic.guard, Logic.guard_i, Logic.via, Logic.snd∗}
use types.Logic.{Logic, sem}
use types.Kit.{Item, Goal, Seq, Step, step, ‵, given, ◌$◌, move, drop, fsplit, fjoin, fpick, fpack, feq_i, feq_l, use1, learn}
use contract.Monad.{fact_use}
use denote.{RattleType.RattleType, RattleType.Valss, Builtin.RawPtr, Memory.lone, Steps.nothing, Param.layout, Param.Laws.Laws, Struct.Struct.within, Struct.Owning.shape}
use denote.RawPtr.{Ptr, block_ptr, null_ptr, ptr_val, Testable, lies_at}
use Rattle.core.proofs.{alloc.Calls.Al, alloc.Calls.handle_tells, cell.Inside.Good}
use Rattle.std.specs.{declared.option.Option.TheVariants.None, declared.option.Option.TheVariants.Some, contracts.impls.GlobalAllocator.TheImpl.ghosts, contracts.option.Option.the_row as option_row}
use Rattle.std.specs.contracts.alloc.Global as heap
use Rattle.std.proofs.alloc.Global.TheLaws as heap_laws
use Rattle.std.proofs.GlobalToken.{dealloc_token-Testable}
use Rattle.std_alloc.proofs.ResultValues.{and_tt}
use Rattle.queue_c.specs.contracts.handle.Handle as handle
use Rattle.queue_c.specs.contracts.end.End as end
use Rattle.queue_c.{specs.Held.boxed, specs.Held.held, proofs.Values.both}

abbrev pub Z : RattleType
Z = heap.the_row

abbrev pub LZ : Laws Z
LZ = heap_laws.the_row_laws

abbrev pub E : RattleType
E = option_row end.the_row

abbrev pub Hd : RattleType
Hd = handle.the_row

pub null_good : (h : Val) → Good (layout Z) h → T (has_ty (layout Z) h && true) × WT (both (ptr_val null_ptr) h)
null_good h fits = (and_tt (has_ty (layout Z) h) fits.0, (record { fits = lit< tt }, (fits.1, tt)))

abbrev pub al : Al
al = record { row = Z; laws = LZ; g = ghosts; d = impl [] tnil dnil; drops = impl [] tnil dnil }

module _ {M : Type 1} {𝓤 : Ura M} (𝓛 : Logic 𝓤) where
  tested : (a : Z.Denot) (p : Ptr) (x : E.Denot) → ent 𝓤 (sem 𝓛 (boxed E a p x)) (guard 𝓤 (Testable p) (sem 𝓛 (boxed E a p x)))
  tested a p x = fact_use 𝓤 (Testable p) (via 𝓤 _ (snd∗ 𝓤 (sem 𝓛 (lies_at E full_share p x)) (sem 𝓛 (ghosts.dealloc_token a (bare (lone E.mir)) p))) (dealloc_token-Testable 𝓛 a (bare (lone E.mir)) p)) (guard_i 𝓤 (Testable p) (sem 𝓛 (boxed E a p x)))

module _ {M : Type 1} {𝓤 : Ura M} {𝓛 : Logic 𝓤} {K : Type 0} {Γ : List (Item 𝓤)} {G : Goal 𝓤 𝓛.H} where
  pub handle_out : K → (d : Hd.Denot) (vs : List Val)
      → ((h : Val) → vs ≡ both (ptr_val d.at) h ∷ [] → Good (layout Z) h → Seq K 𝓛 (‵ (held end.the_row d.alloc d.at d.end) ∷ ‵ (Z.own_val d.alloc (h ∷ [])) ∷ Γ) G)
      → Seq K 𝓛 (‵ (Hd.own_val d vs) ∷ Γ) G
  handle_out t d vs k =
      fsplit t $ fpick t (λ vss. fsplit t $ feq_l t (λ ev. fsplit t $ feq_l t (λ ep. fsplit t $ handle_tells al t d.alloc vss.1.0 (λ h ea fits. move t (1 ∷ []) $ drop t $ move t (1 ∷ []) $
      k h (subst (λ (ws : List Val). vs ≡ vstruct (of_list (ptr_val d.at ∷ (ws ++ []))) ∷ []) ea (subst (λ (ps : List Val). vs ≡ vstruct (of_list (ps ++ (vss.1.0 ++ []))) ∷ []) ep ev)) fits))))

  pub handle_in : K → (p : Ptr) (h : Val) (a : Z.Denot) (x : E.Denot)
      → Step K 𝓛 (‵ (Hd.own_val (record { at = p; alloc = a; end = x }) (both (ptr_val p) h ∷ [])) ∷ Γ) G (‵ (held end.the_row a p x) ∷ ‵ (Z.own_val a (h ∷ [])) ∷ Γ) G
  handle_in t p h a x = step (λ s. let v : Val = both (ptr_val p) h in
      nothing t $ move t (2 ∷ 0 ∷ []) $ fjoin t $ feq_i t (List Val) (ptr_val p ∷ []) (ptr_val p ∷ []) refl $ fjoin t $ feq_i t (List Val) (v ∷ []) (v ∷ []) refl $ fjoin t $
      fpack t (Valss (RawPtr ∷ Z ∷ [])) (within (shape handle.the_type) (p, (((tt, tt), tt), tt)) (v ∷ [])) (ptr_val p ∷ [], (h ∷ [], tt)) $ fjoin t $ s)

  -- a box may be held, since its place can be compared with null
  pub held_in : K → (b o : ℕ) (a : Z.Denot) (x : E.Denot) → Step K 𝓛 (‵ (held end.the_row a (block_ptr b o) x) ∷ Γ) G (‵ (boxed E a (block_ptr b o) x) ∷ Γ) G
  held_in t b o a x = step (λ s. let p : Ptr = block_ptr b o in use1 𝓛 (given (Testable p) (‵ (boxed E a p x))) (tested 𝓛 a p x) $ learn t (λ low. nothing t $ fpack t (Testable p) (λ _. ftrue) low $ fjoin t $ s))

  -- by the pointer: there is nothing, or a box, whose address can be compared with null
  pub either_held : K → (p : Ptr) (a : Z.Denot) (x : E.Denot) → (p ≡ null_ptr → x ≡ None → Seq K 𝓛 Γ G)
      → ((b o : ℕ) → p ≡ block_ptr b o → Testable (block_ptr b o) → Seq K 𝓛 (‵ (boxed E a (block_ptr b o) x) ∷ Γ) G) → Seq K 𝓛 (‵ (held end.the_row a p x) ∷ Γ) G
  either_held t null_ptr a None none one = drop t $ none refl refl
  either_held t null_ptr a (Some y) none one = fpick t (λ wrong. absurd wrong)
  either_held t (block_ptr b o) a x none one = fsplit t $ fpick t (λ low. drop t $ one b o refl low)
