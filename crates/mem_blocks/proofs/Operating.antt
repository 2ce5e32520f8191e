-- A call of `operate` at `Brand`, whose outcome the caller's proof picks. Assumes `Logic`.
use Rattle.std.proofs.Common.{◌≡◌, ℕ, ◌^◌, ◌<◌, List, [], ◌∷◌, sym, refl, ap, w64}
use seplogic.Ra.Ura.{Ura}
use mir.{Syntax.dnil, Syntax.tnil, Syntax.ty_struct, Syntax.impl, Val.Val, Val.vint}
use base.{Fraction.full_share, Fml.Fml, Fml.ftrue, Fml.fsep, Fml.flft}
use base.Logic.{SProp, ent, sep, emp, via, fst∗, emp∗, comm∗}
use prog.{Model.Model, Wired.Wired}
use types.Logic.{Logic}
use types.Kit.{mean, ‵, raw, ◌⊛◌, some, given, later, ◌$◌, ◌∵◌, !, qed, drop, split, join, fsplit, fjoin, feq_i, feq_l, flt_i, flt_l, pick, show, check, use0, updating, await, now, done}
use contract.{Monad.fact, Monad.fact_i, Running.Running, Running.tables}
use contract.BorrowLft.{◌⊑◌, ⊑_static}
use denote.{RattleType.RattleType, Builtin.u64, Exit.no, Triple.Spec.triple_of, Steps.nothing, Steps.only, Param.arg, Param.Laws.arg_laws, RawPtr.Ptr, RawPtr.ptr_val}
use Rattle.std.{specs.Sync.RawAtomic.asks, specs.Sync.RawAtomic.always, proofs.marker.Brand.TheLaws.the_row_laws}
use Rattle.std.specs.declared.sync.atomic.raw.Outcome as Outcome
use Rattle.std.specs.contracts.marker.Brand as Brand
use Rattle.atomic_table.proofs.Calls.{fm, picked, found}
use Rattle.mem_blocks.{specs.Words.becomes, specs.Words.answered, specs.declared.operation.Operation.Operation, proofs.Operations.operation_val, proofs.Operations.operation_made}
use Rattle.mem_blocks.specs.contracts.operation.Operation as operation
use Rattle.mem_blocks.specs.contracts.word.operate as operate
use Rattle.mem_blocks.proofs.word.operate.Symbol as symbol
use Rattle.mem_blocks.proofs.word.operate.Met as operate_met

abbrev brand : RattleType
brand = arg (ty_struct [] tnil) no Brand.the_row

module _ {M : Type 1} {𝓤 : Ura M} (𝓛 : Logic 𝓤) (𝓜 : Model 𝓤 𝓛.H) (𝓡 : Running 𝓤 𝓛.H 𝓜) where
  open 𝓛 use {H, A}

  pub operates : Wired 𝓡.env symbol.code → (op : Operation) (p : Ptr) (x z : ℕ) → x < 2 ^ 64 → z < 2 ^ 64 → (after : ℕ → Fml)
      → ent 𝓤 (asks 𝓛 p (becomes op x z) always (λ n. after (answered op x n)))
      ((tables 𝓤 H 𝓜 𝓡 𝓡.env).C (symbol.name picked) (ptr_val p ∷ operation_val op ∷ vint w64 x ∷ vint w64 z ∷ []) (λ v. mean 𝓛 (found after v)))
  operates wired op p x z fits_x fits_z after = let g : Outcome.Ghosts brand.Denot = record { after = after } in let d = impl [] tnil dnil in let asked : SProp 𝓤 = asks 𝓛 p (becomes op x z) always (λ n. after (answered op x n)) in
      let vs : List Val = ptr_val p ∷ operation_val op ∷ vint w64 x ∷ vint w64 z ∷ [] in let c = triple_of 𝓛 (operate.ended brand g d).signature (operate.spec brand g d 𝓛 𝓜.mem 𝓡.returns) in
      let y : c.Ghost = ((([], tt), (full_share, tt), tt, (p, (op, (x, (z, tt)))), (ptr_val p ∷ [], (operation_val op ∷ [], (vint w64 x ∷ [], (vint w64 z ∷ [], tt))))), tt) in
      let end : Val → SProp 𝓤 = λ v. mean 𝓛 (found after v) in let C = (tables 𝓤 H 𝓜 𝓡 𝓡.env).C (symbol.name picked) vs in
      via 𝓤 (sep 𝓤 (C (c.post y)) (emp 𝓤)) (via 𝓤 (C (c.post y)) (via 𝓤 (c.pre y)
      (qed 𝓛 (raw asked ∷ []) ∵ use0 𝓛 (raw (fact 𝓤 ([] ⊑ []))) (fact_i 𝓤 ([] ⊑ []) (emp 𝓤) (⊑_static [])) $ join ! $
      nothing ! $ flt_i ! z (2 ^ 64) fits_z $ feq_i ! (List Val) (vint w64 z ∷ []) (vint w64 z ∷ []) refl $ fjoin ! $ fjoin ! $ flt_i ! x (2 ^ 64) fits_x $ feq_i ! (List Val) (vint w64 x ∷ []) (vint w64 x ∷ []) refl $ fjoin ! $ fjoin ! $
      use0 𝓛 (‵ (operation.the_row.own_val op (operation_val op ∷ []))) (operation_made 𝓛 op) $ fjoin ! $ feq_i ! (List Val) (ptr_val p ∷ []) (ptr_val p ∷ []) refl $ fjoin ! $
      nothing ! $ use0 𝓛 (‵ (flft [] full_share)) (𝓛.lfts.lft-nil full_share) $ join ! $ join ! $ done !)
      (operate_met.met 𝓤 𝓛 𝓜 𝓡 wired brand (arg_laws (ty_struct [] tnil) no Brand.the_row the_row_laws refl) g d record {} y)) (via 𝓤 _ (emp∗ 𝓤 (C (c.post y))) (comm∗ 𝓤 (emp 𝓤) (C (c.post y)))))
      (fm 𝓛 𝓜 𝓡 (symbol.name picked) vs (c.post y) end (emp 𝓤) (λ v. via 𝓤 (c.post y v) (fst∗ 𝓤 (c.post y v) (emp 𝓤))
      (qed 𝓛 (later (some (λ (n : ℕ). ((‵ (flft [] full_share) ⊛ ‵ ftrue) ⊛ ‵ (u64.own_val n (v ∷ []))) ⊛ some (λ (w : Unit {0} × (Unit {0} × (Unit {0} × (Unit {0} × Unit {0})))). ‵ (fsep ftrue (fsep ftrue (fsep ftrue (fsep ftrue ftrue)))) ⊛ ‵ (after n)))) ∷ []) ∵
      updating ! $ await ! tt $ pick ! (λ n. split ! $ split ! $ drop ! $ fsplit ! $ feq_l ! (λ e. flt_l ! (λ fits. pick ! (λ w. split ! $ drop ! $ now ! $
      show ! (λ (m : ℕ). mean 𝓛 (given ((vint w64 m ≡ v) × (m < 2 ^ 64)) (‵ (after m)))) n $ check ! (sym (ap only e), fits) $ done !)))))))
