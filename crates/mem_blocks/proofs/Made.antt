-- The machine values of a link, of a struct without bytes and of a `Result`, and small words for walks. Assumes `Logic`.
use Rattle.std.proofs.Common.{◌≡◌, ℕ, zero, suc, ◌*◌, ◌^◌, ◌<◌, List, [], ◌∷◌, ◌++◌, sym, refl, ap, ◌∙◌, arith, lit<, suc-mul, zero-mul}
use Rattle.std.specs.declared.result.Result.TheVariants.{Ok, Err}
use Rattle.std.specs.contracts.result.Result as RS
use Rattle.std.specs.contracts.marker.PhantomData as phantom
use seplogic.Ra.Ura.{Ura}
use lib.Dec.{T}
use mir.Syntax.{Body, Arms, ty_ptr, seq, switch, skip, arm, default, no_default}
use mir.Val.{Val, vstruct, vcons, vnil, of_list, has_ty, WT}
use base.Logic.{ent, emp}
use prog.{Memory.capped, Capped.capped_is}
use types.Kit.{‵, ◌$◌, ◌∵◌, !, qed, move, fjoin, fpack, feq_i, done}
use types.{Logic.Logic, Logic.sem, Match.live}
use denote.RattleType.{RattleType, Valss, owns}
use denote.{Laws.Is, Builtin.u64, Shadow.makes_shadow, Steps.nothing, Param.Laws.Laws, Param.Laws.of_field, Param.Shared.copy_shared, Enum.Row.tagged_with, Enum.Declared.shape, Enum.Enum.form_of, Enum.Enum.in_a_row}
use denote.RawPtr.{Ptr, block_ptr, null_ptr, ptr_val}
use denote.Struct.{Field.u64-field, Struct.Struct, Laws.u64-laws, Laws.u64-copy}
use Rattle.mem_blocks.specs.contracts.block.BlockPtr as link

-- the statement at the head, what follows n statements, and the arm k of a switch
abbrev pub head : Body → Body
head (seq b more) = b
head b = b

abbrev rest : Body → Body
rest (seq b more) = more
rest _ = skip

abbrev pub after : ℕ → Body → Body
after zero b = b
after (suc n) b = after n (rest b)

abbrev arm_at : ℕ → Arms → Body
arm_at zero (arm ks b more) = b
arm_at (suc k) (arm ks b more) = arm_at k more
arm_at k (default b) = b
arm_at k no_default = skip

abbrev pub arm_body : ℕ → Body → Body
arm_body k (switch o arms) = arm_at k arms
arm_body k _ = skip

pub ptr_good : (p : Ptr) → T (has_ty ty_ptr (ptr_val p)) × WT (ptr_val p)
ptr_good (block_ptr b o) = (tt, tt)
ptr_good null_ptr = (tt, record { fits = lit< tt })

-- a struct whose one field has no bytes
abbrev pub blank_val : Val
blank_val = vstruct (vcons (vstruct vnil) vnil)

abbrev pub place_val : Ptr → Val
place_val p = vstruct (vcons (ptr_val p) vnil)

module _ (X : RattleType) where
  abbrev pub Blank : RattleType
  Blank = Struct record { name = []; args = []; types = []; fields = phantom.the_row X ∷ [] }

  pub blank_values : (vs : List Val) → Is Blank (record {}, tt) vs → vs ≡ blank_val ∷ []
  blank_values vs is = is.1.0 ∙ ap (λ (ws : List Val). vstruct (of_list (ws ++ [])) ∷ []) is.1.1.0.1.0

  pub blank_made : {M : Type 1} {𝓤 : Ura M} (𝓛 : Logic 𝓤) → ent 𝓤 (emp 𝓤) (sem 𝓛 (Blank.own_val (record {}, tt) (blank_val ∷ [])))
  blank_made 𝓛 = makes_shadow 𝓛 (Blank.own_val (record {}, tt) (blank_val ∷ [])) (λ vss. (tt, ((λ uss. (tt, tt)), tt))) ((vstruct vnil ∷ [], tt), (refl, ((tt, (refl, tt)), tt)))

  pub place_values : (x : (link.the_row X).Denot) (vs : List Val) → Is (link.the_row X) x vs → vs ≡ place_val x.ptr ∷ []
  place_values x vs is = is.1.0 ∙ ap (λ (ws : List Val). vstruct (of_list (ws ++ [])) ∷ []) is.1.1.0

  pub place_made : {M : Type 1} {𝓤 : Ura M} (𝓛 : Logic 𝓤) (p : Ptr) → ent 𝓤 (emp 𝓤) (sem 𝓛 ((link.the_row X).own_val (record { ptr = p }) (place_val p ∷ [])))
  place_made 𝓛 p = makes_shadow 𝓛 ((link.the_row X).own_val (record { ptr = p }) (place_val p ∷ [])) (λ vss. (tt, (tt, tt))) ((ptr_val p ∷ [], tt), (refl, (refl, tt)))

pub word_laws : Laws u64
word_laws = of_field u64-field u64-laws refl (copy_shared u64-field u64-copy)

-- a size below the end of the words is not cut off
pub full_product : (i k : ℕ) → (i * k < 2 ^ 64) → i * capped k ≡ i * k
full_product zero k small = let none = zero-mul (capped k) in let no_more = zero-mul k in none ∙ sym no_more
full_product (suc i) k small = let grows = suc-mul i k in let whole : capped k ≡ k = capped_is k (omega arith) in ap (λ (m : ℕ). suc i * m) whole

module _ {M : Type 1} {𝓤 : Ura M} (𝓛 : Logic 𝓤) (R R' : RattleType) where
  abbrev Res : RattleType
  Res = RS.the_row R R'

  pub ok_of : (x : R.Denot) (v : Val) → ent 𝓤 (sem 𝓛 (R.own_val x (v ∷ []))) (sem 𝓛 (Res.own_val (Ok x) (live 0 (of_list (v ∷ [])) ∷ [])))
  ok_of x v = let vs : List Val = v ∷ [] in let us : List Val = live 0 (of_list vs) ∷ [] in
      qed 𝓛 (‵ (R.own_val x vs) ∷ []) ∵ nothing ! $ move ! (1 ∷ 0 ∷ []) $ fjoin ! $ feq_i ! (List Val) vs vs refl $ fjoin ! $
      fpack ! (Valss (R ∷ [])) (in_a_row (R ∷ []) (owns (R ∷ []) (x, tt)) vs) (vs, tt) $ feq_i ! (List Val) us us refl $ fjoin ! $
      fpack ! (List Val) (tagged_with (form_of (shape (RS.the_type R R'))) (form_of (shape (RS.the_type R R'))).payload ((RS.the_type R R').to (Ok x)) us) vs $ done !

  pub err_of : (x : R'.Denot) (v : Val) → ent 𝓤 (sem 𝓛 (R'.own_val x (v ∷ []))) (sem 𝓛 (Res.own_val (Err x) (live 1 (of_list (v ∷ [])) ∷ [])))
  err_of x v = let vs : List Val = v ∷ [] in let us : List Val = live 1 (of_list vs) ∷ [] in
      qed 𝓛 (‵ (R'.own_val x vs) ∷ []) ∵ nothing ! $ move ! (1 ∷ 0 ∷ []) $ fjoin ! $ feq_i ! (List Val) vs vs refl $ fjoin ! $
      fpack ! (Valss (R' ∷ [])) (in_a_row (R' ∷ []) (owns (R' ∷ []) (x, tt)) vs) (vs, tt) $ feq_i ! (List Val) us us refl $ fjoin ! $
      fpack ! (List Val) (tagged_with (form_of (shape (RS.the_type R R'))) (form_of (shape (RS.the_type R R'))).payload ((RS.the_type R R').to (Err x)) us) vs $ done !
