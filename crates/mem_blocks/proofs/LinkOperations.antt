-- The machine value of an operation on a link, and what its step asks. Assumes `Logic`.
use Rattle.std.proofs.Common.{◌≡◌, ℕ, zero, suc, List, [], ◌∷◌, refl, ap, ◌∙◌, lit<}
use Rattle.std.specs.Sync.RawAtomic.Pointer.{asks_ptr, compares}
use lib.Dec.{T}
use seplogic.Ra.Ura.{Ura}
use mir.Val.{Val, of_list, has_ty, WT}
use base.{Logic.SProp, Fml.Fml}
use types.{Logic.Logic, Match.live}
use denote.{Laws.Is, Memory.lone, RawPtr.Ptr, RawPtr.null_ptr}
use Rattle.mem_blocks.specs.declared.operation.LinkOperation.{LinkOperation, LinkOperation as does}
use Rattle.mem_blocks.specs.contracts.operation.LinkOperation as operation

-- the number of its variant
abbrev pub link_tag : LinkOperation → ℕ
link_tag does.Load = 0
link_tag does.Store = 1
link_tag does.Install = 2

pub no_fourth : (op : LinkOperation) → ¬ (link_tag op ≡ 0) → ¬ (link_tag op ≡ 1) → ¬ (link_tag op ≡ 2) → ⊥
no_fourth does.Load n₀ n₁ n₂ = n₀ refl
no_fourth does.Store n₀ n₁ n₂ = n₁ refl
no_fourth does.Install n₀ n₁ n₂ = n₂ refl

abbrev pub link_operation_val : LinkOperation → Val
link_operation_val op = live (link_tag op) (of_list [])

pub link_operation_values : (op : LinkOperation) (vs : List Val) → Is operation.the_row op vs → vs ≡ link_operation_val op ∷ []
link_operation_values does.Load vs is = is.1.0 ∙ ap (λ (us : List Val). live 0 (of_list us) ∷ []) is.1.1.1.0
link_operation_values does.Store vs is = is.1.0 ∙ ap (λ (us : List Val). live 1 (of_list us) ∷ []) is.1.1.1.0
link_operation_values does.Install vs is = is.1.0 ∙ ap (λ (us : List Val). live 2 (of_list us) ∷ []) is.1.1.1.0

pub link_operation_good : (op : LinkOperation) → T (has_ty (lone operation.the_row.mir) (link_operation_val op)) × WT (link_operation_val op)
link_operation_good does.Load = (tt, (record { fits = lit< tt }, tt))
link_operation_good does.Store = (tt, (record { fits = lit< tt }, tt))
link_operation_good does.Install = (tt, (record { fits = lit< tt }, tt))

module _ {M : Type 1} {𝓤 : Ura M} (𝓛 : Logic 𝓤) (at new : Ptr) (out : Ptr → Fml) where
  -- what the step of the variant k asks at the link at `at`
  abbrev pub asks_link : ℕ → SProp 𝓤
  asks_link zero = asks_ptr 𝓛 at (λ q. q) out
  asks_link (suc zero) = asks_ptr 𝓛 at (λ _. new) (λ _. out new)
  asks_link (suc (suc k)) = compares 𝓛 at null_ptr new out out
