-- The machine value of an operation.
use Rattle.std.proofs.Common.{◌≡◌, ℕ, List, [], ◌∷◌, refl, ap, ◌∙◌, lit<}
use lib.Dec.{T}
use mir.Val.{Val, of_list, has_ty, WT}
use denote.{Laws.Is, Memory.lone, Shadow.makes_shadow}
use seplogic.Ra.Ura.{Ura}
use base.Logic.{ent, emp}
use types.{Logic.Logic, Logic.sem, Match.live}
use Rattle.mem_blocks.specs.{Words.answered, Words.IsAnswered, declared.operation.Operation.Operation, declared.operation.Operation.Operation as does}
use Rattle.mem_blocks.specs.contracts.operation.Operation as operation

-- the number of its variant
abbrev pub tag_of : Operation → ℕ
tag_of does.Load = 0
tag_of does.Store = 1
tag_of does.Add = 2
tag_of does.Subtract = 3
tag_of does.Or = 4
tag_of does.Exchange = 5

abbrev pub operation_val : Operation → Val
operation_val op = live (tag_of op) (of_list [])

pub operation_values : (x : Operation) (vs : List Val) → Is operation.the_row x vs → vs ≡ operation_val x ∷ []
operation_values does.Load vs is = is.1.0 ∙ ap (λ (us : List Val). live 0 (of_list us) ∷ []) is.1.1.1.0
operation_values does.Store vs is = is.1.0 ∙ ap (λ (us : List Val). live 1 (of_list us) ∷ []) is.1.1.1.0
operation_values does.Add vs is = is.1.0 ∙ ap (λ (us : List Val). live 2 (of_list us) ∷ []) is.1.1.1.0
operation_values does.Subtract vs is = is.1.0 ∙ ap (λ (us : List Val). live 3 (of_list us) ∷ []) is.1.1.1.0
operation_values does.Or vs is = is.1.0 ∙ ap (λ (us : List Val). live 4 (of_list us) ∷ []) is.1.1.1.0
operation_values does.Exchange vs is = is.1.0 ∙ ap (λ (us : List Val). live 5 (of_list us) ∷ []) is.1.1.1.0

pub operation_good : (op : Operation) → T (has_ty (lone operation.the_row.mir) (operation_val op)) × WT (operation_val op)
operation_good does.Load = (tt, (record { fits = lit< tt }, tt))
operation_good does.Store = (tt, (record { fits = lit< tt }, tt))
operation_good does.Add = (tt, (record { fits = lit< tt }, tt))
operation_good does.Subtract = (tt, (record { fits = lit< tt }, tt))
operation_good does.Or = (tt, (record { fits = lit< tt }, tt))
operation_good does.Exchange = (tt, (record { fits = lit< tt }, tt))

pub is_answered : (op : Operation) (a n : ℕ) → IsAnswered op a (answered op a n)
is_answered does.Load a n = tt
is_answered does.Store a n = refl
is_answered does.Add a n = tt
is_answered does.Subtract a n = tt
is_answered does.Or a n = tt
is_answered does.Exchange a n = tt

module _ {M : Type 1} {𝓤 : Ura M} (𝓛 : Logic 𝓤) where
  abbrev NeedsNothing : Operation → Type 1
  NeedsNothing op = ent 𝓤 (emp 𝓤) (sem 𝓛 (operation.the_row.own_val op (operation_val op ∷ [])))

  pub operation_made : (op : Operation) → NeedsNothing op
  operation_made does.Load = makes_shadow 𝓛 (operation.the_row.own_val does.Load (operation_val does.Load ∷ [])) (λ us. (tt, (λ vss. (tt, tt)))) ([], (refl, (tt, (refl, tt))))
  operation_made does.Store = makes_shadow 𝓛 (operation.the_row.own_val does.Store (operation_val does.Store ∷ [])) (λ us. (tt, (λ vss. (tt, tt)))) ([], (refl, (tt, (refl, tt))))
  operation_made does.Add = makes_shadow 𝓛 (operation.the_row.own_val does.Add (operation_val does.Add ∷ [])) (λ us. (tt, (λ vss. (tt, tt)))) ([], (refl, (tt, (refl, tt))))
  operation_made does.Subtract = makes_shadow 𝓛 (operation.the_row.own_val does.Subtract (operation_val does.Subtract ∷ [])) (λ us. (tt, (λ vss. (tt, tt)))) ([], (refl, (tt, (refl, tt))))
  operation_made does.Or = makes_shadow 𝓛 (operation.the_row.own_val does.Or (operation_val does.Or ∷ [])) (λ us. (tt, (λ vss. (tt, tt)))) ([], (refl, (tt, (refl, tt))))
  operation_made does.Exchange = makes_shadow 𝓛 (operation.the_row.own_val does.Exchange (operation_val does.Exchange ∷ [])) (λ us. (tt, (λ vss. (tt, tt)))) ([], (refl, (tt, (refl, tt))))
