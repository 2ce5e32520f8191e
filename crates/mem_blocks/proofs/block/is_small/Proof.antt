-- `is_small` compares a size.
use Rattle.mem_blocks.proofs.Walks.{◌≡◌, ℕ, ◌^◌, ◌<◌, Bool, true, List, [], ◌∷◌, refl, arith, lit<, w64, ltb, a_type, Val, vint, vbool, inst_fn, SProp, via, guard_i, ftrue, size, capped, capped_small, capped_is, ‵, raw, ◌⊛◌, ◌$◌, ◌∵◌, !, qed, by, keep}
use Rattle.mem_blocks.proofs.Walks.{split, feq_i, size_word, bin, returns, enter, alloc_all, pass_all, free_all, look_at, sets, tables, RattleType, nothing, param, layout, layouts, alive, walk_of, proved, leaves, Small, tells}
use Rattle.std.proofs.Common.{ltb-true}
use Rattle.mem_blocks.specs.contracts.block.is_small.{ended, clauses, Key.name as #self}
use Rattle.mem_blocks.proofs.block.is_small.Statement.{statement}
use Rattle.mem_blocks.proofs.block.is_small.Code as code

pub is_small_spec : {M : Type 1} → statement M
is_small_spec 𝓤 𝓛 𝓜 𝓡 wired S L =
    let H = 𝓛.H in let 𝓣 = tables 𝓤 H 𝓜 𝓡 𝓡.env in let R : RattleType = param 0 S in let goal = ended S in let c = clauses S 𝓛 𝓜.mem 𝓡.returns in let at_types = layouts (a_type ∷ []) (S, tt) in let mir = inst_fn at_types code.function in
    proved 𝓛 goal tt c 𝓜 𝓡 tt (#self at_types) mir (code.unfolded 𝓤 H 𝓜 𝓡 wired (S, tt)) (λ κs. tt) (λ κs. tt) (λ κs qs bounds a ghost are.
    let y : (walk_of 𝓛 goal tt c).Ghost = ((κs, qs, bounds, a, tt), ghost) in let Post : Val → SProp 𝓤 = (walk_of 𝓛 goal tt c).post y in
    qed 𝓛 ((raw (alive 𝓛 goal.signature κs qs) ⊛ ‵ ftrue) ∷ raw ((c κs a).requires ghost) ∷ []) ∵ split ! $ keep ! (0 ∷ []) $ enter ! 𝓣.C 𝓣.Λ mir [] Post $ alloc_all ! (λ l. pass_all ! refl tt $
    let n : ℕ = size (layout S) in let r : Bool = ltb (capped n) 2147483648 in let Ensured : Type 0 = r ≡ true → Small R in sets ! (bin ! (size_word !) (record { go = λ Kt h. via 𝓤 _ h (guard_i 𝓤 _ (Kt (vint w64 2147483648)) (record { fits = lit< tt })) }) tt) refl (tt, tt) $
    tells ! Ensured (λ e. let low : capped n < 2147483648 = ltb-true _ _ e in let fits : n < 2 ^ 63 = capped_small n (omega arith) in let same : capped n ≡ n = capped_is n (omega arith) in omega arith) $ feq_i ! (List Val) (vbool r ∷ []) (vbool r ∷ []) refl $ nothing ! $
    returns ! (look_at ! 0 refl) $ free_all ! refl $ keep ! (3 ∷ 0 ∷ 1 ∷ 2 ∷ []) $ by ! (leaves 𝓛 goal tt c y (vbool r) r tt tt)))
