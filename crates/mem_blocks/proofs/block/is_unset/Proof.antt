-- `is_unset` compares the place with null.
use Rattle.mem_blocks.proofs.Walks.{block_ptr, sym, true≢false, ◌≡◌, Bool, true, false, List, [], ◌∷◌, refl, a_type, ty_ptr, Val, vbool, vnull, ptr_same, inst_fn, SProp, ‵, raw, ◌⊛◌, ◌$◌, ◌∵◌, !, qed, by, move, keep, split, join}
use Rattle.mem_blocks.proofs.Walks.{feq_i, stop, fld, lit, bin, returns, enter, alloc_all, pass_all, free_all, look_at, get_in, sets, sub, all_of_it, tables, fact, no, RattleType, owns, types_at, plain, Ptr, null_ptr, ptr_val}
use Rattle.mem_blocks.proofs.Walks.{InBlock, Testable, tests_null, heard, param, layouts, alive, Stays, stay_dropped, walk_of, Goes-dropped, Good-round, proved, leaves, ptr_good, place_val, place_values, tells, spends}
use Rattle.mem_blocks.specs.contracts.block.BlockPtr as link
use Rattle.mem_blocks.specs.contracts.block.is_unset.{ended, clauses, Key.name as #self}
use Rattle.mem_blocks.proofs.block.is_unset.Statement.{statement}
use Rattle.mem_blocks.proofs.block.is_unset.Code as code

tells_null : (p : Ptr) → ptr_same (ptr_val p) vnull ≡ true → p ≡ null_ptr
tells_null (block_ptr b o) e = absurd (true≢false (sym e))
tells_null null_ptr e = refl

tells_set : (p : Ptr) → ptr_same (ptr_val p) vnull ≡ false → InBlock p
tells_set (block_ptr b o) e = tt
tells_set null_ptr e = absurd (true≢false e)

pub is_unset_spec : {M : Type 1} → statement M
is_unset_spec 𝓤 𝓛 𝓜 𝓡 wired S L =
    let H = 𝓛.H in let 𝓣 = tables 𝓤 H 𝓜 𝓡 𝓡.env in let R : RattleType = param 0 S in let BlockPtr : RattleType = link.the_row R in
    let goal = ended S in let c = clauses S 𝓛 𝓜.mem 𝓡.returns in let at_types = layouts (a_type ∷ []) (S, tt) in let mir = inst_fn at_types code.function in let kept_of : Stays goal.signature.params goal.kept = (stay_dropped (plain (λ _. BlockPtr)) no, tt) in
    proved 𝓛 goal kept_of c 𝓜 𝓡 (Goes-dropped 𝓛 1 (plain (λ _. BlockPtr)) no (λ κs x f. refl), tt) (#self at_types) mir (code.unfolded 𝓤 H 𝓜 𝓡 wired (S, tt))
    (λ κs. ((λ x. place_val x.ptr ∷ []), tt)) (λ κs. (place_values R, tt)) (λ κs qs bounds a ghost are.
    let p : Ptr = a.0.ptr in let y : (walk_of 𝓛 goal kept_of c).Ghost = ((κs, qs, bounds, a, (place_val p ∷ [], tt)), ghost) in let Post : Val → SProp 𝓤 = (walk_of 𝓛 goal kept_of c).post y in
    qed 𝓛 ((raw (alive 𝓛 goal.signature κs qs) ⊛ ‵ (owns (types_at goal.signature.params κs) a y.0.4)) ∷ raw (fact 𝓤 _) ∷ raw (fact 𝓤 (Testable p)) ∷ []) ∵ move ! (2 ∷ 0 ∷ []) $ keep ! (0 ∷ 1 ∷ []) $ heard ! (Testable p) (λ low. split ! $ keep ! (0 ∷ []) $
    enter ! 𝓣.C 𝓣.Λ mir (place_val p ∷ []) Post $ alloc_all ! (λ l. pass_all ! refl (Good-round [] ty_ptr _ (ptr_good p), tt) $
    let r : Bool = ptr_same (ptr_val p) vnull in let Null : Type 0 = r ≡ true → p ≡ null_ptr in let Set : Type 0 = r ≡ false → InBlock p in
    sets ! (bin ! (get_in ! (fld ! refl (stop !)) (sub ! 0 refl (all_of_it !))) (lit ! tt) (tests_null p low)) refl (tt, tt) $
    tells ! Set (tells_set p) $ tells ! Null (tells_null p) $ join ! $ feq_i ! (List Val) (vbool r ∷ []) (vbool r ∷ []) refl $ spends ! 1 $
    returns ! (look_at ! 0 refl) $ free_all ! refl $ keep ! (3 ∷ 0 ∷ 1 ∷ 2 ∷ []) $ by ! (leaves 𝓛 goal kept_of c y (vbool r) r (tt, tt) (tt, tt)))))
