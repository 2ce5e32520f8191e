-- `empty` makes a chain that owns nothing.
use Rattle.mem_blocks.proofs.Walks.{◌≡◌, [], ◌∷◌, refl, a_type, dcons, dnil, named, Val, vptr, inst_fn, SProp, ‵, raw, ◌⊛◌, ◌$◌, ◌∵◌, !, qed, by, keep, split, no_more, and_then, returns, enter, alloc_all, pass_all, free_all, look_at, get, sets, env, agg}
use Rattle.mem_blocks.proofs.Walks.{tables, yes, RattleType, owns, types_at, plain, nothing, param, bounded, RefOf, shr_vals, shr_Tells, Tuple, alive, Stays, stay_dropped, walk_of, Goes-dropped, proved, leaves, blank_val, tells, blank, spends}
use Rattle.mem_blocks.specs.contracts.chain.Chain as chain
use Rattle.mem_blocks.specs.contracts.chain.Chain.empty.{ended, clauses, Key.name as #self}
use Rattle.mem_blocks.proofs.chain.Chain.empty.Statement.{statement}
use Rattle.mem_blocks.proofs.chain.Chain.empty.Code as code

pub empty_spec : {M : Type 1} → statement M
empty_spec 𝓤 𝓛 𝓜 𝓡 wired S A L _ ga da dd _ _ =
    let H = 𝓛.H in let 𝓣 = tables 𝓤 H 𝓜 𝓡 𝓡.env in let R : RattleType = param 0 S in let Z : RattleType = param 1 A in let Chain : RattleType = chain.the_row R Z ga in let goal = ended S A ga da dd in let c = clauses S A ga da dd 𝓛 𝓜.mem 𝓡.returns in
    let at_types = bounded (a_type ∷ a_type ∷ []) (S, (A, tt)) (dcons da (dcons dd dnil)) in let mir = inst_fn at_types code.function in
    let kept_of : Stays goal.signature.params goal.kept = (stay_dropped (RefOf (0 ∷ []) tt (plain (λ _. Z)) (λ _. tt)) yes, tt) in
    proved 𝓛 goal kept_of c 𝓜 𝓡 (Goes-dropped 𝓛 3 (RefOf (0 ∷ []) tt (plain (λ _. Z)) (λ _. tt)) yes (λ κs x f. refl), tt) (#self at_types) mir
    (code.unfolded 𝓤 H 𝓜 𝓡 wired (S, (A, tt)) da dd) (λ κs. (shr_vals, tt))
    (λ κs. (shr_Tells (named 0) κs.0 Z, tt)) (λ κs qs bounds a ghost are.
    let y : (walk_of 𝓛 goal kept_of c).Ghost = ((κs, qs, bounds, a, (vptr a.0.ref_ptr.0 a.0.ref_ptr.1 ∷ [], tt)), ghost) in let Post : Val → SProp 𝓤 = (walk_of 𝓛 goal kept_of c).post y in
    let heap : A.Denot = a.0.now in let r : Chain.Denot = record { marker = record {}; heap = heap; blocks = [] } in let Ensured : Type 0 = (heap ≡ heap) × (r.blocks ≡ []) in
    qed 𝓛 ((raw (alive 𝓛 goal.signature κs qs) ⊛ ‵ (owns (types_at goal.signature.params κs) a y.0.4)) ∷ raw ((c κs a).requires ghost) ∷ []) ∵ split ! $ keep ! (0 ∷ []) $
    enter ! 𝓣.C 𝓣.Λ mir (vptr a.0.ref_ptr.0 a.0.ref_ptr.1 ∷ []) Post $ alloc_all ! (λ l. pass_all ! refl ((tt, tt), tt) $ let locals = env mir.locals l in sets ! (agg ! (no_more !)) refl (tt, tt) $ sets ! (agg ! (and_then ! (get ! refl) (no_more !))) refl (tt, (tt, tt)) $
    tells ! Ensured (refl, refl) $ nothing ! $ blank ! (Tuple (R ∷ Z ∷ [])) $ spends ! 1 $
    returns ! (look_at ! 0 refl) $ free_all ! refl $ keep ! (3 ∷ 0 ∷ 1 ∷ 2 ∷ []) $ by ! (leaves 𝓛 goal kept_of c y blank_val r (tt, tt) (tt, tt))))
