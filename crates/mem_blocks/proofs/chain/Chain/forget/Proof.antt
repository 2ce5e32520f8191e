-- `forget` takes the blocks that begin the list off it.
use Rattle.mem_blocks.proofs.Walks.{◌≡◌, ℕ, List, [], ◌∷◌, refl, Ty, a_type, dcons, dnil, named, Val, vunit, vptr, inst_fn, SProp, Fml, ftrue, fsep, flft, ‵, raw, ◌⊛◌, ◌$◌, ◌∵◌, !, qed, by, keep, use1, feq_i, unit_lit, of_opd, returns, enter, alloc_all, pass_all, free_all}
use Rattle.mem_blocks.proofs.Walks.{look_at, sets, env, tables, fact, RattleType, owns, types_at, plain, Ptr, heard, param, bounded, mut_vals, mut_Tells, Stays, stay_ref, walk_of, Goes-ref, proved, leaves, Block, chain_owns, tells, takes_ref, opens_ref, shuts_ref}
use Rattle.std.specs.Prelude.{take, drop}
use Rattle.mem_blocks.{specs.Web.AllGone, proofs.chain.Chain.forget.Statement.statement}
use Rattle.mem_blocks.specs.contracts.chain.Chain as chain
use Rattle.mem_blocks.proofs.Blocks as blocks
use Rattle.mem_blocks.specs.contracts.chain.Chain.forget.{ended, clauses, Key.name as #self}
use Rattle.mem_blocks.proofs.chain.Chain.forget.Code as code

pub forget_spec : {M : Type 1} → statement M
forget_spec 𝓤 𝓛 𝓜 𝓡 wired S A _ _ ga da dd _ _ =
    let H = 𝓛.H in let 𝓣 = tables 𝓤 H 𝓜 𝓡 𝓡.env in let R : RattleType = param 0 S in let Z : RattleType = param 1 A in let Chain : RattleType = chain.the_row R Z ga in
    let goal = ended S A ga da dd in let c = clauses S A ga da dd 𝓛 𝓜.mem 𝓡.returns in let at_types = bounded (a_type ∷ a_type ∷ []) (S, (A, tt)) (dcons da (dcons dd dnil)) in let mir = inst_fn at_types code.function in
    let kept_of : Stays goal.signature.params goal.kept = (stay_ref (0 ∷ []) tt (plain (λ _. Chain)), tt) in
    proved 𝓛 goal kept_of c 𝓜 𝓡 (Goes-ref 𝓛 3 0 tt (plain (λ _. Chain)), tt) (#self at_types) mir
    (code.unfolded 𝓤 H 𝓜 𝓡 wired (S, (A, tt)) da dd) (λ κs. (mut_vals, tt))
    (λ κs. (mut_Tells (named 0) κs.0 Chain, tt)) (λ κs qs bounds a n are.
    let y : (walk_of 𝓛 goal kept_of c).Ghost = ((κs, qs, bounds, a, (vptr a.0.ref_ptr.0 a.0.ref_ptr.1 ∷ [], tt)), n) in let Post : Val → SProp 𝓤 = (walk_of 𝓛 goal kept_of c).post y in
    let b' : ℕ = a.0.ref_ptr.0 in let o' : ℕ = a.0.ref_ptr.1 in let h : Chain.Denot = a.0.now in let bs : List (Block S.Denot) = h.blocks in let token : Ty → Ptr → Fml = ga.dealloc_token h.heap in
    let Asked : Type 0 = AllGone (take n bs) in let others : Fml = fsep (flft κs.1.0 qs.1.0) (fsep (flft κs.1.1.0 qs.1.1.0) (ftrue)) in let h' : Chain.Denot = record { marker = h.marker; heap = h.heap; blocks = drop n bs } in let Ensured : Type 0 = (h.heap ≡ h.heap) × (h'.blocks ≡ h'.blocks) in
    qed 𝓛 (((‵ (flft κs.0 qs.0) ⊛ ‵ others) ⊛ ‵ (owns (types_at goal.signature.params κs) a y.0.4)) ∷ raw (fact 𝓤 _) ∷ raw (fact 𝓤 _) ∷ raw (fact 𝓤 Asked) ∷ []) ∵
    keep ! (3 ∷ 0 ∷ []) $ heard ! Asked (λ asked. takes_ref ! $
    enter ! 𝓣.C 𝓣.Λ mir (vptr b' o' ∷ []) Post $ alloc_all ! (λ l. pass_all ! refl ((tt, tt), tt) $ let locals = env mir.locals l in
    opens_ref ! tt Chain h b' o' (λ ts. refl) (λ ts. use1 𝓛 (‵ (chain_owns R token (drop n bs))) (blocks.forgets 𝓛 R token n bs) $ shuts_ref ! tt Chain h' ts b' o' 0 refl refl $ sets ! (of_opd ! (unit_lit !)) refl (tt, tt) $
    tells ! Ensured (refl, refl) $ feq_i ! (List Val) (vunit ∷ []) (vunit ∷ []) refl $
    returns ! (look_at ! 0 refl) $ free_all ! refl $ keep ! (2 ∷ 3 ∷ 0 ∷ 1 ∷ []) $ by ! (leaves 𝓛 goal kept_of c y vunit tt (h', tt) (tt, tt))))))
