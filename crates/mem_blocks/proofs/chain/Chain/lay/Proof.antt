-- `lay` puts a block at the end of the chain.
use Rattle.mem_blocks.proofs.Walks.{◌≡◌, ℕ, List, [], ◌∷◌, ◌++◌, refl, Ty, a_type, dcons, dnil, named, Val, vunit, vptr, inst_fn, SProp, Fml, ftrue, fsep, flft, ‵, raw, ◌⊛◌, ◌$◌, ◌∵◌, !, qed, by, move, keep, use2, split, fsplit, fsplit3}
use Rattle.mem_blocks.proofs.Walks.{rewrite, feq_i, unit_lit, of_opd, returns, enter, alloc_all, pass_all, free_all, look_at, sets, env, tables, fact, no, RattleType, owns, types_at, plain, Ptr, heard, param, bounded, mut_vals}
use Rattle.mem_blocks.proofs.Walks.{mut_Tells, Tuple, Stays, stay_dropped, stay_ref, walk_of, Goes-dropped, Goes-ref, proved, leaves, Block, alive_at, block_owns, chain_owns, blank_val, blank_values, tells, opens_ref, shuts_ref}
use Rattle.mem_blocks.specs.contracts.block.Loose as loose
use Rattle.mem_blocks.specs.contracts.chain.Chain as chain
use Rattle.mem_blocks.proofs.Blocks as blocks
use Rattle.mem_blocks.specs.contracts.chain.Chain.lay.{ended, clauses, Key.name as #self}
use Rattle.mem_blocks.proofs.chain.Chain.lay.Statement.{statement}
use Rattle.mem_blocks.proofs.chain.Chain.lay.Code as code

pub lay_spec : {M : Type 1} → statement M
lay_spec 𝓤 𝓛 𝓜 𝓡 wired S A L _ ga da dd _ _ =
    let H = 𝓛.H in let 𝓣 = tables 𝓤 H 𝓜 𝓡 𝓡.env in let R : RattleType = param 0 S in let Z : RattleType = param 1 A in let Chain : RattleType = chain.the_row R Z ga in let Loose : RattleType = loose.the_row R Z ga in
    let goal = ended S A ga da dd in let c = clauses S A ga da dd 𝓛 𝓜.mem 𝓡.returns in let at_types = bounded (a_type ∷ a_type ∷ []) (S, (A, tt)) (dcons da (dcons dd dnil)) in let mir = inst_fn at_types code.function in
    let kept_of : Stays goal.signature.params goal.kept = (stay_ref (0 ∷ []) tt (plain (λ _. Chain)), (stay_dropped (plain (λ _. Loose)) no, tt)) in
    proved 𝓛 goal kept_of c 𝓜 𝓡 (Goes-ref 𝓛 3 0 tt (plain (λ _. Chain)), (Goes-dropped 𝓛 3 (plain (λ _. Loose)) no (λ κs x f. refl), tt)) (#self at_types) mir
    (code.unfolded 𝓤 H 𝓜 𝓡 wired (S, (A, tt)) da dd) (λ κs. (mut_vals, ((λ _. blank_val ∷ []), tt)))
    (λ κs. (mut_Tells (named 0) κs.0 Chain, ((λ x vs so. blank_values (Tuple (R ∷ Z ∷ [])) vs so.0), tt))) (λ κs qs bounds a ghost are.
    let y : (walk_of 𝓛 goal kept_of c).Ghost = ((κs, qs, bounds, a, (vptr a.0.ref_ptr.0 a.0.ref_ptr.1 ∷ [], (blank_val ∷ [], tt))), ghost) in let Post : Val → SProp 𝓤 = (walk_of 𝓛 goal kept_of c).post y in
    let b' : ℕ = a.0.ref_ptr.0 in let o' : ℕ = a.0.ref_ptr.1 in let h : Chain.Denot = a.0.now in let bs : List (Block S.Denot) = h.blocks in let token : Ty → Ptr → Fml = ga.dealloc_token h.heap in let x : Loose.Denot = a.1.0 in let B : Block S.Denot = alive_at x.at x.next x.words x.homes in
    let Asked : Type 0 = x.heap ≡ h.heap in let others : Fml = fsep (flft κs.1.0 qs.1.0) (fsep (flft κs.1.1.0 qs.1.1.0) (ftrue)) in let h' : Chain.Denot = record { marker = h.marker; heap = h.heap; blocks = bs ++ B ∷ [] } in let Ensured : Type 0 = (h.heap ≡ h.heap) × (h'.blocks ≡ h'.blocks) in
    qed 𝓛 (((‵ (flft κs.0 qs.0) ⊛ ‵ others) ⊛ ‵ (owns (types_at goal.signature.params κs) a y.0.4)) ∷ raw (fact 𝓤 _) ∷ raw (fact 𝓤 _) ∷ raw (fact 𝓤 Asked) ∷ []) ∵
    keep ! (3 ∷ 0 ∷ []) $ heard ! Asked (λ asked. split ! $ split ! $ move ! (2 ∷ []) $ fsplit3 ! $ fsplit3 ! $ move ! (3 ∷ []) $ fsplit ! $ keep ! (3 ∷ 4 ∷ 6 ∷ 1 ∷ 7 ∷ []) $ rewrite ! 3 (λ (u : A.Denot). ‵ (block_owns R (ga.dealloc_token u) B)) asked refl $
    enter ! 𝓣.C 𝓣.Λ mir (vptr b' o' ∷ blank_val ∷ []) Post $ alloc_all ! (λ l. pass_all ! refl ((tt, tt), ((tt, (tt, tt)), tt)) $ let locals = env mir.locals l in
    opens_ref ! tt Chain h b' o' (λ ts. refl) (λ ts. move ! (0 ∷ 6 ∷ []) $ use2 𝓛 (‵ (chain_owns R token (bs ++ B ∷ []))) (blocks.lays_last 𝓛 R token bs B) $ shuts_ref ! tt Chain h' ts b' o' 1 refl refl $ sets ! (of_opd ! (unit_lit !)) refl (tt, tt) $
    tells ! Ensured (refl, refl) $ feq_i ! (List Val) (vunit ∷ []) (vunit ∷ []) refl $
    returns ! (look_at ! 0 refl) $ free_all ! refl $ keep ! (2 ∷ 3 ∷ 0 ∷ 1 ∷ []) $ by ! (leaves 𝓛 goal kept_of c y vunit tt (h', (tt, tt)) (tt, (tt, tt)))))))
