-- `lift` takes a block out of the chain.
use Rattle.mem_blocks.proofs.Walks.{◌≡◌, ℕ, List, [], ◌∷◌, refl, w64, Ty, a_type, dcons, dnil, named, ty_ptr, Val, vint, vptr, inst_fn, SProp, Fml, ftrue, fsep, flft, ‵, raw, ◌⊛◌, ◌$◌, ◌∵◌, !, qed, by, move, keep, use1, split, join, rewrite, no_more, and_then, returns}
use Rattle.mem_blocks.proofs.Walks.{enter, alloc_all, pass_all, free_all, look_at, get, sets, env, agg, tables, fact, yes, no, RattleType, owns, types_at, plain, Ptr, heard, param, bounded, u64, mut_vals, mut_Tells, uint_vals, uint_Tells, Tuple, Stays, stay_dropped}
use Rattle.mem_blocks.proofs.Walks.{stay_ref, walk_of, Goes-dropped, Goes-ref, Good-round, proved, leaves, Block, alive_at, block, Lives, without, block_owns, chain_owns, ptr_good, blank_val, place_val, place_values, tells, blank, takes_ref, opens_ref, shuts_ref}
use Rattle.mem_blocks.specs.contracts.block.BlockPtr as link
use Rattle.mem_blocks.specs.contracts.block.Loose as loose
use Rattle.mem_blocks.specs.contracts.chain.Chain as chain
use Rattle.mem_blocks.proofs.Blocks as blocks
use Rattle.mem_blocks.specs.contracts.chain.Chain.lift.{ended, clauses, Key.name as #self}
use Rattle.mem_blocks.proofs.chain.Chain.lift.Statement.{statement}
use Rattle.mem_blocks.proofs.chain.Chain.lift.Code as code

pub lift_spec : {M : Type 1} → statement M
lift_spec 𝓤 𝓛 𝓜 𝓡 wired S A L _ ga da dd _ _ =
    let H = 𝓛.H in let 𝓣 = tables 𝓤 H 𝓜 𝓡 𝓡.env in let R : RattleType = param 0 S in let Z : RattleType = param 1 A in let Chain : RattleType = chain.the_row R Z ga in let BlockPtr : RattleType = link.the_row R in let Loose : RattleType = loose.the_row R Z ga in
    let goal = ended S A ga da dd in let c = clauses S A ga da dd 𝓛 𝓜.mem 𝓡.returns in let at_types = bounded (a_type ∷ a_type ∷ []) (S, (A, tt)) (dcons da (dcons dd dnil)) in let mir = inst_fn at_types code.function in
    let kept_of : Stays goal.signature.params goal.kept = (stay_ref (0 ∷ []) tt (plain (λ _. Chain)), (stay_dropped (plain (λ _. u64)) yes, (stay_dropped (plain (λ _. BlockPtr)) no, tt))) in
    proved 𝓛 goal kept_of c 𝓜 𝓡 (Goes-ref 𝓛 3 0 tt (plain (λ _. Chain)), (Goes-dropped 𝓛 3 (plain (λ _. u64)) yes (λ κs x f. refl), (Goes-dropped 𝓛 3 (plain (λ _. BlockPtr)) no (λ κs x f. refl), tt))) (#self at_types) mir
    (code.unfolded 𝓤 H 𝓜 𝓡 wired (S, (A, tt)) da dd) (λ κs. (mut_vals, (uint_vals w64, ((λ x. place_val x.ptr ∷ []), tt))))
    (λ κs. (mut_Tells (named 0) κs.0 Chain, (uint_Tells w64, (place_values R, tt)))) (λ κs qs bounds a ghost are.
    let y : (walk_of 𝓛 goal kept_of c).Ghost = ((κs, qs, bounds, a, (vptr a.0.ref_ptr.0 a.0.ref_ptr.1 ∷ [], (vint w64 a.1.0 ∷ [], (place_val a.1.1.0.ptr ∷ [], tt)))), ghost) in let Post : Val → SProp 𝓤 = (walk_of 𝓛 goal kept_of c).post y in
    let b' : ℕ = a.0.ref_ptr.0 in let o' : ℕ = a.0.ref_ptr.1 in let h : Chain.Denot = a.0.now in let bs : List (Block S.Denot) = h.blocks in let token : Ty → Ptr → Fml = ga.dealloc_token h.heap in let k : ℕ = a.1.0 in let p : Ptr = a.1.1.0.ptr in let x : Block S.Denot = block bs k in
    let Asked : Type 0 = Lives bs k p in let others : Fml = fsep (flft κs.1.0 qs.1.0) (fsep (flft κs.1.1.0 qs.1.1.0) (ftrue)) in let h' : Chain.Denot = record { marker = h.marker; heap = h.heap; blocks = without bs k } in
    let r : Loose.Denot = record { marker = record {}; heap = h.heap; at = p; next = x.next; words = x.words; homes = x.homes } in
    let Left : Type 0 = (h.heap ≡ h.heap) × (h'.blocks ≡ h'.blocks) in let Out : Type 0 = (h.heap ≡ h.heap) × (p ≡ p) × (x.next ≡ x.next) × (x.words ≡ x.words) × (x.homes ≡ x.homes) in
    qed 𝓛 (((‵ (flft κs.0 qs.0) ⊛ ‵ others) ⊛ ‵ (owns (types_at goal.signature.params κs) a y.0.4)) ∷ raw (fact 𝓤 _) ∷ raw (fact 𝓤 _) ∷ raw (fact 𝓤 Asked) ∷ []) ∵
    keep ! (3 ∷ 0 ∷ []) $ heard ! Asked (λ asked. takes_ref ! $
    enter ! 𝓣.C 𝓣.Λ mir (vptr b' o' ∷ vint w64 k ∷ place_val p ∷ []) Post $ alloc_all ! (λ l. pass_all ! refl ((tt, tt), ((tt, record { fits = are.1.0.1 }), ((Good-round [] ty_ptr _ (ptr_good a.1.1.0.ptr)), tt))) $ let locals = env mir.locals l in
    opens_ref ! tt Chain h b' o' (λ ts. refl) (λ ts. use1 𝓛 (‵ (chain_owns R token (without bs k)) ⊛ ‵ (block_owns R token x)) (blocks.lifts_out 𝓛 R token bs k asked.0) $ split ! $
    rewrite ! 1 (λ (u : Ptr). ‵ (block_owns R token (alive_at u x.next x.words x.homes))) asked.1 refl $ move ! (0 ∷ 2 ∷ 3 ∷ 4 ∷ 5 ∷ 6 ∷ 7 ∷ []) $ shuts_ref ! tt Chain h' ts b' o' 2 refl refl $ move ! (2 ∷ []) $ blank ! (Tuple (R ∷ Z ∷ [])) $
    sets ! (agg ! (no_more !)) refl (tt, tt) $ sets ! (agg ! (and_then ! (get ! refl) (no_more !))) refl (tt, (tt, tt)) $ tells ! Out (refl, refl, refl, refl, refl) $ tells ! Left (refl, refl) $ join ! $
    returns ! (look_at ! 0 refl) $ free_all ! refl $ keep ! (2 ∷ 3 ∷ 1 ∷ 0 ∷ []) $ by ! (leaves 𝓛 goal kept_of c y blank_val r (h', (tt, (tt, tt))) (tt, (tt, (tt, tt))))))))
