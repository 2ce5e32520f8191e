-- `next` reads the link of a block.
use Rattle.mem_blocks.proofs.Walks.{◌≡◌, ℕ, ◌+◌, List, [], ◌∷◌, refl, w64, a_type, dcons, dnil, named, ty_ptr, Val, vint, vptr, inst_fn, SProp, Fml, ftrue, fsep, flft, ‵, raw, ◌⊛◌, at_ret, ◌$◌, ◌∵◌, !, qed, by, move, keep, drop, use0}
use Rattle.mem_blocks.proofs.Walks.{use1, split, join, fsplit, stop, from, fld, hop, load, of_opd, no_more, and_then, first, blocks, exec, returns, look, alloc_all, pass_all, free_all, look_at, look_in_at, get, sets, sets_last, env, agg}
use Rattle.mem_blocks.proofs.Walks.{sub, all_of_it, shr_bor-open, obor_close, tables, fact, yes, no, RattleType, owns, types_at, plain, Ptr, block_of, count_of, InBlock, unhide, heard, param, bounded, RefOf, u64, shr_vals, shr_Tells}
use Rattle.mem_blocks.proofs.Walks.{uint_vals, uint_Tells, Stays, stay_dropped, walk_of, Goes-dropped, Good-round, proved, leaves, Block, block, Lives, after, ptr_good, place_val, place_values, place_made, tells, spends, enters_at}
use denote.Sharing.{one}
use Rattle.mem_blocks.specs.contracts.block.BlockPtr as link
use Rattle.mem_blocks.specs.contracts.chain.Chain as chain
use Rattle.mem_blocks.{specs.Lent.link_part, proofs.Lent.link_halves, proofs.Lent.link_seen, proofs.chain.Chain.next.Statement.statement}
use Rattle.mem_blocks.specs.contracts.chain.Chain.next.{ended, clauses, Key.name as #self}
use Rattle.mem_blocks.proofs.chain.Chain.next.Code as code

pub next_spec : {M : Type 1} → statement M
next_spec 𝓤 𝓛 𝓜 𝓡 wired S A L _ ga da dd _ _ =
    let H = 𝓛.H in let 𝓣 = tables 𝓤 H 𝓜 𝓡 𝓡.env in let R : RattleType = param 0 S in let Z : RattleType = param 1 A in let Chain : RattleType = chain.the_row R Z ga in let BlockPtr : RattleType = link.the_row R in let goal = ended S A ga da dd in let c = clauses S A ga da dd 𝓛 𝓜.mem 𝓡.returns in
    let at_types = bounded (a_type ∷ a_type ∷ []) (S, (A, tt)) (dcons da (dcons dd dnil)) in let mir = inst_fn at_types code.function in
    let kept_of : Stays goal.signature.params goal.kept = (stay_dropped (RefOf (0 ∷ []) tt (plain (λ _. Chain)) (λ _. tt)) yes, (stay_dropped (plain (λ _. u64)) yes, (stay_dropped (plain (λ _. BlockPtr)) no, tt))) in
    proved 𝓛 goal kept_of c 𝓜 𝓡 (Goes-dropped 𝓛 3 (RefOf (0 ∷ []) tt (plain (λ _. Chain)) (λ _. tt)) yes (λ κs x f. refl), (Goes-dropped 𝓛 3 (plain (λ _. u64)) yes (λ κs x f. refl), (Goes-dropped 𝓛 3 (plain (λ _. BlockPtr)) no (λ κs x f. refl), tt))) (#self at_types) mir
    (code.unfolded 𝓤 H 𝓜 𝓡 wired (S, (A, tt)) da dd) (λ κs. (shr_vals, (uint_vals w64, ((λ x. place_val x.ptr ∷ []), tt))))
    (λ κs. (shr_Tells (named 0) κs.0 Chain, (uint_Tells w64, (place_values R, tt)))) (λ κs qs bounds a ghost are.
    let y : (walk_of 𝓛 goal kept_of c).Ghost = ((κs, qs, bounds, a, (vptr a.0.ref_ptr.0 a.0.ref_ptr.1 ∷ [], (vint w64 a.1.0 ∷ [], (place_val a.1.1.0.ptr ∷ [], tt)))), ghost) in let Post : Val → SProp 𝓤 = (walk_of 𝓛 goal kept_of c).post y in
    let bs : List (Block S.Denot) = a.0.now.blocks in let k : ℕ = a.1.0 in let p : Ptr = a.1.1.0.ptr in
    let Asked : Type 0 = InBlock p × Lives bs k p in let others : Fml = fsep (flft κs.1.0 qs.1.0) (fsep (flft κs.1.1.0 qs.1.1.0) (ftrue)) in
    let n : Ptr = (block bs k).next in let e : ℕ = count_of p + 0 in let b : ℕ = block_of p in let Ensured : Type 0 = n ≡ n in
    qed 𝓛 (((‵ (flft κs.0 qs.0) ⊛ ‵ others) ⊛ ‵ (owns (types_at goal.signature.params κs) a y.0.4)) ∷ raw (fact 𝓤 _) ∷ raw (fact 𝓤 _) ∷ raw (fact 𝓤 Asked) ∷ []) ∵
    keep ! (3 ∷ 0 ∷ []) $ heard ! Asked (λ asked. split ! $ split ! $ move ! (2 ∷ []) $ fsplit ! $ fsplit ! $ drop ! $ unhide ! $ fsplit ! $ drop ! $ move ! (1 ∷ []) $ drop ! $
    -- [what the chain shows; the token of the reference; the other tokens]
    use1 𝓛 (‵ (one (link_part b e n) κs.0)) (link_seen 𝓛 R κs.0 bs k p asked.1) $
    enters_at ! p asked.0 𝓣.C 𝓣.Λ mir (λ u. vptr a.0.ref_ptr.0 a.0.ref_ptr.1 ∷ vint w64 a.1.0 ∷ place_val u ∷ []) Post $ alloc_all ! (λ l. pass_all ! refl ((tt, tt), ((tt, record { fits = are.1.0.1 }), ((tt, (tt, tt)), tt))) $ let locals = env mir.locals l in
    shr_bor-open ! tt (link_halves 𝓛 b e n) (λ s. move ! (1 ∷ []) $ first ! $ blocks ! $
    sets_last ! (of_opd ! (load ! (from ! (fld ! refl (hop ! (look_in_at ! 3 (sub ! 0 refl (all_of_it !))) (fld ! refl (stop !))))) (look ! 0 refl))) refl (ptr_good n) $ exec ! 𝓣.C 𝓣.Λ locals (after 1 mir.body) (at_ret locals Post) $
    sets ! (of_opd ! (get ! refl)) refl (ptr_good n) $ sets ! (agg ! (and_then ! (get ! refl) (no_more !))) refl (Good-round [] ty_ptr _ (ptr_good n)) $ move ! (1 ∷ 0 ∷ []) $ obor_close ! tt $ drop ! $ join ! $
    spends ! 3 $ tells ! Ensured refl $ use0 𝓛 (‵ (BlockPtr.own_val (record { ptr = n }) (place_val n ∷ []))) (place_made R 𝓛 n) $
    returns ! (look_at ! 0 refl) $ free_all ! refl $ keep ! (3 ∷ 2 ∷ 0 ∷ 1 ∷ []) $ by ! (leaves 𝓛 goal kept_of c y (place_val n) (record { ptr = n }) (tt, (tt, (tt, tt))) (tt, (tt, (tt, tt))))))))
