-- `put` writes an empty slot of a block.
use Rattle.mem_blocks.proofs.Walks.{◌≡◌, ℕ, ◌+◌, ◌*◌, ◌^◌, ◌<◌, ◌≤◌, List, [], ◌∷◌, ◌++◌, sym, refl, ap, subst, arith, w64, None, mul-le-mul_right, Ty, a_type, dcons, dnil, Val, vunit, vint, vptr, inst_fn, bare, full_share, SProp, ent, all, id⊢, Fml, ftrue, fsep, froom, fat, flft, WpFn}
use Rattle.mem_blocks.proofs.Walks.{‵, raw, ◌⊛◌, given, at_ret, ◌$◌, ◌∵◌, !, qed, by, move, keep, use1, use2, split, fsplit, fsplit3, learn, suffices, rewrite, feq_i, stop, fld, addr, unit_lit, size_word, of_opd, bin, first, blocks, exec, returns, assigns_last, init, alloc_all, pass_all}
use Rattle.mem_blocks.proofs.Walks.{free_all, look_at, get, get_in, through, sets, is, env, sub, all_of_it, tables, fact, yes, no, RattleType, owns, types_at, plain, mem, Ptr, block_of, count_of, InBlock, heard, param, bounded, layout, param_laws, u64, usize, Member, Stays, stay_dropped}
use Rattle.mem_blocks.proofs.Walks.{stay_ref, walk_of, Goes-dropped, Goes-ref, one, gather, proved_at, leaves, Block, full, Lives, Rests, with_home, slots_at, content_owns, chain_owns, SLOTS, after, place_val, place_values, full_product, tells, opens_ref, shuts_ref, enters_at}
use Rattle.mem_blocks.specs.contracts.block.BlockPtr as link
use Rattle.mem_blocks.specs.contracts.chain.Chain as chain
use Rattle.mem_blocks.proofs.Blocks as blocks
use Rattle.mem_blocks.specs.contracts.chain.Chain.put.{ended, clauses, Key.name as #self}
use Rattle.mem_blocks.proofs.chain.Chain.put.Statement.{statement}
use Rattle.mem_blocks.proofs.chain.Chain.put.Code as code

pub put_spec : {M : Type 1} → statement M
put_spec 𝓤 𝓛 𝓜 𝓡 wired S A L _ ga da dd _ _ =
    let H = 𝓛.H in let 𝓣 = tables 𝓤 H 𝓜 𝓡 𝓡.env in let R : RattleType = param 0 S in let Z : RattleType = param 1 A in let Chain : RattleType = chain.the_row R Z ga in let BlockPtr : RattleType = link.the_row R in let goal = ended S A ga da dd in let c = clauses S A ga da dd 𝓛 𝓜.mem 𝓡.returns in
    let at_types = bounded (a_type ∷ a_type ∷ []) (S, (A, tt)) (dcons da (dcons dd dnil)) in let mir = inst_fn at_types code.function in
    let kept_of : Stays goal.signature.params goal.kept = (stay_ref (0 ∷ []) tt (plain (λ _. Chain)), (stay_dropped (plain (λ _. u64)) yes, (stay_dropped (plain (λ _. BlockPtr)) no, (stay_dropped (plain (λ _. usize)) yes, (stay_dropped (plain (λ _. R)) no, tt))))) in
    proved_at 𝓛 goal kept_of c 𝓜 𝓡 (
      Goes-ref 𝓛 3 0 tt (plain (λ _. Chain)),
      (
        Goes-dropped 𝓛 3 (plain (λ _. u64)) yes (λ κs x f. refl),
        (Goes-dropped 𝓛 3 (plain (λ _. BlockPtr)) no (λ κs x f. refl), (Goes-dropped 𝓛 3 (plain (λ _. usize)) yes (λ κs x f. refl), (Goes-dropped 𝓛 3 (plain (λ _. R)) no (λ κs x f. refl), tt))),
      ),
    ) (#self at_types) mir
    (code.unfolded 𝓤 H 𝓜 𝓡 wired (S, (A, tt)) da dd) (λ y are. let κs = y.0.0 in let qs = y.0.1 in let a = y.0.3 in let vss = y.0.4 in let Post : Val → SProp 𝓤 = (walk_of 𝓛 goal kept_of c).post y in let lawful = (param_laws 0 S L).lawful 𝓛 in let v : Member = record { row = R; ty = layout S } in
    let b' : ℕ = a.0.ref_ptr.0 in let o' : ℕ = a.0.ref_ptr.1 in let h : Chain.Denot = a.0.now in let bs : List (Block S.Denot) = h.blocks in
    let token : Ty → Ptr → Fml = ga.dealloc_token h.heap in let k : ℕ = a.1.0 in let p : Ptr = a.1.1.0.ptr in let j : ℕ = a.1.1.1.0 in let new : S.Denot = a.1.1.1.1.0 in
    let others : Fml = fsep (flft κs.1.0 qs.1.0) (fsep (flft κs.1.1.0 qs.1.1.0) (ftrue)) in let got = one (layout S) vss.1.1.1.1.0 (lawful.typed new vss.1.1.1.1.0 are.1.1.1.1.0) in let vy : Val = got.0 in let Asked : Type 0 = InBlock p × Lives bs k p × Rests bs k j None in
    let sz : ℕ = (mem R).size in let b : ℕ = block_of p in let e : ℕ = j * sz + slots_at R (count_of p) in let h' : Chain.Denot = record { marker = h.marker; heap = h.heap; blocks = with_home bs k j (full new) } in let Ensured : Type 0 = (h.heap ≡ h.heap) × (h'.blocks ≡ h'.blocks) in
    qed 𝓛 (((‵ (flft κs.0 qs.0) ⊛ ‵ others) ⊛ ‵ (owns (types_at goal.signature.params κs) a vss)) ∷ raw (fact 𝓤 _) ∷ raw (fact 𝓤 _) ∷ raw (fact 𝓤 Asked) ∷ []) ∵
    keep ! (3 ∷ 0 ∷ []) $ heard ! Asked (λ asked. split ! $ split ! $ move ! (2 ∷ []) $ fsplit3 ! $ fsplit3 ! $ move ! (4 ∷ []) $ fsplit3 ! $ move ! (2 ∷ []) $ fsplit ! $ keep ! (5 ∷ 6 ∷ 8 ∷ 0 ∷ 9 ∷ []) $
    rewrite ! 3 (λ (ws : List Val). ‵ (R.own_val new ws)) got.1 refl $ let us : Ptr → List Val = λ u. vptr b' o' ∷ vint w64 k ∷ place_val u ∷ vint w64 j ∷ vy ∷ [] in let Run : List Val → SProp 𝓤 = λ ws. WpFn 𝓤 H 𝓣.C 𝓣.Λ mir ws Post in
    suffices ! (Run (us p)) (subst (λ (ws : List Val). ent 𝓤 (Run (us p)) (Run ws))
    (sym (λ i. are.0.0 i ++ (are.1.0.0 i ++ (place_values R a.1.1.0 vss.1.1.0 are.1.1.0 i ++ (are.1.1.1.0.0 i ++ (got.1 i ++ [])))))) (id⊢ 𝓤 (Run (us p)))) $
    enters_at ! p asked.0 𝓣.C 𝓣.Λ mir us Post $ alloc_all ! (λ l. pass_all ! refl
    ((tt, tt), ((tt, record { fits = are.1.0.1 }), ((tt, (tt, tt)), ((tt, record { fits = are.1.1.1.0.1 }), (got.2, tt))))) $ let locals = env mir.locals l in
    opens_ref ! tt Chain h b' o' (λ ts. refl) (λ ts. use1 𝓛 (given (blocks.Placed 𝓛 R token p j) (‵ (content_owns R None b e) ⊛ raw (all 𝓤 (blocks.Rehome 𝓛 R token bs k p j)))) (blocks.content_at 𝓛 R token bs k p j None asked.1 asked.2) $ learn ! (λ at. split ! $
    let near : j < SLOTS = at.2 in let less : j * sz ≤ SLOTS * sz = mul-le-mul_right sz (omega arith) in let tiny : sz < 2 ^ 31 = at.1 in let small : j * sz < 2 ^ 64 = omega arith in use1 𝓛 (‵ (froom (layout S) b e)) (𝓛.laws.raw-room (layout S) b e) $ first ! $ blocks ! $
    sets ! (of_opd ! (get_in ! (fld ! refl (stop !)) (sub ! 0 refl (all_of_it !)))) refl (tt, tt) $ sets ! (addr ! (through ! refl (fld ! refl (stop !)))) refl (tt, tt) $
    sets ! (is ! (bin ! (get ! refl) (size_word !) (record { fits = subst (λ (n : ℕ). n < 2 ^ 64) (sym (full_product j sz small)) small })) (ap (vint w64) (full_product j sz small))) refl (tt, record { fits = small }) $ sets ! (bin ! (get ! refl) (get ! refl) tt) refl (tt, tt) $
    sets ! (of_opd ! (get ! refl)) refl got.2 $ assigns_last ! (of_opd ! (get ! refl)) (through ! refl (stop !)) (init ! 0 refl got.2) $ exec ! 𝓣.C 𝓣.Λ locals (after 1 mir.body) (at_ret locals Post) $ sets ! (of_opd ! (unit_lit !)) refl (tt, tt) $
    use1 𝓛 (‵ (fat full_share (bare (layout S)) b e vy)) (𝓛.laws.at_raw full_share (layout S) b e vy) $
    -- [the slot; the way back; the chain's fields; its place in four; the value; the other tokens]
    move ! (0 ∷ 7 ∷ []) $ gather v ! new vy b e $ use2 𝓛 (‵ (chain_owns R token h'.blocks)) (blocks.rehomes 𝓛 R token bs k p j (full new)) $ shuts_ref ! tt Chain h' ts b' o' 4 are.0.0 refl $ tells ! Ensured (refl, refl) $ feq_i ! (List Val) (vunit ∷ []) (vunit ∷ []) refl $
    returns ! (look_at ! 0 refl) $ free_all ! refl $ keep ! (2 ∷ 3 ∷ 0 ∷ 1 ∷ []) $ by ! (leaves 𝓛 goal kept_of c y vunit tt (h', (tt, (tt, (tt, (tt, tt))))) (tt, (tt, (tt, (tt, (tt, tt)))))))))))
