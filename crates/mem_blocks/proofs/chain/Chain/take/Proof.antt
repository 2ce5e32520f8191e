-- `take` reads a full slot of a block.
use Rattle.mem_blocks.proofs.Walks.{◌≡◌, ℕ, ◌+◌, ◌*◌, ◌^◌, ◌<◌, ◌≤◌, List, [], ◌∷◌, sym, refl, ap, subst, arith, w64, Some, mul-le-mul_right, Ty, a_type, dcons, dnil, named, Val, vint, vptr, inst_fn, bare, SProp, all, Fml, ftrue, fsep, froom, flft, ‵, raw, ◌⊛◌, given, at_ret, ◌$◌}
use Rattle.mem_blocks.proofs.Walks.{◌∵◌, !, qed, by, move, keep, use1, use2, split, join, learn, stop, fld, load, addr, size_word, of_opd, bin, first, blocks, exec, returns, look_raw, alloc_all, pass_all, free_all, look_at, get, get_in, through, sets, sets_last, is, env, sub}
use Rattle.mem_blocks.proofs.Walks.{all_of_it, tables, fact, yes, no, RattleType, owns, types_at, plain, mem, Ptr, block_of, count_of, InBlock, heard, param, bounded, layout, param_laws, u64, usize, mut_vals, mut_Tells, uint_vals, uint_Tells, Member, Stays, stay_dropped, stay_ref}
use Rattle.mem_blocks.proofs.Walks.{walk_of, Goes-dropped, Goes-ref, spread, proved, leaves, Block, vacant, Lives, Rests, with_home, slots_at, content_owns, chain_owns, SLOTS, after, place_val, place_values, full_product, tells, takes_ref, opens_ref, shuts_ref, enters_at}
use Rattle.mem_blocks.specs.contracts.block.BlockPtr as link
use Rattle.mem_blocks.specs.contracts.chain.Chain as chain
use Rattle.mem_blocks.proofs.Blocks as blocks
use Rattle.mem_blocks.specs.contracts.chain.Chain.take.{ended, clauses, Key.name as #self}
use Rattle.mem_blocks.proofs.chain.Chain.take.Statement.{statement}
use Rattle.mem_blocks.proofs.chain.Chain.take.Code as code

pub take_spec : {M : Type 1} → statement M
take_spec 𝓤 𝓛 𝓜 𝓡 wired S A L _ ga da dd _ _ =
    let H = 𝓛.H in let 𝓣 = tables 𝓤 H 𝓜 𝓡 𝓡.env in let R : RattleType = param 0 S in let Z : RattleType = param 1 A in let Chain : RattleType = chain.the_row R Z ga in let BlockPtr : RattleType = link.the_row R in let goal = ended S A ga da dd in let c = clauses S A ga da dd 𝓛 𝓜.mem 𝓡.returns in
    let at_types = bounded (a_type ∷ a_type ∷ []) (S, (A, tt)) (dcons da (dcons dd dnil)) in let mir = inst_fn at_types code.function in
    let kept_of : Stays goal.signature.params goal.kept = (stay_ref (0 ∷ []) tt (plain (λ _. Chain)), (stay_dropped (plain (λ _. u64)) yes, (stay_dropped (plain (λ _. BlockPtr)) no, (stay_dropped (plain (λ _. usize)) yes, tt)))) in
    proved 𝓛 goal kept_of c 𝓜 𝓡 (Goes-ref 𝓛 3 0 tt (plain (λ _. Chain)), (Goes-dropped 𝓛 3 (plain (λ _. u64)) yes (λ κs x f. refl), (Goes-dropped 𝓛 3 (plain (λ _. BlockPtr)) no (λ κs x f. refl), (Goes-dropped 𝓛 3 (plain (λ _. usize)) yes (λ κs x f. refl), tt)))) (#self at_types) mir
    (code.unfolded 𝓤 H 𝓜 𝓡 wired (S, (A, tt)) da dd) (λ κs. (mut_vals, (uint_vals w64, ((λ x. place_val x.ptr ∷ []), (uint_vals w64, tt)))))
    (λ κs. (mut_Tells (named 0) κs.0 Chain, (uint_Tells w64, (place_values R, (uint_Tells w64, tt))))) (λ κs qs bounds a ghost are.
    let y : (walk_of 𝓛 goal kept_of c).Ghost = ((κs, qs, bounds, a, (vptr a.0.ref_ptr.0 a.0.ref_ptr.1 ∷ [], (vint w64 a.1.0 ∷ [], (place_val a.1.1.0.ptr ∷ [], (vint w64 a.1.1.1.0 ∷ [], tt))))), ghost) in let Post : Val → SProp 𝓤 = (walk_of 𝓛 goal kept_of c).post y in
    let lawful = (param_laws 0 S L).lawful 𝓛 in let v : Member = record { row = R; ty = layout S } in
    let b' : ℕ = a.0.ref_ptr.0 in let o' : ℕ = a.0.ref_ptr.1 in let h : Chain.Denot = a.0.now in let bs : List (Block S.Denot) = h.blocks in let token : Ty → Ptr → Fml = ga.dealloc_token h.heap in let k : ℕ = a.1.0 in let p : Ptr = a.1.1.0.ptr in let j : ℕ = a.1.1.1.0 in
    let others : Fml = fsep (flft κs.1.0 qs.1.0) (fsep (flft κs.1.1.0 qs.1.1.0) (ftrue)) in let Asked : Type 0 = InBlock p × Lives bs k p × ((x : S.Denot) × Rests bs k j (Some x)) in
    let sz : ℕ = (mem R).size in let b : ℕ = block_of p in let e : ℕ = j * sz + slots_at R (count_of p) in let h' : Chain.Denot = record { marker = h.marker; heap = h.heap; blocks = with_home bs k j vacant } in let Ensured : Type 0 = (h.heap ≡ h.heap) × (h'.blocks ≡ h'.blocks) in
    qed 𝓛 (((‵ (flft κs.0 qs.0) ⊛ ‵ others) ⊛ ‵ (owns (types_at goal.signature.params κs) a y.0.4)) ∷ raw (fact 𝓤 _) ∷ raw (fact 𝓤 _) ∷ raw (fact 𝓤 Asked) ∷ []) ∵
    keep ! (3 ∷ 0 ∷ []) $ heard ! Asked (λ asked. let x : S.Denot = asked.2.0 in takes_ref ! $
    enters_at ! p asked.0 𝓣.C 𝓣.Λ mir (λ u. vptr a.0.ref_ptr.0 a.0.ref_ptr.1 ∷ vint w64 a.1.0 ∷ place_val u ∷ vint w64 a.1.1.1.0 ∷ []) Post $ alloc_all ! (λ l.
    pass_all ! refl ((tt, tt), ((tt, record { fits = are.1.0.1 }), ((tt, (tt, tt)), ((tt, record { fits = are.1.1.1.0.1 }), tt)))) $ let locals = env mir.locals l in
    opens_ref ! tt Chain h b' o' (λ ts. refl) (λ ts. use1 𝓛 (given (blocks.Placed 𝓛 R token p j) (‵ (content_owns R (Some x) b e) ⊛ raw (all 𝓤 (blocks.Rehome 𝓛 R token bs k p j)))) (blocks.content_at 𝓛 R token bs k p j (Some x) asked.1 asked.2.1) $ learn ! (λ at. split ! $
    let near : j < SLOTS = at.2 in let less : j * sz ≤ SLOTS * sz = mul-le-mul_right sz (omega arith) in let tiny : sz < 2 ^ 31 = at.1 in let small : j * sz < 2 ^ 64 = omega arith in spread v ! lawful x b e (λ w good. first ! $ blocks ! $
    sets ! (of_opd ! (get_in ! (fld ! refl (stop !)) (sub ! 0 refl (all_of_it !)))) refl (tt, tt) $ sets ! (addr ! (through ! refl (fld ! refl (stop !)))) refl (tt, tt) $
    sets ! (is ! (bin ! (get ! refl) (size_word !) (record { fits = subst (λ (n : ℕ). n < 2 ^ 64) (sym (full_product j sz small)) small })) (ap (vint w64) (full_product j sz small))) refl (tt, record { fits = small }) $ sets ! (bin ! (get ! refl) (get ! refl) tt) refl (tt, tt) $
    sets_last ! (of_opd ! (load ! (through ! refl (stop !)) (look_raw ! 0 refl))) refl good $ exec ! 𝓣.C 𝓣.Λ locals (after 1 mir.body) (at_ret locals Post) $ sets ! (of_opd ! (get ! refl)) refl good $ use1 𝓛 (‵ (froom (bare (layout S)) b e)) (𝓛.laws.at_room (bare (layout S)) b e w) $
    -- [the slot; the value; the way back; the chain's fields; its place in four; the other tokens]
    move ! (0 ∷ 2 ∷ []) $ use2 𝓛 (‵ (chain_owns R token h'.blocks)) (blocks.rehomes 𝓛 R token bs k p j vacant) $ move ! (0 ∷ 2 ∷ 3 ∷ 4 ∷ 5 ∷ 6 ∷ 7 ∷ []) $ shuts_ref ! tt Chain h' ts b' o' 3 refl refl $ tells ! (Rests bs k j (Some x)) asked.2.1 $ tells ! Ensured (refl, refl) $ join ! $
    returns ! (look_at ! 0 refl) $ free_all ! refl $ keep ! (1 ∷ 2 ∷ 3 ∷ 0 ∷ []) $ by ! (leaves 𝓛 goal kept_of c y w x (h', (tt, (tt, (tt, tt)))) (tt, (tt, (tt, (tt, tt)))))))))))
