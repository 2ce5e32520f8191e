-- `set_word` writes a word of a block.
use Rattle.mem_blocks.proofs.Walks.{◌≡◌, ℕ, ◌+◌, ◌*◌, ◌^◌, ◌<◌, List, [], ◌∷◌, refl, arith, w64, Ty, a_type, dcons, dnil, named, Val, vunit, vint, vptr, inst_fn, SProp, all, Fml, ftrue, fsep, flft, ‵, raw, ◌⊛◌, at_ret, ◌$◌, ◌∵◌, !, qed, by, keep, given, learn, HoldsWord}
use Rattle.mem_blocks.proofs.Walks.{use1, split, feq_i, stop, from, fld, hop, addr, lit, unit_lit, of_opd, bin, first, blocks, exec, returns, assigns_last, store, alloc_all, pass_all, free_all, look_at, look_in_at, get, through, sets, env, sub}
use Rattle.mem_blocks.proofs.Walks.{all_of_it, tables, fact, yes, no, RattleType, owns, types_at, plain, Ptr, block_of, count_of, InBlock, heard, param, bounded, u64, usize, mut_vals, mut_Tells, uint_vals, uint_Tells, Stays, stay_dropped}
use Rattle.mem_blocks.proofs.Walks.{stay_ref, walk_of, Goes-dropped, Goes-ref, word, proved, leaves, Block, word_of, with_word, chain_owns, SLOTS, after, place_val, place_values, tells, takes_ref, puts_back, opens_ref, shuts_ref, enters_at}
use Rattle.mem_blocks.specs.contracts.block.BlockPtr as link
use Rattle.mem_blocks.specs.contracts.chain.Chain as chain
use Rattle.mem_blocks.proofs.Blocks as blocks
use Rattle.mem_blocks.specs.contracts.chain.Chain.set_word.{ended, clauses, Key.name as #self}
use Rattle.mem_blocks.proofs.chain.Chain.set_word.Statement.{statement}
use Rattle.mem_blocks.proofs.chain.Chain.set_word.Code as code

pub set_word_spec : {M : Type 1} → statement M
set_word_spec 𝓤 𝓛 𝓜 𝓡 wired S A L _ ga da dd _ _ =
    let H = 𝓛.H in let 𝓣 = tables 𝓤 H 𝓜 𝓡 𝓡.env in let R : RattleType = param 0 S in let Z : RattleType = param 1 A in let Chain : RattleType = chain.the_row R Z ga in let BlockPtr : RattleType = link.the_row R in let goal = ended S A ga da dd in let c = clauses S A ga da dd 𝓛 𝓜.mem 𝓡.returns in
    let at_types = bounded (a_type ∷ a_type ∷ []) (S, (A, tt)) (dcons da (dcons dd dnil)) in let mir = inst_fn at_types code.function in
    let kept_of : Stays goal.signature.params goal.kept = (stay_ref (0 ∷ []) tt (plain (λ _. Chain)), (stay_dropped (plain (λ _. u64)) yes, (stay_dropped (plain (λ _. BlockPtr)) no, (stay_dropped (plain (λ _. usize)) yes, (stay_dropped (plain (λ _. u64)) yes, tt))))) in
    proved 𝓛 goal kept_of c 𝓜 𝓡 (
      Goes-ref 𝓛 3 0 tt (plain (λ _. Chain)),
      (
        Goes-dropped 𝓛 3 (plain (λ _. u64)) yes (λ κs x f. refl),
        (Goes-dropped 𝓛 3 (plain (λ _. BlockPtr)) no (λ κs x f. refl), (Goes-dropped 𝓛 3 (plain (λ _. usize)) yes (λ κs x f. refl), (Goes-dropped 𝓛 3 (plain (λ _. u64)) yes (λ κs x f. refl), tt))),
      ),
    ) (#self at_types) mir
    (code.unfolded 𝓤 H 𝓜 𝓡 wired (S, (A, tt)) da dd) (λ κs. (mut_vals, (uint_vals w64, ((λ x. place_val x.ptr ∷ []), (uint_vals w64, (uint_vals w64, tt))))))
    (λ κs. (mut_Tells (named 0) κs.0 Chain, (uint_Tells w64, (place_values R, (uint_Tells w64, (uint_Tells w64, tt)))))) (λ κs qs bounds a ghost are.
    let y : (walk_of 𝓛 goal kept_of c).Ghost = ((κs, qs, bounds, a, (vptr a.0.ref_ptr.0 a.0.ref_ptr.1 ∷ [], (vint w64 a.1.0 ∷ [], (place_val a.1.1.0.ptr ∷ [], (vint w64 a.1.1.1.0 ∷ [], (vint w64 a.1.1.1.1.0 ∷ [], tt)))))), ghost) in let Post : Val → SProp 𝓤 = (walk_of 𝓛 goal kept_of c).post y in
    let b' : ℕ = a.0.ref_ptr.0 in let o' : ℕ = a.0.ref_ptr.1 in let h : Chain.Denot = a.0.now in let bs : List (Block S.Denot) = h.blocks in let token : Ty → Ptr → Fml = ga.dealloc_token h.heap in let k : ℕ = a.1.0 in let p : Ptr = a.1.1.0.ptr in let i : ℕ = a.1.1.1.0 in let n : ℕ = a.1.1.1.1.0 in
    let Asked : Type 0 = InBlock p × HoldsWord bs k p i in let others : Fml = fsep (flft κs.1.0 qs.1.0) (fsep (flft κs.1.1.0 qs.1.1.0) (ftrue)) in let h' : Chain.Denot = record { marker = h.marker; heap = h.heap; blocks = with_word bs k i n } in
    let e : ℕ = i * 8 + (count_of p + 8) in let b : ℕ = block_of p in let Ensured : Type 0 = (h.heap ≡ h.heap) × (h'.blocks ≡ h'.blocks) in let Again = blocks.Reworded 𝓛 R token bs k p i in
    qed 𝓛 (((‵ (flft κs.0 qs.0) ⊛ ‵ others) ⊛ ‵ (owns (types_at goal.signature.params κs) a y.0.4)) ∷ raw (fact 𝓤 _) ∷ raw (fact 𝓤 _) ∷ raw (fact 𝓤 Asked) ∷ []) ∵
    keep ! (3 ∷ 0 ∷ []) $ heard ! Asked (λ asked. takes_ref ! $
    enters_at ! p asked.0 𝓣.C 𝓣.Λ mir (λ u. vptr a.0.ref_ptr.0 a.0.ref_ptr.1 ∷ vint w64 a.1.0 ∷ place_val u ∷ vint w64 a.1.1.1.0 ∷ vint w64 a.1.1.1.1.0 ∷ []) Post $
    alloc_all ! (λ l. pass_all ! refl
    ((tt, tt), ((tt, record { fits = are.1.0.1 }), ((tt, (tt, tt)), ((tt, record { fits = are.1.1.1.0.1 }), ((tt, record { fits = are.1.1.1.1.0.1 }), tt))))) $
    let locals = env mir.locals l in
    opens_ref ! tt Chain h b' o' (λ ts. refl) (λ ts. use1 𝓛 (given (i < SLOTS) (‵ (word b e (word_of bs k i)) ⊛ raw (all 𝓤 Again))) (blocks.word_at 𝓛 R token bs k p i (λ so. asked.1.1) asked.1.0) $ learn ! (λ near. split ! $
    let small : i * 8 < 2 ^ 64 = omega (arith, near) in first ! $ blocks ! $ sets ! (addr ! (from ! (fld ! refl (hop ! (look_in_at ! 3 (sub ! 0 refl (all_of_it !))) (fld ! refl (stop !)))))) refl (tt, tt) $
    sets ! (bin ! (get ! refl) (lit ! tt) (record { fits = small })) refl (tt, record { fits = small }) $ sets ! (bin ! (get ! refl) (get ! refl) tt) refl (tt, tt) $
    assigns_last ! (of_opd ! (get ! refl)) (through ! refl (stop !)) (store ! 0 refl (tt, record { fits = are.1.1.1.1.0.1 })) $ exec ! 𝓣.C 𝓣.Λ locals (after 1 mir.body) (at_ret locals Post) $ sets ! (of_opd ! (unit_lit !)) refl (tt, tt) $
    puts_back ! (word b e) (λ x. chain_owns R token (with_word bs k i x)) n $ shuts_ref ! tt Chain h' ts b' o' 4 refl refl $ tells ! Ensured (refl, refl) $ feq_i ! (List Val) (vunit ∷ []) (vunit ∷ []) refl $
    returns ! (look_at ! 0 refl) $ free_all ! refl $ keep ! (2 ∷ 3 ∷ 0 ∷ 1 ∷ []) $ by ! (leaves 𝓛 goal kept_of c y vunit tt (h', (tt, (tt, (tt, (tt, tt))))) (tt, (tt, (tt, (tt, (tt, tt)))))))))))
