-- `get` hands on the `&` to a value in a slot that a `&` to the chain holds.
use Rattle.mem_blocks.proofs.Walks.{ℕ, ◌+◌, ◌*◌, ◌^◌, ◌<◌, ◌≤◌, List, [], ◌∷◌, sym, refl, ap, subst, arith, w64, Some, mul-le-mul_right, a_type, dcons, dnil, named, Val, vint, vptr, inst_fn, SProp, Fml, ftrue, fsep, flft, ‵, raw, ◌⊛◌, given, at_ret}
use Rattle.mem_blocks.proofs.Walks.{◌$◌, ◌∵◌, !, qed, by, move, keep, drop, use1, split, join, fsplit, fjoin, feq_i, learn, stop, fld, addr, size_word, of_opd, bin, first, blocks, exec, returns, alloc_all, pass_all, free_all, look_at, get, get_in}
use Rattle.mem_blocks.proofs.Walks.{through, sets, sets_last, is, env, sub, all_of_it, tables, fact, yes, no, RattleType, owns, types_at, plain, mem, Ptr, block_of, count_of, InBlock, unhide, heard, param, bounded, RefOf, u64, usize, shr_vals}
use Rattle.mem_blocks.proofs.Walks.{shr_Tells, uint_vals, uint_Tells, Stays, stay_dropped, walk_of, Goes-dropped, proved, leaves, Block, Lives, Rests, Small, slots_at, SLOTS, after, place_val, place_values, full_product, tells, spends, enters_at}
use denote.{Memory.shared_of, Opens.hide}
use Rattle.mem_blocks.specs.contracts.block.BlockPtr as link
use Rattle.mem_blocks.specs.contracts.chain.Chain as chain
use Rattle.mem_blocks.proofs.{Lent.slot_seen, chain.Chain.get.Statement.statement}
use Rattle.mem_blocks.specs.contracts.chain.Chain.get.{ended, clauses, Key.name as #self}
use Rattle.mem_blocks.proofs.chain.Chain.get.Code as code

pub get_spec : {M : Type 1} → statement M
get_spec 𝓤 𝓛 𝓜 𝓡 wired S A L _ ga da dd _ _ =
    let H = 𝓛.H in let 𝓣 = tables 𝓤 H 𝓜 𝓡 𝓡.env in let R : RattleType = param 0 S in let Z : RattleType = param 1 A in let Chain : RattleType = chain.the_row R Z ga in let BlockPtr : RattleType = link.the_row R in let goal = ended S A ga da dd in let c = clauses S A ga da dd 𝓛 𝓜.mem 𝓡.returns in
    let at_types = bounded (a_type ∷ a_type ∷ []) (S, (A, tt)) (dcons da (dcons dd dnil)) in let mir = inst_fn at_types code.function in
    let kept_of : Stays goal.signature.params goal.kept = (stay_dropped (RefOf (0 ∷ []) tt (plain (λ _. Chain)) (λ _. tt)) yes, (stay_dropped (plain (λ _. u64)) yes, (stay_dropped (plain (λ _. BlockPtr)) no, (stay_dropped (plain (λ _. usize)) yes, tt)))) in
    proved 𝓛 goal kept_of c 𝓜 𝓡 (
      Goes-dropped 𝓛 3 (RefOf (0 ∷ []) tt (plain (λ _. Chain)) (λ _. tt)) yes (λ κs x f. refl),
      (Goes-dropped 𝓛 3 (plain (λ _. u64)) yes (λ κs x f. refl), (Goes-dropped 𝓛 3 (plain (λ _. BlockPtr)) no (λ κs x f. refl), (Goes-dropped 𝓛 3 (plain (λ _. usize)) yes (λ κs x f. refl), tt))),
    ) (#self at_types) mir
    (code.unfolded 𝓤 H 𝓜 𝓡 wired (S, (A, tt)) da dd) (λ κs. (shr_vals, (uint_vals w64, ((λ x. place_val x.ptr ∷ []), (uint_vals w64, tt)))))
    (λ κs. (shr_Tells (named 0) κs.0 Chain, (uint_Tells w64, (place_values R, (uint_Tells w64, tt))))) (λ κs qs bounds a ghost are.
    let y : (walk_of 𝓛 goal kept_of c).Ghost = ((κs, qs, bounds, a, (vptr a.0.ref_ptr.0 a.0.ref_ptr.1 ∷ [], (vint w64 a.1.0 ∷ [], (place_val a.1.1.0.ptr ∷ [], (vint w64 a.1.1.1.0 ∷ [], tt))))), ghost) in let Post : Val → SProp 𝓤 = (walk_of 𝓛 goal kept_of c).post y in
    let bs : List (Block S.Denot) = a.0.now.blocks in let k : ℕ = a.1.0 in let p : Ptr = a.1.1.0.ptr in let j : ℕ = a.1.1.1.0 in
    let Asked : Type 0 = InBlock p × Lives bs k p × ((x : S.Denot) × Rests bs k j (Some x)) in let others : Fml = fsep (flft κs.1.0 qs.1.0) (fsep (flft κs.1.1.0 qs.1.1.0) (ftrue)) in
    let sz : ℕ = (mem R).size in let b : ℕ = block_of p in let e : ℕ = j * sz + slots_at R (count_of p) in
    qed 𝓛 (((‵ (flft κs.0 qs.0) ⊛ ‵ others) ⊛ ‵ (owns (types_at goal.signature.params κs) a y.0.4)) ∷ raw (fact 𝓤 _) ∷ raw (fact 𝓤 _) ∷ raw (fact 𝓤 Asked) ∷ []) ∵
    keep ! (3 ∷ 0 ∷ []) $ heard ! Asked (λ asked. let x : S.Denot = asked.2.0 in split ! $ split ! $ move ! (2 ∷ []) $ fsplit ! $ fsplit ! $ drop ! $ unhide ! $ fsplit ! $ drop ! $ move ! (1 ∷ []) $ drop ! $
    -- [what the chain shows; the token of the reference; the other tokens]
    use1 𝓛 (given (Small R × (j < SLOTS)) (‵ (shared_of R x b e κs.0))) (slot_seen 𝓛 R κs.0 bs k p j x asked.1 asked.2.1) $ learn ! (λ at. hide ! $
    let near : j < SLOTS = at.1 in let less : j * sz ≤ SLOTS * sz = mul-le-mul_right sz (omega arith) in let tiny : sz < 2 ^ 31 = at.0 in let small : j * sz < 2 ^ 64 = omega arith in
    enters_at ! p asked.0 𝓣.C 𝓣.Λ mir (λ u. vptr a.0.ref_ptr.0 a.0.ref_ptr.1 ∷ vint w64 a.1.0 ∷ place_val u ∷ vint w64 a.1.1.1.0 ∷ []) Post $ alloc_all ! (λ l.
    pass_all ! refl ((tt, tt), ((tt, record { fits = are.1.0.1 }), ((tt, (tt, tt)), ((tt, record { fits = are.1.1.1.0.1 }), tt)))) $ let locals = env mir.locals l in
    first ! $ blocks ! $
    sets ! (of_opd ! (get_in ! (fld ! refl (stop !)) (sub ! 0 refl (all_of_it !)))) refl (tt, tt) $ sets ! (addr ! (through ! refl (fld ! refl (stop !)))) refl (tt, tt) $
    sets ! (is ! (bin ! (get ! refl) (size_word !) (record { fits = subst (λ (n : ℕ). n < 2 ^ 64) (sym (full_product j sz small)) small })) (ap (vint w64) (full_product j sz small))) refl (tt, record { fits = small }) $ sets ! (bin ! (get ! refl) (get ! refl) tt) refl (tt, tt) $
    sets_last ! (addr ! (through ! refl (stop !))) refl (tt, tt) $ exec ! 𝓣.C 𝓣.Λ locals (after 1 mir.body) (at_ret locals Post) $ sets ! (of_opd ! (get ! refl)) refl (tt, tt) $
    feq_i ! (List Val) (vptr b e ∷ []) (vptr b e ∷ []) refl $ fjoin ! $ move ! (1 ∷ 2 ∷ []) $ join ! $ spends ! 4 $ tells ! (Rests bs k j (Some x)) asked.2.1 $
    -- [what is ensured; what is left of the parameters; the tokens; the value]
    returns ! (look_at ! 0 refl) $ free_all ! refl $ keep ! (2 ∷ 1 ∷ 3 ∷ 0 ∷ []) $ by ! (leaves 𝓛 goal kept_of c y (vptr b e) (record { ref_ptr = (b, e); now = x }) (tt, (tt, (tt, (tt, tt)))) (tt, (tt, (tt, (tt, tt)))))))))
