-- The right to free a block of the usual allocator shows that its place is the start of a block.
use Rattle.mem_blocks.proofs.Walks.{List, [], ◌∷◌, refl, named, Val, vunit, vptr, guard_i, Fml, sem, ‵, raw, ◌⊛◌, given, ◌$◌, ◌∵◌, !, qed, by, move, keep, use1, split, join, learn, feq_i, unit_lit, of_opd, returns, enter, alloc_all, pass_all, free_all, look_at, sets, tables}
use Rattle.mem_blocks.proofs.Walks.{fact_use, yes, owns, types_at, plain, Ptr, RawPtr, ptr_val, Testable, rawptr_vals, rawptr_Tells, RefOf, shr_vals, shr_Tells, alive, Stays, stay_dropped, walk_of, Goes-dropped, proved, leaves, ptr_good, tells, spends}
use Rattle.std.specs.contracts.alloc.Global as heap
use Rattle.std.{specs.contracts.impls.GlobalAllocator.TheImpl.ghosts, proofs.GlobalToken.dealloc_token-Testable}
use Rattle.mem_blocks.specs.contracts.null_testable.GlobalNullTestable.test.{ended, clauses, Key.name as #self}
use Rattle.mem_blocks.proofs.null_testable.GlobalNullTestable.test.Statement.{statement}
use Rattle.mem_blocks.proofs.null_testable.GlobalNullTestable.test.Code as code

pub test_spec : {M : Type 1} → statement M
test_spec 𝓤 𝓛 𝓜 𝓡 wired =
    let H = 𝓛.H in let c = clauses 𝓛 𝓜.mem 𝓡.returns in let handle = RefOf (0 ∷ []) tt (plain (λ _. heap.the_row)) (λ _. tt) in let kept_of : Stays ended.signature.params ended.kept = (stay_dropped handle yes, (stay_dropped (plain (λ _. RawPtr)) yes, tt)) in
    let W = walk_of 𝓛 ended kept_of c in let 𝓣 = tables 𝓤 H 𝓜 𝓡 𝓡.env in proved 𝓛 ended kept_of c 𝓜 𝓡 (Goes-dropped 𝓛 1 handle yes (λ κs x w. refl), (Goes-dropped 𝓛 1 (plain (λ _. RawPtr)) yes (λ κs x w. refl), tt)) #self code.function (code.unfolded 𝓤 H 𝓜 𝓡 wired)
    (λ κs. (shr_vals, (rawptr_vals, tt))) (λ κs. (shr_Tells (named 0) κs.0 heap.the_row, (rawptr_Tells, tt))) (λ κs qs bounds a τ are.
    let p : Ptr = a.1.0 in let token : Fml = ghosts.dealloc_token a.0.now τ p in let us : List Val = vptr a.0.ref_ptr.0 a.0.ref_ptr.1 ∷ ptr_val p ∷ [] in let y : W.Ghost = ((κs, qs, bounds, a, (vptr a.0.ref_ptr.0 a.0.ref_ptr.1 ∷ [], (ptr_val p ∷ [], tt))), τ) in
    qed 𝓛 ((raw (alive 𝓛 ended.signature κs qs) ⊛ ‵ (owns (types_at ended.signature.params κs) a y.0.4)) ∷ ‵ token ∷ []) ∵ split ! $ keep ! (0 ∷ 2 ∷ []) $
    enter ! 𝓣.C 𝓣.Λ code.function us (W.post y) $ alloc_all ! (λ l. pass_all ! refl ((tt, tt), (ptr_good p, tt)) $ sets ! (of_opd ! (unit_lit !)) refl (tt, tt) $ move ! (1 ∷ []) $
    use1 𝓛 (given (Testable p) (‵ token)) (fact_use 𝓤 (Testable p) (dealloc_token-Testable 𝓛 a.0.now τ p) (guard_i 𝓤 (Testable p) (sem 𝓛 token))) $ learn ! (λ low.
    tells ! (Testable p) low $ join ! $ feq_i ! (List Val) (vunit ∷ []) (vunit ∷ []) refl $ spends ! 2 $
    returns ! (look_at ! 0 refl) $ free_all ! refl $ keep ! (3 ∷ 0 ∷ 1 ∷ 2 ∷ []) $ by ! (leaves 𝓛 ended kept_of c y vunit tt (tt, (tt, tt)) (tt, (tt, tt))))))
