-- `test` of a `&` is that of the allocator behind it.
use Rattle.mem_blocks.proofs.Walks.{◌≡◌, ℕ, List, [], ◌∷◌, refl, a_type, dcons, dnil, named, Val, vunit, vptr, inst_fn, SProp, Lft, Share, ftrue, flft, Incl-trans, ‵, raw, ◌⊛◌, later, given, ◌$◌, ◌∵◌, !, qed, by, move, keep, drop, use1, use3, split}
use Rattle.mem_blocks.proofs.Walks.{split3, join, fsplit, learn, await, feq_i, stop, of_opd, unit_lit, no_more, and_then, returns, enter, alloc_all, pass_all, free_all, look_at, get, sets, lands_as, tables, fact, ◌⊑◌, yes, RattleType, owns, types_at}
use Rattle.mem_blocks.proofs.Walks.{plain, Ptr, RawPtr, ptr_val, Testable, heard, param, bounded, rawptr_vals, rawptr_Tells, RefOf, shr_vals, calls_at, Stays, stay_dropped, walk_of, Goes-dropped, proved, leaves, fm, ptr_good, tells, spends}
use types.{Run.load, Run.look_raw, ByLocal.through}
use denote.{Ref.ShrRef, Opens.shr_dup, Copied.shr_Copied, Signature.Slot, Steps.looks, Steps.shuts, Steps.tied, Steps.ties}
use Rattle.std.proofs.alloc.Calls.{Al, token}
use Rattle.mem_blocks.proofs.{Tests.Asks, Tests.asked_at, Tests.asks_of, Tests.told_of, null_testable.RefNullTestable.test.Statement.statement}
use Rattle.mem_blocks.specs.contracts.null_testable.RefNullTestable.test.{ended, clauses, Key.name as #self}
use Rattle.mem_blocks.proofs.null_testable.RefNullTestable.test.Code as code

pub test_spec : {M : Type 1} → statement M
test_spec 𝓤 𝓛 𝓜 𝓡 wired Y L gl dl ga da dd metl _ _ =
    let H = 𝓛.H in let 𝓣 = tables 𝓤 H 𝓜 𝓡 𝓡.env in let Z : Al = record { row = Y; laws = L; g = ga; d = da; drops = dd } in let c = clauses Y gl dl ga da dd 𝓛 𝓜.mem 𝓡.returns in let goal = ended Y gl dl ga da dd in
    let at_types = bounded (a_type ∷ []) (Y, tt) (dcons dl (dcons da (dcons dd dnil))) in let mir = inst_fn at_types code.function in let handle : Slot 3 = RefOf (0 ∷ []) tt (RefOf (1 ∷ []) tt (plain (λ _. param 0 Y)) (λ _. tt)) (λ _. tt) in
    let kept_of : Stays goal.signature.params goal.kept = (stay_dropped handle yes, (stay_dropped (plain (λ _. RawPtr)) yes, tt)) in
    proved 𝓛 goal kept_of c 𝓜 𝓡 (Goes-dropped 𝓛 3 handle yes (λ κs x f. refl), (Goes-dropped 𝓛 3 (plain (λ _. RawPtr)) yes (λ κs x f. refl), tt)) (#self at_types) mir (code.unfolded 𝓤 H 𝓜 𝓡 wired (Y, tt) dl da dd)
    (λ κs. (shr_vals, (rawptr_vals, tt))) (λ κs. ((λ r vs s. s.0), (rawptr_Tells, tt))) (λ κs qs bounds a τ are.
    let y : (walk_of 𝓛 goal kept_of c).Ghost = ((κs, qs, bounds, a, (shr_vals a.0, (rawptr_vals a.1.0, tt))), τ) in let Post : Val → SProp 𝓤 = (walk_of 𝓛 goal kept_of c).post y in
    let place : ℕ × ℕ = a.0.ref_ptr in let p : ℕ × ℕ = a.0.now.ref_ptr in let heap : Y.Denot = a.0.now.now in let x : Ptr = a.1.0 in let κ : Lft = κs.1.0 in let q : Share = qs.1.0 in let Inner : RattleType = ShrRef (named 1) κ (param 0 Y) in
    let us : List Val = vptr place.0 place.1 ∷ ptr_val x ∷ [] in let w = asked_at Z gl dl 𝓛 𝓜.mem 𝓡.returns κ q p heap x τ in
    qed 𝓛 (((‵ (flft κs.0 qs.0) ⊛ ‵ (flft κ q) ⊛ ‵ (flft κs.1.1.0 qs.1.1.0) ⊛ ‵ ftrue) ⊛ ‵ (owns (types_at goal.signature.params κs) a y.0.4)) ∷ (raw (fact 𝓤 (κs.1.1.0 ⊑ Y.lives)) ⊛ ‵ (token Z heap τ x)) ∷ []) ∵
    move ! (1 ∷ []) $ split ! $ heard ! (κs.1.1.0 ⊑ Y.lives) (λ inside. move ! (1 ∷ []) $ split ! $ split3 ! $ move ! (3 ∷ []) $ fsplit ! $ fsplit ! $ keep ! (1 ∷ 3 ∷ 4 ∷ 5 ∷ 6 ∷ []) $
    -- [the handle; the tokens of its two lifetimes; the other tokens; the right to free the block]
    enter ! 𝓣.C 𝓣.Λ mir us Post $ alloc_all ! (λ l. pass_all ! refl ((tt, tt), (ptr_good x, tt)) $
    looks ! tt Inner (shr_Copied 𝓛 (named 1) κ (param 0 Y) L.shr_laws).opens a.0.now place.0 place.1 (λ q' vs. tied ! q' Inner.mir vs place.0 place.1 $ move ! (1 ∷ []) $ shr_dup ! (param 0 Y) L.shr_laws heap p.0 p.1 κ $
    sets ! (of_opd ! (load ! (through ! refl (stop !)) (look_raw ! 2 refl))) refl (tt, tt) $
    move ! (2 ∷ 0 ∷ 3 ∷ []) $ ties ! q' Inner.mir (shr_vals a.0.now) place.0 place.1 $ shuts ! tt Inner q' a.0.now (shr_vals a.0.now) place.0 place.1 $
    move ! (2 ∷ []) $ drop ! $ move ! (4 ∷ 1 ∷ 2 ∷ []) $ use3 𝓛 (raw ((Asks Z gl dl 𝓛 𝓜.mem 𝓡.returns).pre w)) (asks_of Z gl dl 𝓛 𝓜.mem 𝓡.returns κ q p heap x τ (Incl-trans bounds.1.0 inside)) $
    calls_at ! (fm 𝓛 𝓜 𝓡) (Asks Z gl dl 𝓛 𝓜.mem 𝓡.returns) (metl.test dd) w (and_then ! (get ! refl) (and_then ! (get ! refl) (no_more !))) (λ v.
    use1 𝓛 (later (given ((v ≡ vunit) × Testable x) (‵ (flft κ q) ⊛ ‵ (token Z heap τ x)))) (told_of Z gl dl 𝓛 𝓜.mem 𝓡.returns κ q p heap x τ v) $ await ! tt $ learn ! (λ so. split ! $
    lands_as ! so.0 refl (tt, tt) $ sets ! (of_opd ! (unit_lit !)) refl (tt, tt) $ move ! (0 ∷ 3 ∷ []) $ join ! $ move ! (2 ∷ 0 ∷ []) $ join ! $ move ! (1 ∷ []) $
    tells ! (Testable x) so.1 $ join ! $ feq_i ! (List Val) (vunit ∷ []) (vunit ∷ []) refl $ spends ! 2 $
    returns ! (look_at ! 0 refl) $ free_all ! refl $ keep ! (3 ∷ 0 ∷ 1 ∷ 2 ∷ []) $ by ! (leaves 𝓛 goal kept_of c y vunit tt (tt, (tt, tt)) (tt, (tt, tt)))))))))
