-- `test` asks the inner allocator. Assumes `Logic`.
use Rattle.mem_blocks.proofs.Walks.{◌≡◌, ℕ, List, [], ◌∷◌, refl, a_type, dcons, dnil, Val, vunit, vptr, inst_fn, SProp, Lft, Share, ftrue, flft, Incl-trans, ‵, raw, ◌⊛◌, later, given, ◌$◌, ◌∵◌, !, qed, by, move, keep, use1, use3, split, join}
use Rattle.mem_blocks.proofs.Walks.{fsplit, learn, await, feq_i, stop, fld, addr, of_opd, unit_lit, no_more, and_then, returns, enter, alloc_all, pass_all, free_all, look_at, get, sets, lands_as, tables, fact, ◌⊑◌, yes, owns, types_at, plain}
use Rattle.mem_blocks.proofs.Walks.{Ptr, RawPtr, ptr_val, Testable, heard, param, bounded, rawptr_vals, rawptr_Tells, RefOf, shr_vals, calls_at, Stays, stay_dropped, walk_of, Goes-dropped, proved, leaves, fm, ptr_good, tells, spends}
use types.ByLocal.{through}
use denote.{Memory.hidden_shr, Signature.Slot}
use Rattle.std.proofs.alloc.Calls.{Al, seen, token}
use Rattle.mem_blocks.proofs.Tests.{Asks, asked_at, asks_of, told_of}
use Rattle.test_support.proofs.{Tallies.Counted, Tallies.inner_at, Tallies.tally_at, Tallies.fields-seen, allocators.RefusingNullTestable.test.Statement.statement}
use Rattle.test_support.specs.contracts.allocators.Refusing as refusing
use Rattle.test_support.specs.contracts.allocators.RefusingNullTestable.test.{ended, clauses, Key.name as #self}
use Rattle.test_support.proofs.allocators.RefusingNullTestable.test.Code as code

pub test_spec : {M : Type 1} → statement M
test_spec 𝓤 𝓛 𝓜 𝓡 wired Y L gl dl ga da dd metl _ _ =
    let H = 𝓛.H in let 𝓣 = tables 𝓤 H 𝓜 𝓡 𝓡.env in let Z : Al = record { row = Y; laws = L; g = ga; d = da; drops = dd } in let c = clauses Y gl dl ga da dd 𝓛 𝓜.mem 𝓡.returns in let goal = ended Y gl dl ga da dd in
    let at_types = bounded (a_type ∷ []) (Y, tt) (dcons dl (dcons da (dcons dd dnil))) in let mir = inst_fn at_types code.function in let handle : Slot 2 = RefOf (0 ∷ []) tt (plain (λ _. refusing.the_row (param 0 Y))) (λ _. tt) in
    let kept_of : Stays goal.signature.params goal.kept = (stay_dropped handle yes, (stay_dropped (plain (λ _. RawPtr)) yes, tt)) in
    proved 𝓛 goal kept_of c 𝓜 𝓡 (Goes-dropped 𝓛 2 handle yes (λ κs x f. refl), (Goes-dropped 𝓛 2 (plain (λ _. RawPtr)) yes (λ κs x f. refl), tt)) (#self at_types) mir (code.unfolded 𝓤 H 𝓜 𝓡 wired (Y, tt) dl da dd)
    (λ κs. (shr_vals, (rawptr_vals, tt))) (λ κs. ((λ r vs s. s.0), (rawptr_Tells, tt))) (λ κs qs bounds a τ are.
    let y : (walk_of 𝓛 goal kept_of c).Ghost = ((κs, qs, bounds, a, (shr_vals a.0, (rawptr_vals a.1.0, tt))), τ) in let Post : Val → SProp 𝓤 = (walk_of 𝓛 goal kept_of c).post y in
    let place : ℕ × ℕ = a.0.ref_ptr in let p : ℕ × ℕ = inner_at Z place in let t : ℕ × ℕ = tally_at Z place in let heap : Y.Denot = a.0.now.inner in let x : Ptr = a.1.0 in let κ : Lft = κs.0 in let q : Share = qs.0 in
    let us : List Val = vptr place.0 place.1 ∷ ptr_val x ∷ [] in let w = asked_at Z gl dl 𝓛 𝓜.mem 𝓡.returns κ q p heap x τ in
    qed 𝓛 (((‵ (flft κ q) ⊛ ‵ (flft κs.1.0 qs.1.0) ⊛ ‵ ftrue) ⊛ ‵ (owns (types_at goal.signature.params κs) a y.0.4)) ∷ (raw (fact 𝓤 (κs.1.0 ⊑ Y.lives)) ⊛ ‵ (token Z heap τ x)) ∷ []) ∵
    move ! (1 ∷ []) $ split ! $ heard ! (κs.1.0 ⊑ Y.lives) (λ inside. move ! (1 ∷ []) $ split ! $ split ! $ move ! (2 ∷ []) $ fsplit ! $ fsplit ! $ move ! (1 ∷ []) $
    use1 𝓛 (‵ (seen Z κ p heap) ⊛ ‵ (hidden_shr Counted κ a.0.now.tally t.0 t.1)) (fields-seen Z 𝓛 κ place a.0.now) $ split ! $ keep ! (6 ∷ 0 ∷ 4 ∷ 5 ∷ []) $
    -- [the right to free the block; the inner allocator; the token of its lifetime; the other tokens]
    enter ! 𝓣.C 𝓣.Λ mir us Post $ alloc_all ! (λ l. pass_all ! refl ((tt, tt), (ptr_good x, tt)) $
    sets ! (addr ! (through ! refl (fld ! refl (stop !)))) refl (tt, tt) $
    use3 𝓛 (raw ((Asks Z gl dl 𝓛 𝓜.mem 𝓡.returns).pre w)) (asks_of Z gl dl 𝓛 𝓜.mem 𝓡.returns κ q p heap x τ (Incl-trans bounds.0 inside)) $
    calls_at ! (fm 𝓛 𝓜 𝓡) (Asks Z gl dl 𝓛 𝓜.mem 𝓡.returns) (metl.test dd) w (and_then ! (get ! refl) (and_then ! (get ! refl) (no_more !))) (λ v.
    use1 𝓛 (later (given ((v ≡ vunit) × Testable x) (‵ (flft κ q) ⊛ ‵ (token Z heap τ x)))) (told_of Z gl dl 𝓛 𝓜.mem 𝓡.returns κ q p heap x τ v) $ await ! tt $ learn ! (λ so. split ! $
    lands_as ! so.0 refl (tt, tt) $ sets ! (of_opd ! (unit_lit !)) refl (tt, tt) $ move ! (0 ∷ 2 ∷ []) $ join ! $ move ! (1 ∷ []) $
    tells ! (Testable x) so.1 $ join ! $ feq_i ! (List Val) (vunit ∷ []) (vunit ∷ []) refl $ spends ! 2 $
    returns ! (look_at ! 0 refl) $ free_all ! refl $ keep ! (3 ∷ 0 ∷ 1 ∷ 2 ∷ []) $ by ! (leaves 𝓛 goal kept_of c y vunit tt (tt, (tt, tt)) (tt, (tt, tt))))))))
