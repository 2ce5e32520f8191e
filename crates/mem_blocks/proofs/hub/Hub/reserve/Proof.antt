-- `reserve` asks the allocator for room, cuts it into the parts of both ends, and writes their links and words.
use Rattle.mem_blocks.proofs.Walks.{◌≡◌, ℕ, ◌+◌, ◌*◌, true, dnil, named, Val, vint, Goes-dropped, Ok, Err, Home, alive_at, Small, SProp, Lft, Share, Fml, at_return, ‵, raw, ◌⊛◌, move, keep, drop, use0, fsplit, fsplit3, fjoin, END_WORDS}
use Rattle.mem_blocks.proofs.Walks.{false, List, [], ◌∷◌, replicate, sym, refl, shr_vals, shr_Tells, hub_rooms, hub_size, ap, arith, lit<, w64, vptr, vstruct, vcons, align, Wp, after_seq, later, at_ret, any_q}
use Rattle.mem_blocks.proofs.Walks.{Ty, Body, a_type, dcons, free_all, look_at, get, vnil, WT, inst_fn, bare, froom, flft, Incl-trans, use1, use2, split, join, and_then, first, blocks, sets_last, lands_as, is, all_of_it, tables, fact}
use Rattle.mem_blocks.proofs.Walks.{ftrue, fsep, fwand, place_made, ok_of, null_ptr, InBlock, Tuple, tuple_type, fpack, await, feq_i, alloc_all, pass_all, head, after, arm_body, ptr_good}
use Rattle.mem_blocks.proofs.Walks.{◌$◌, ◌∵◌, !, qed, by, stop, fld, addr, lit, exec, returns, enter, in_variant, agg, rep, ◌⊑◌, yes, RattleType, makes_shadow, within, blank_val, place_val, err_of, tells, blank}
use Rattle.mem_blocks.proofs.Walks.{of_opd, no_more, get_in, get_tag, init, switches_on, calls_at, Stays, env, live, vrt, Sized, hub_ty, row, proved, leaves, fm}
use Rattle.mem_blocks.proofs.Walks.{assigns_last, assigns, through, sets, spends, Valss, owns, types_at, plain, Ptr, block_ptr, nothing, heard, param, bounded, RefOf, usize, uint_vals, uint_Tells, stay_dropped, walk_of}
use Rattle.std.proofs.alloc.Calls.{Al as Handle, Answer-typed, Takes, at_takes, Answered, Takes-goes, Takes-gives, answers}
use denote.Struct.Declared as declared
use Rattle.std.specs.contracts.result.Result as Res
use Rattle.std.specs.contracts.alloc.AllocError as refusal
use Rattle.mem_blocks.specs.contracts.block.BlockPtr as link
use Rattle.mem_blocks.specs.contracts.block.Loose as loose
use Rattle.mem_blocks.specs.contracts.hub.Hub as hub
use Rattle.mem_blocks.proofs.Rooms as parts
use Rattle.mem_blocks.specs.contracts.hub.Hub.reserve.{ended, clauses, Key.name as #self}
use Rattle.mem_blocks.proofs.hub.Hub.reserve.Statement.{statement}
use Rattle.mem_blocks.proofs.hub.Hub.reserve.Code as code

pub reserve_spec : {M : Type 1} → statement M
reserve_spec 𝓤 𝓛 𝓜 𝓡 wired S A L LA ga da dd met _ =
    let H = 𝓛.H in let 𝓣 = tables 𝓤 H 𝓜 𝓡 𝓡.env in let R : RattleType = param 0 S in let Z : RattleType = param 1 A in
    let BlockPtr : RattleType = link.the_row R in let Loose : RattleType = loose.the_row R Z ga in let Hub : RattleType = hub.the_row R Z ga in let Five : RattleType = Tuple (Hub ∷ BlockPtr ∷ Loose ∷ BlockPtr ∷ Loose ∷ []) in let Out : RattleType = Res.the_row Five refusal.the_row in
    let goal = ended S A ga da dd in let c = clauses S A ga da dd 𝓛 𝓜.mem 𝓡.returns in let at_types = bounded (a_type ∷ a_type ∷ []) (S, (A, tt)) (dcons da (dcons dd dnil)) in let mir = inst_fn at_types code.function in
    let kept_of : Stays goal.signature.params goal.kept = (stay_dropped (RefOf (0 ∷ []) tt (plain (λ _. Z)) (λ _. tt)) yes, (stay_dropped (plain (λ _. usize)) yes, tt)) in
    proved 𝓛 goal kept_of c 𝓜 𝓡 (Goes-dropped 𝓛 3 (RefOf (0 ∷ []) tt (plain (λ _. Z)) (λ _. tt)) yes (λ κs x f. refl), (Goes-dropped 𝓛 3 (plain (λ _. usize)) yes (λ κs x f. refl), tt)) (#self at_types) mir
    (code.unfolded 𝓤 H 𝓜 𝓡 wired (S, (A, tt)) da dd) (λ κs. (shr_vals, (uint_vals w64, tt)))
    (λ κs. (shr_Tells (named 0) κs.0 Z, (uint_Tells w64, tt))) (λ κs qs bounds a ghost are.
    let y : (walk_of 𝓛 goal kept_of c).Ghost = ((κs, qs, bounds, a, (vptr a.0.ref_ptr.0 a.0.ref_ptr.1 ∷ [], (vint w64 a.1.0 ∷ [], tt))), ghost) in let Post : Val → SProp 𝓤 = (walk_of 𝓛 goal kept_of c).post y in
    let handle_of : Handle = record { row = A; laws = LA; g = ga; d = da; drops = dd } in let τ : Ty = hub_ty in let n : ℕ = a.1.0 in let al : ℕ = align τ in let Asked : Type 0 = Small R × (n ≡ hub_size) in
    let place : ℕ × ℕ = a.0.ref_ptr in let heap : A.Denot = a.0.now in let κ : Lft = κs.0 in let q : Share = qs.0 in let token : Ty → Ptr → Fml = ga.dealloc_token heap in let others : Fml = fsep (flft κs.1.0 qs.1.0) (fsep (flft κs.1.1.0 qs.1.1.0) (ftrue)) in
    qed 𝓛 (((‵ (flft κ q) ⊛ ‵ others) ⊛ ‵ (owns (types_at goal.signature.params κs) a y.0.4)) ∷ raw (fact 𝓤 _) ∷ raw (fact 𝓤 (κs.1.1.0 ⊑ A.lives)) ∷ raw (fact 𝓤 Asked) ∷ []) ∵
    keep ! (2 ∷ 3 ∷ 0 ∷ []) $ heard ! (κs.1.1.0 ⊑ A.lives) (λ inside. heard ! Asked (λ asked. let small : Small R = asked.0 in split ! $ split ! $ move ! (2 ∷ []) $ fsplit ! $ fsplit ! $ keep ! (1 ∷ 3 ∷ 4 ∷ []) $
    enter ! 𝓣.C 𝓣.Λ mir (vptr place.0 place.1 ∷ vint w64 n ∷ []) Post $ alloc_all ! (λ l. pass_all ! refl ((tt, tt), ((tt, record { fits = are.1.0.1 }), tt)) $ let locals = env mir.locals l in let both : Body = head (after 1 mir.body) in
    let Then = any_q (after_seq 𝓤 H (Wp 𝓤 H 𝓣.C 𝓣.Λ locals (after 2 mir.body) (at_return 𝓤 H locals Post)) (at_return 𝓤 H locals Post)) in let Takes' = Takes handle_of 𝓛 𝓜.mem 𝓡.returns in let w : Takes'.Ghost = at_takes handle_of 𝓛 𝓜.mem 𝓡.returns κ q place heap n al (bare τ) in
    use2 𝓛 (raw (Takes'.pre w)) (Takes-goes handle_of 𝓛 𝓜.mem 𝓡.returns κ q place heap (Incl-trans bounds.0 inside) n al (bare τ) (sym asked.1) refl are.1.0.1 (lit< tt)) $
    calls_at ! (fm 𝓛 𝓜 𝓡) Takes' (met.allocate dd) w (and_then ! (get ! refl) (and_then ! (get ! refl) (and_then ! (lit ! tt) (no_more !)))) (λ u.
    use1 𝓛 (later (raw (Answered handle_of 𝓛 𝓜.mem 𝓡.returns heap (bare τ) u) ⊛ ‵ (flft κ q))) (Takes-gives handle_of 𝓛 𝓜.mem 𝓡.returns κ q place heap n al (bare τ) u) $ await ! tt $ split ! $ move ! (1 ∷ 2 ∷ []) $ join ! $ move ! (1 ∷ []) $ answers handle_of ! 𝓜.mem 𝓡.returns heap (bare τ) u
    (λ b o e. let p : Ptr = block_ptr b o in let o' : ℕ = o + (8 + END_WORDS * 8) in let p' : Ptr = block_ptr b o' in let ns : List ℕ = replicate END_WORDS 0 in let end : Ptr → Loose.Denot = λ u. record { marker = record {}; heap = heap; at = u; next = null_ptr; words = ns; homes = [] } in
    let x : Hub.Denot = record { marker = record {}; heap = heap; at = p } in let made : Five.Denot = (x, record { ptr = p }, end p, record { ptr = p' }, end p') in let arm : Body = arm_body 0 both in
    let five : Val = vstruct (vcons blank_val (vcons (place_val p) (vcons blank_val (vcons (place_val p') (vcons blank_val vnil))))) in
    let val : Val = live 0 (vcons five vnil) in let five_good : WT five = ((tt, tt), ((tt, tt), ((tt, tt), ((tt, tt), ((tt, tt), tt))))) in
    let good : WT val = (record { fits = lit< tt }, (five_good, tt)) in
    let End : Ptr → Type 0 = λ u. (heap ≡ heap) × (u ≡ u) × (null_ptr ≡ null_ptr) × (ns ≡ ns) × (◌≡◌ {A = List (Home S.Denot)} [] []) in let Both : Type 0 = (heap ≡ heap) × (p ≡ p) × InBlock p × (p' ≡ p') in let flat : o + 0 ≡ o = omega arith in
    use1 𝓛 (‵ (hub_rooms b o) ⊛ ‵ (fwand (hub_rooms b o) (froom (bare τ) b o))) (parts.hub_spreads 𝓛 b o) $ split ! $ move ! (1 ∷ 2 ∷ []) $ fjoin ! $ move ! (1 ∷ []) $ fsplit3 ! $ fsplit3 ! $ move ! (3 ∷ []) $ fsplit3 ! $ move ! (2 ∷ 5 ∷ 6 ∷ []) $ drop ! $ drop ! $ drop ! $
    -- [the head's link and words; the tail's link and words; the right to free them; the tokens]
    lands_as ! e refl (Answer-typed true b o) $ first ! $ switches_on ! (get_tag ! (vrt ! refl (fld ! refl (stop !))) (all_of_it !)) $ exec ! 𝓣.C 𝓣.Λ locals arm Then $
    sets ! (of_opd ! (get_in ! (vrt ! refl (fld ! refl (stop !))) (in_variant ! 0 0 refl refl (all_of_it !)))) refl (tt, tt) $ sets ! (of_opd ! (get ! refl)) refl (tt, tt) $
    first ! $ blocks ! $ sets_last ! (is ! (addr ! (through ! refl (fld ! refl (stop !)))) (ap (vptr b) flat)) refl (tt, tt) $ exec ! 𝓣.C 𝓣.Λ locals (after 3 arm) Then $ sets ! (of_opd ! (get ! refl)) refl (tt, tt) $
    first ! $ blocks ! $ sets_last ! (addr ! (through ! refl (fld ! refl (stop !)))) refl (tt, tt) $ exec ! 𝓣.C 𝓣.Λ locals (after 5 arm) Then $ sets ! (of_opd ! (get ! refl)) refl (tt, tt) $ first ! $ blocks ! $
    sets ! (addr ! (through ! refl (fld ! refl (stop !)))) refl (tt, tt) $ assigns ! (of_opd ! (lit ! tt)) (through ! refl (stop !)) (init ! 2 refl (ptr_good null_ptr)) $
    sets ! (addr ! (through ! refl (fld ! refl (stop !)))) refl (tt, tt) $ sets ! (rep ! END_WORDS (lit ! tt)) refl parts.end_zeros_good $ assigns ! (of_opd ! (get ! refl)) (through ! refl (stop !)) (init ! 3 refl parts.end_zeros_good) $
    sets ! (addr ! (through ! refl (fld ! refl (stop !)))) refl (tt, tt) $ assigns ! (of_opd ! (lit ! tt)) (through ! refl (stop !)) (init ! 0 refl (ptr_good null_ptr)) $
    sets ! (addr ! (through ! refl (fld ! refl (stop !)))) refl (tt, tt) $ sets ! (rep ! END_WORDS (lit ! tt)) refl parts.end_zeros_good $ assigns_last ! (of_opd ! (get ! refl)) (through ! refl (stop !)) (init ! 1 refl parts.end_zeros_good) $
    exec ! 𝓣.C 𝓣.Λ locals (after 7 arm) Then $ sets ! (agg ! (no_more !)) refl (tt, tt) $ sets ! (agg ! (no_more !)) refl (tt, tt) $ sets ! (agg ! (and_then ! (get ! refl) (no_more !))) refl (tt, (tt, tt)) $
    sets ! (of_opd ! (get ! refl)) refl (tt, tt) $ sets ! (agg ! (and_then ! (get ! refl) (no_more !))) refl (tt, (tt, tt)) $ sets ! (agg ! (and_then ! (get ! refl) (no_more !))) refl (tt, (tt, tt)) $
    sets ! (of_opd ! (get ! refl)) refl (tt, tt) $ sets ! (agg ! (and_then ! (get ! refl) (no_more !))) refl (tt, (tt, tt)) $ sets ! (agg ! (and_then ! (get ! refl) (no_more !))) refl (tt, (tt, tt)) $
    sets ! (agg ! (and_then ! (get ! refl) (and_then ! (get ! refl) (and_then ! (get ! refl) (and_then ! (get ! refl) (and_then ! (get ! refl) (no_more !))))))) refl (tt, five_good) $
    sets_last ! (agg ! (and_then ! (lit ! tt) (and_then ! (get ! refl) (no_more !)))) refl (tt, good) $ exec ! 𝓣.C 𝓣.Λ locals (after 2 mir.body) (at_ret locals Post) $ sets ! (of_opd ! (get ! refl)) refl (tt, good) $
    move ! (1 ∷ []) $ use1 𝓛 (‵ (row b (o' + 8) ns)) (parts.zeroed 𝓛 END_WORDS b (o' + 8)) $
    nothing ! $ nothing ! $ fjoin ! $ move ! (1 ∷ 0 ∷ []) $ fjoin ! $ move ! (1 ∷ 0 ∷ []) $
    fjoin ! $ nothing ! $ fpack ! (Sized R (alive_at p' null_ptr ns [])) (λ _. ftrue) (tt, small, refl, omega arith) $ fjoin ! $ blank ! (Tuple (R ∷ Z ∷ [])) $
    move ! (2 ∷ []) $ use1 𝓛 (‵ (row b (o + 8) ns)) (parts.zeroed 𝓛 END_WORDS b (o + 8)) $
    nothing ! $ nothing ! $ fjoin ! $ move ! (1 ∷ 0 ∷ []) $ fjoin ! $ move ! (2 ∷ 0 ∷ []) $
    fjoin ! $ nothing ! $ fpack ! (Sized R (alive_at p null_ptr ns [])) (λ _. ftrue) (tt, small, refl, omega arith) $ fjoin ! $ blank ! (Tuple (R ∷ Z ∷ [])) $
    move ! (2 ∷ []) $ blank ! (Tuple (R ∷ Z ∷ [])) $ nothing ! $ move ! (3 ∷ 0 ∷ []) $ fjoin ! $ use0 𝓛 (‵ (BlockPtr.own_val (record { ptr = p' }) (place_val p' ∷ []))) (place_made R 𝓛 p') $ fjoin ! $ move ! (2 ∷ 0 ∷ []) $ fjoin ! $
    use0 𝓛 (‵ (BlockPtr.own_val (record { ptr = p }) (place_val p ∷ []))) (place_made R 𝓛 p) $ fjoin ! $ move ! (1 ∷ 0 ∷ []) $ fjoin ! $ feq_i ! (List Val) (five ∷ []) (five ∷ []) refl $ fjoin ! $
    fpack ! (Valss (Hub ∷ BlockPtr ∷ Loose ∷ BlockPtr ∷ Loose ∷ [])) (within (declared.shape (tuple_type (Hub ∷ BlockPtr ∷ Loose ∷ BlockPtr ∷ Loose ∷ [])))
    (x, (record { ptr = p }, (end p, (record { ptr = p' }, (end p', tt))))) (five ∷ []))
    (blank_val ∷ [], (place_val p ∷ [], (blank_val ∷ [], (place_val p' ∷ [], (blank_val ∷ [], tt))))) $
    use1 𝓛 (‵ (Out.own_val (Ok made) (val ∷ []))) (ok_of 𝓛 Five refusal.the_row made five) $ tells ! (End p') (refl, refl, refl, refl, refl) $ tells ! (End p) (refl, refl, refl, refl, refl) $ join ! $ tells ! Both (refl, refl, tt, refl) $ join ! $ spends ! 2 $
    returns ! (look_at ! 0 refl) $ free_all ! refl $ keep ! (3 ∷ 0 ∷ 2 ∷ 1 ∷ []) $ by ! (leaves 𝓛 goal kept_of c y val (Ok made) (tt, (tt, tt)) (tt, (tt, tt))))
    (λ e. let val : Val = live 1 (vcons (vstruct vnil) vnil) in let good : WT val = (record { fits = lit< tt }, (tt, tt)) in let F : Fml = refusal.the_row.own_val (record {}) (vstruct vnil ∷ []) in let Nil : Type 0 = Unit {0} in
    lands_as ! e refl (Answer-typed false 0 0) $ first ! $ switches_on ! (get_tag ! (vrt ! refl (fld ! refl (stop !))) (all_of_it !)) $ exec ! 𝓣.C 𝓣.Λ locals (arm_body 1 both) Then $
    sets ! (of_opd ! (get_in ! (vrt ! refl (fld ! refl (stop !))) (in_variant ! 1 0 refl refl (all_of_it !)))) refl (tt, tt) $
    sets_last ! (agg ! (and_then ! (lit ! tt) (and_then ! (get ! refl) (no_more !)))) refl (tt, good) $ exec ! 𝓣.C 𝓣.Λ locals (after 2 mir.body) (at_ret locals Post) $ sets ! (of_opd ! (get ! refl)) refl (tt, good) $
    use0 𝓛 (‵ F) (makes_shadow 𝓛 F (λ uss. (tt, tt)) (tt, (refl, tt))) $ use1 𝓛 (‵ (Out.own_val (Err (record {})) (val ∷ []))) (err_of 𝓛 Five refusal.the_row (record {}) (vstruct vnil)) $ tells ! Nil tt $ tells ! Nil tt $ join ! $ tells ! Nil tt $ join ! $ spends ! 2 $
    returns ! (look_at ! 0 refl) $ free_all ! refl $ keep ! (3 ∷ 0 ∷ 2 ∷ 1 ∷ []) $ by ! (leaves 𝓛 goal kept_of c y val (Err (record {})) (tt, (tt, tt)) (tt, (tt, tt)))))))))
