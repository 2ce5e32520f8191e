-- `reserve` asks the allocator for room, cuts it into the parts of a block, and writes the link and the words.
use Rattle.mem_blocks.proofs.Walks.{◌≡◌, ℕ, ◌+◌, true, WT, inst_fn, bare, no_more, and_then, init, switches_on, named, Val, vptr, after, arm_body, get_in, get_tag, calls_at, Stays}
use Rattle.mem_blocks.proofs.Walks.{false, List, [], ◌∷◌, ptr_good, blank_val, vstruct, vcons, vnil, by, move, keep, drop, first, blocks, exec, alloc_all, pass_all, shr_vals, shr_Tells, slots_own, block_ty}
use Rattle.mem_blocks.proofs.Walks.{replicate, refl, ap, rooms, SLOTS, head, a_type, dcons, dnil, size, align, capped, ftrue, fsep, fwand, align_word, of_opd, null_ptr, InBlock, Tuple, tuple_type}
use Rattle.mem_blocks.proofs.Walks.{arith, lit<, Ty, Body, capped_fits, size-raw, makes_shadow, within, ok_of, err_of, tells, fjoin, fjoin3, fpack, addr, lit, size_word, in_variant, agg, rep, ◌⊑◌, yes, RattleType}
use Rattle.mem_blocks.proofs.Walks.{SProp, Lft, Share, Fml, free_all, look_at, get, Home, alive_at, vacant, Small, Sized, slots_at, froom, flft, Incl-trans, after_seq, at_return, ‵, raw, ◌⊛◌, later, at_ret, any_q, ◌$◌, ◌∵◌, !, qed}
use Rattle.mem_blocks.proofs.Walks.{align-raw, Wp, through, sets, row, proved, leaves, fm, returns, enter, blank, spends, env, live, vrt, bounded, RefOf}
use Rattle.mem_blocks.proofs.Walks.{use0, use1, use2, split, await, feq_i, stop, fld, sets_last, lands_as, is, all_of_it, tables, fact}
use Rattle.mem_blocks.proofs.Walks.{join, fsplit, fsplit3, assigns_last, assigns, Valss, owns, types_at, plain, Ptr, block_ptr, nothing, heard, param, stay_dropped, walk_of, Goes-dropped, Ok, Err, place_val, place_made}
use Rattle.std.proofs.alloc.Calls.{Al as Handle, Answer-typed, Takes, at_takes, Answered, Takes-goes, Takes-gives, answers}
use denote.Struct.Declared as declared
use Rattle.std.specs.contracts.result.Result as Res
use Rattle.std.specs.contracts.alloc.AllocError as refusal
use Rattle.mem_blocks.specs.contracts.block.BlockPtr as link
use Rattle.mem_blocks.specs.contracts.block.Loose as loose
use Rattle.mem_blocks.proofs.Rooms as parts
use Rattle.mem_blocks.specs.contracts.block.Loose.reserve.{ended, clauses, Key.name as #self}
use Rattle.mem_blocks.proofs.block.Loose.reserve.Statement.{statement}
use Rattle.mem_blocks.proofs.block.Loose.reserve.Code as code

pub reserve_spec : {M : Type 1} → statement M
reserve_spec 𝓤 𝓛 𝓜 𝓡 wired S A L LA ga da dd met _ =
    let H = 𝓛.H in let 𝓣 = tables 𝓤 H 𝓜 𝓡 𝓡.env in let R : RattleType = param 0 S in let Z : RattleType = param 1 A in
    let BlockPtr : RattleType = link.the_row R in let Loose : RattleType = loose.the_row R Z ga in let Two : RattleType = Tuple (BlockPtr ∷ Loose ∷ []) in let Out : RattleType = Res.the_row Two refusal.the_row in let goal = ended S A ga da dd in let c = clauses S A ga da dd 𝓛 𝓜.mem 𝓡.returns in
    let at_types = bounded (a_type ∷ a_type ∷ []) (S, (A, tt)) (dcons da (dcons dd dnil)) in let mir = inst_fn at_types code.function in
    let kept_of : Stays goal.signature.params goal.kept = (stay_dropped (RefOf (0 ∷ []) tt (plain (λ _. Z)) (λ _. tt)) yes, tt) in
    proved 𝓛 goal kept_of c 𝓜 𝓡 (Goes-dropped 𝓛 3 (RefOf (0 ∷ []) tt (plain (λ _. Z)) (λ _. tt)) yes (λ κs x f. refl), tt) (#self at_types) mir
    (code.unfolded 𝓤 H 𝓜 𝓡 wired (S, (A, tt)) da dd) (λ κs. (shr_vals, tt))
    (λ κs. (shr_Tells (named 0) κs.0 Z, tt)) (λ κs qs bounds a ghost are.
    let y : (walk_of 𝓛 goal kept_of c).Ghost = ((κs, qs, bounds, a, (vptr a.0.ref_ptr.0 a.0.ref_ptr.1 ∷ [], tt)), ghost) in let Post : Val → SProp 𝓤 = (walk_of 𝓛 goal kept_of c).post y in
    let handle_of : Handle = record { row = A; laws = LA; g = ga; d = da; drops = dd } in let τ : Ty = block_ty R in let n : ℕ = capped (size τ) in let al : ℕ = capped (align τ) in
    let place : ℕ × ℕ = a.0.ref_ptr in let heap : A.Denot = a.0.now in let κ : Lft = κs.0 in let q : Share = qs.0 in let token : Ty → Ptr → Fml = ga.dealloc_token heap in let others : Fml = fsep (flft κs.1.0 qs.1.0) (fsep (flft κs.1.1.0 qs.1.1.0) (ftrue)) in
    qed 𝓛 (((‵ (flft κ q) ⊛ ‵ others) ⊛ ‵ (owns (types_at goal.signature.params κs) a y.0.4)) ∷ raw (fact 𝓤 _) ∷ raw (fact 𝓤 (κs.1.1.0 ⊑ A.lives)) ∷ raw (fact 𝓤 (Small R)) ∷ []) ∵
    keep ! (2 ∷ 3 ∷ 0 ∷ []) $ heard ! (κs.1.1.0 ⊑ A.lives) (λ inside. heard ! (Small R) (λ small. split ! $ split ! $ move ! (2 ∷ []) $ fsplit ! $ fsplit ! $ keep ! (1 ∷ 3 ∷ 4 ∷ []) $
    enter ! 𝓣.C 𝓣.Λ mir (vptr place.0 place.1 ∷ []) Post $ alloc_all ! (λ l. pass_all ! refl ((tt, tt), tt) $ let locals = env mir.locals l in let both : Body = head (after 1 mir.body) in
    let Then = any_q (after_seq 𝓤 H (Wp 𝓤 H 𝓣.C 𝓣.Λ locals (after 2 mir.body) (at_return 𝓤 H locals Post)) (at_return 𝓤 H locals Post)) in let Asked = Takes handle_of 𝓛 𝓜.mem 𝓡.returns in let w : Asked.Ghost = at_takes handle_of 𝓛 𝓜.mem 𝓡.returns κ q place heap n al (bare τ) in
    use2 𝓛 (raw (Asked.pre w)) (Takes-goes handle_of 𝓛 𝓜.mem 𝓡.returns κ q place heap (Incl-trans bounds.0 inside) n al (bare τ) (ap capped (size-raw τ)) (ap capped (align-raw τ)) (capped_fits (size τ)) (capped_fits (align τ))) $
    calls_at ! (fm 𝓛 𝓜 𝓡) Asked (met.allocate dd) w (and_then ! (get ! refl) (and_then ! (size_word !) (and_then ! (align_word !) (no_more !)))) (λ u.
    use1 𝓛 (later (raw (Answered handle_of 𝓛 𝓜.mem 𝓡.returns heap (bare τ) u) ⊛ ‵ (flft κ q))) (Takes-gives handle_of 𝓛 𝓜.mem 𝓡.returns κ q place heap n al (bare τ) u) $ await ! tt $ split ! $ move ! (1 ∷ 2 ∷ []) $ join ! $ move ! (1 ∷ []) $ answers handle_of ! 𝓜.mem 𝓡.returns heap (bare τ) u
    (λ b o e. let p : Ptr = block_ptr b o in let ns : List ℕ = replicate SLOTS 0 in let hs₀ : List (Home S.Denot) = replicate SLOTS vacant in let r : Loose.Denot = record { marker = record {}; heap = heap; at = p; next = null_ptr; words = ns; homes = hs₀ } in
    let pair : Val = vstruct (vcons (place_val p) (vcons blank_val vnil)) in let val : Val = live 0 (vcons pair vnil) in let good : WT val = (record { fits = lit< tt }, (((tt, tt), ((tt, tt), tt)), tt)) in let arm : Body = arm_body 0 both in
    let Ensured : Type 0 = (heap ≡ heap) × (p ≡ p) × InBlock p × (null_ptr ≡ null_ptr) × (ns ≡ ns) × (hs₀ ≡ hs₀) in let flat : o + 0 ≡ o = omega arith in
    use1 𝓛 (‵ (rooms R b o) ⊛ ‵ (fwand (rooms R b o) (froom (bare τ) b o))) (parts.spreads 𝓛 R token b o) $ split ! $ move ! (1 ∷ 2 ∷ []) $ fjoin ! $ move ! (1 ∷ []) $ fsplit ! $ fsplit3 ! $ move ! (2 ∷ []) $ drop ! $
    -- [the link's room; the words' room; the slots' room; the rim; the tokens]
    lands_as ! e refl (Answer-typed true b o) $ first ! $ switches_on ! (get_tag ! (vrt ! refl (fld ! refl (stop !))) (all_of_it !)) $ exec ! 𝓣.C 𝓣.Λ locals arm Then $
    sets ! (of_opd ! (get_in ! (vrt ! refl (fld ! refl (stop !))) (in_variant ! 0 0 refl refl (all_of_it !)))) refl (tt, tt) $ sets ! (of_opd ! (get ! refl)) refl (tt, tt) $
    first ! $ blocks ! $ sets_last ! (is ! (addr ! (through ! refl (fld ! refl (stop !)))) (ap (vptr b) flat)) refl (tt, tt) $ exec ! 𝓣.C 𝓣.Λ locals (after 3 arm) Then $ sets ! (of_opd ! (get ! refl)) refl (tt, tt) $
    first ! $ blocks ! $ sets ! (addr ! (through ! refl (fld ! refl (stop !)))) refl (tt, tt) $ assigns ! (of_opd ! (lit ! tt)) (through ! refl (stop !)) (init ! 0 refl (ptr_good null_ptr)) $
    sets ! (addr ! (through ! refl (fld ! refl (stop !)))) refl (tt, tt) $ sets ! (rep ! SLOTS (lit ! tt)) refl parts.zeros_good $
    assigns_last ! (of_opd ! (get ! refl)) (through ! refl (stop !)) (init ! 1 refl parts.zeros_good) $ exec ! 𝓣.C 𝓣.Λ locals (after 5 arm) Then $
    sets ! (agg ! (no_more !)) refl (tt, tt) $ sets ! (agg ! (and_then ! (get ! refl) (no_more !))) refl (tt, (tt, tt)) $ sets ! (agg ! (and_then ! (get ! refl) (no_more !))) refl (tt, (tt, tt)) $
    sets ! (agg ! (and_then ! (get ! refl) (and_then ! (get ! refl) (no_more !)))) refl (tt, ((tt, tt), ((tt, tt), tt))) $
    sets_last ! (agg ! (and_then ! (lit ! tt) (and_then ! (get ! refl) (no_more !)))) refl (tt, good) $ exec ! 𝓣.C 𝓣.Λ locals (after 2 mir.body) (at_ret locals Post) $ sets ! (of_opd ! (get ! refl)) refl (tt, good) $
    move ! (2 ∷ []) $ fsplit ! $ use1 𝓛 (‵ (slots_own R hs₀ b (slots_at R o))) (parts.emptied 𝓛 R token SLOTS b (slots_at R o)) $ move ! (3 ∷ []) $ use1 𝓛 (‵ (row b (o + 8) ns)) (parts.zeroed 𝓛 SLOTS b (o + 8)) $
    move ! (0 ∷ 1 ∷ 4 ∷ []) $ fjoin3 ! $ move ! (1 ∷ []) $ fpack ! (Sized R (alive_at p null_ptr ns hs₀)) (λ _. ftrue) (tt, small, refl, omega arith) $ move ! (0 ∷ 2 ∷ 1 ∷ []) $ fjoin3 ! $ blank ! (Tuple (R ∷ Z ∷ [])) $ nothing ! $ move ! (1 ∷ 0 ∷ []) $ fjoin ! $
    use0 𝓛 (‵ (BlockPtr.own_val (record { ptr = p }) (place_val p ∷ []))) (place_made R 𝓛 p) $ fjoin ! $ feq_i ! (List Val) (pair ∷ []) (pair ∷ []) refl $ fjoin ! $
    fpack ! (Valss (BlockPtr ∷ Loose ∷ [])) (within (declared.shape (tuple_type (BlockPtr ∷ Loose ∷ []))) (record { ptr = p }, (r, tt)) (pair ∷ [])) (place_val p ∷ [], (blank_val ∷ [], tt)) $
    use1 𝓛 (‵ (Out.own_val (Ok (record { ptr = p }, r)) (val ∷ []))) (ok_of 𝓛 Two refusal.the_row (record { ptr = p }, r) pair) $ tells ! Ensured (refl, refl, tt, refl, refl, refl) $ spends ! 1 $
    returns ! (look_at ! 0 refl) $ free_all ! refl $ keep ! (3 ∷ 0 ∷ 2 ∷ 1 ∷ []) $ by ! (leaves 𝓛 goal kept_of c y val (Ok (record { ptr = p }, r)) (tt, tt) (tt, tt)))
    (λ e. let val : Val = live 1 (vcons (vstruct vnil) vnil) in let good : WT val = (record { fits = lit< tt }, (tt, tt)) in let F : Fml = refusal.the_row.own_val (record {}) (vstruct vnil ∷ []) in
    lands_as ! e refl (Answer-typed false 0 0) $ first ! $ switches_on ! (get_tag ! (vrt ! refl (fld ! refl (stop !))) (all_of_it !)) $ exec ! 𝓣.C 𝓣.Λ locals (arm_body 1 both) Then $
    sets ! (of_opd ! (get_in ! (vrt ! refl (fld ! refl (stop !))) (in_variant ! 1 0 refl refl (all_of_it !)))) refl (tt, tt) $
    sets_last ! (agg ! (and_then ! (lit ! tt) (and_then ! (get ! refl) (no_more !)))) refl (tt, good) $ exec ! 𝓣.C 𝓣.Λ locals (after 2 mir.body) (at_ret locals Post) $ sets ! (of_opd ! (get ! refl)) refl (tt, good) $
    use0 𝓛 (‵ F) (makes_shadow 𝓛 F (λ uss. (tt, tt)) (tt, (refl, tt))) $ use1 𝓛 (‵ (Out.own_val (Err (record {})) (val ∷ []))) (err_of 𝓛 Two refusal.the_row (record {}) (vstruct vnil)) $ tells ! (Unit {0}) tt $ spends ! 1 $
    returns ! (look_at ! 0 refl) $ free_all ! refl $ keep ! (3 ∷ 0 ∷ 2 ∷ 1 ∷ []) $ by ! (leaves 𝓛 goal kept_of c y val (Err (record {})) (tt, tt) (tt, tt))))))))
