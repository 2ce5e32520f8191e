-- `give_up` puts the parts of a block together, and gives the room back.
use Rattle.mem_blocks.proofs.Walks.{◌≡◌, ℕ, List, [], ◌∷◌, length, sym, refl, ap, subst, Ty, a_type, dcons, dnil, named, ty_unit, Val, vunit, vptr, has_ty, WT, inst_fn, bare, SProp, Lft, Share, Fml, ftrue, fsep, froom, flft, Incl-trans}
use Rattle.mem_blocks.proofs.Walks.{size, align, capped, capped_fits, size-raw, align-raw, ‵, raw, ◌⊛◌, given, later, at_ret, ◌$◌, ◌∵◌, !, qed, by, move, keep, use1, use3, split, join, fsplit, fsplit3, fjoin, fpick, fpack, learn, await}
use Rattle.mem_blocks.proofs.Walks.{rewrite, feq_i, stop, fld, unit_lit, size_word, align_word, of_opd, no_more, and_then, first, blocks, exec, returns, alloc_all, pass_all, free_all, look_at, get, get_in, sets, lands_last, env, sub}
use Rattle.mem_blocks.proofs.Walks.{all_of_it, tables, fact, ◌⊑◌, yes, no, RattleType, owns, types_at, plain, Ptr, block_ptr, block_of, count_of, at_block, nothing, heard, param, bounded, RefOf, shr_vals, shr_Tells, Tuple, calls_at_last}
use Rattle.mem_blocks.proofs.Walks.{Stays, stay_dropped, walk_of, Goes-dropped, proved, leaves, fm, Block, alive_at, AllVacant, Sized, block_owns, block_ty, SLOTS, after, blank_val, place_val, blank_values, place_values, spends, enters_at}
use Rattle.std.proofs.alloc.Calls.{Al as Handle, at_gives, Gives, Gives-goes, Gives-Gives}
use Rattle.mem_blocks.specs.contracts.block.BlockPtr as link
use Rattle.mem_blocks.specs.contracts.block.Loose as loose
use Rattle.mem_blocks.proofs.Rooms as parts
use Rattle.mem_blocks.specs.contracts.block.Loose.give_up.{ended, clauses, Key.name as #self}
use Rattle.mem_blocks.proofs.block.Loose.give_up.Statement.{statement}
use Rattle.mem_blocks.proofs.block.Loose.give_up.Code as code

pub give_up_spec : {M : Type 1} → statement M
give_up_spec 𝓤 𝓛 𝓜 𝓡 wired S A L LA ga da dd met _ =
    let H = 𝓛.H in let 𝓣 = tables 𝓤 H 𝓜 𝓡 𝓡.env in let R : RattleType = param 0 S in let Z : RattleType = param 1 A in let BlockPtr : RattleType = link.the_row R in let Loose : RattleType = loose.the_row R Z ga in let goal = ended S A ga da dd in let c = clauses S A ga da dd 𝓛 𝓜.mem 𝓡.returns in
    let at_types = bounded (a_type ∷ a_type ∷ []) (S, (A, tt)) (dcons da (dcons dd dnil)) in let mir = inst_fn at_types code.function in
    let kept_of : Stays goal.signature.params goal.kept = (stay_dropped (plain (λ _. Loose)) no, (stay_dropped (RefOf (0 ∷ []) tt (plain (λ _. Z)) (λ _. tt)) yes, (stay_dropped (plain (λ _. BlockPtr)) no, tt))) in
    proved 𝓛 goal kept_of c 𝓜 𝓡 (Goes-dropped 𝓛 3 (plain (λ _. Loose)) no (λ κs x f. refl), (Goes-dropped 𝓛 3 (RefOf (0 ∷ []) tt (plain (λ _. Z)) (λ _. tt)) yes (λ κs x f. refl), (Goes-dropped 𝓛 3 (plain (λ _. BlockPtr)) no (λ κs x f. refl), tt))) (#self at_types) mir
    (code.unfolded 𝓤 H 𝓜 𝓡 wired (S, (A, tt)) da dd) (λ κs. ((λ _. blank_val ∷ []), (shr_vals, ((λ x. place_val x.ptr ∷ []), tt))))
    (λ κs. ((λ x vs so. blank_values (Tuple (R ∷ Z ∷ [])) vs so.0), (shr_Tells (named 0) κs.0 Z, (place_values R, tt)))) (λ κs qs bounds a ghost are.
    let y : (walk_of 𝓛 goal kept_of c).Ghost = ((κs, qs, bounds, a, (blank_val ∷ [], (vptr a.1.0.ref_ptr.0 a.1.0.ref_ptr.1 ∷ [], (place_val a.1.1.0.ptr ∷ [], tt)))), ghost) in let Post : Val → SProp 𝓤 = (walk_of 𝓛 goal kept_of c).post y in
    let handle_of : Handle = record { row = A; laws = LA; g = ga; d = da; drops = dd } in let τ : Ty = block_ty R in let n : ℕ = capped (size τ) in let al : ℕ = capped (align τ) in
    let h : Loose.Denot = a.0 in let place : ℕ × ℕ = a.1.0.ref_ptr in let heap : A.Denot = a.1.0.now in let p : Ptr = a.1.1.0.ptr in let κ : Lft = κs.0 in let q : Share = qs.0 in let token : Ty → Ptr → Fml = ga.dealloc_token heap in
    let others : Fml = fsep (flft κs.1.0 qs.1.0) (fsep (flft κs.1.1.0 qs.1.1.0) (ftrue)) in let Asked : Type 0 = (h.heap ≡ heap) × (h.at ≡ p) × (length h.homes ≡ SLOTS) × AllVacant h.homes in let b : ℕ = block_of p in let o : ℕ = count_of p in let p' : Ptr = block_ptr b o in
    let x : Ptr → Block S.Denot = λ u. alive_at u h.next h.words h.homes in let us : Ptr → List Val = λ u. blank_val ∷ vptr place.0 place.1 ∷ place_val u ∷ [] in
    qed 𝓛 (((‵ (flft κ q) ⊛ ‵ others) ⊛ ‵ (owns (types_at goal.signature.params κs) a y.0.4)) ∷ raw (fact 𝓤 _) ∷ raw (fact 𝓤 (κs.1.1.0 ⊑ A.lives)) ∷ raw (fact 𝓤 Asked) ∷ []) ∵
    keep ! (2 ∷ 3 ∷ 0 ∷ []) $ heard ! (κs.1.1.0 ⊑ A.lives) (λ inside. heard ! Asked (λ asked. split ! $ split ! $ move ! (2 ∷ []) $ fsplit3 ! $ fsplit ! $ move ! (2 ∷ []) $ fsplit ! $ keep ! (3 ∷ 1 ∷ 5 ∷ 6 ∷ []) $
    rewrite ! 0 (λ (u : A.Denot × Ptr). ‵ (block_owns R (ga.dealloc_token u.0) (x u.1))) (λ i. (asked.0 i, asked.1 i)) refl $ fsplit ! $ fpick ! (λ so. fpack ! (Sized R (x p)) (λ _. ftrue) so $ fjoin ! $ rewrite ! 0 (λ (u : Ptr). ‵ (block_owns R token (x u))) (at_block p so.0) refl $
    use1 𝓛 (‵ (froom (bare τ) b o) ⊛ ‵ (token (bare τ) p')) (parts.gathers 𝓛 R token (x p') asked.2 asked.3) $ split ! $
    enters_at ! p so.0 𝓣.C 𝓣.Λ mir us Post $ alloc_all ! (λ l. pass_all ! refl ((tt, (tt, tt)), ((tt, tt), ((tt, (tt, tt)), tt))) $ let locals = env mir.locals l in first ! $ blocks ! $ sets ! (of_opd ! (get_in ! (fld ! refl (stop !)) (sub ! 0 refl (all_of_it !)))) refl (tt, tt) $
    move ! (2 ∷ 3 ∷ []) $ join ! $ move ! (1 ∷ 2 ∷ 0 ∷ []) $ let Asks = Gives handle_of 𝓛 𝓜.mem 𝓡.returns in let w : Asks.Ghost = at_gives handle_of 𝓛 𝓜.mem 𝓡.returns κ q place heap b o n al (bare τ) in
    use3 𝓛 (raw (Asks.pre w)) (Gives-goes handle_of 𝓛 𝓜.mem 𝓡.returns κ q place heap (Incl-trans bounds.0 inside) b o n al (bare τ) (ap capped (size-raw τ)) (ap capped (align-raw τ)) (capped_fits (size τ)) (capped_fits (align τ))) $
    calls_at_last ! (fm 𝓛 𝓜 𝓡) Asks (met.deallocate dd) w (and_then ! (get ! refl) (and_then ! (get ! refl) (and_then ! (size_word !) (and_then ! (align_word !) (no_more !))))) (λ u.
    use1 𝓛 (later (given (u ≡ vunit) (‵ (flft κ q)))) (Gives-Gives handle_of 𝓛 𝓜.mem 𝓡.returns κ q place heap b o n al (bare τ) u) $ await ! tt $ learn ! (λ e. lands_last ! refl (subst (λ (w : Val). lib.Dec.T (has_ty ty_unit w) × WT w) (sym e) (tt, tt)) $
    exec ! 𝓣.C 𝓣.Λ locals (after 1 mir.body) (at_ret locals Post) $ sets ! (of_opd ! (unit_lit !)) refl (tt, tt) $ join ! $ nothing ! $ feq_i ! (List Val) (vunit ∷ []) (vunit ∷ []) refl $ spends ! 3 $
    returns ! (look_at ! 0 refl) $ free_all ! refl $ keep ! (3 ∷ 0 ∷ 1 ∷ 2 ∷ []) $ by ! (leaves 𝓛 goal kept_of c y vunit tt (tt, (tt, (tt, tt))) (tt, (tt, (tt, tt)))))))))))
