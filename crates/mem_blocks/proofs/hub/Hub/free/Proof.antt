-- `free` puts the parts of both ends together, and gives the room back.
use Rattle.mem_blocks.proofs.Walks.{◌≡◌, ℕ, List, [], ◌∷◌, sym, refl, subst, lit<, w64, Ty, a_type, dcons, dnil, named, ty_unit, Val, vunit, vint, vptr, has_ty, WT, inst_fn, bare, SProp, Lft, Share, Fml, ftrue, fsep, froom, flft, Incl-trans, align, ‵, raw, ◌⊛◌, given, later, at_ret}
use Rattle.mem_blocks.proofs.Walks.{◌$◌, ◌∵◌, !, qed, by, move, keep, drop, use1, use3, split, join, fsplit, fsplit3, fjoin, fpick, fpack, learn, await, rewrite, feq_i, stop, fld, lit, unit_lit, of_opd, no_more, and_then, first, blocks, exec, returns, alloc_all, pass_all, free_all}
use Rattle.mem_blocks.proofs.Walks.{look_at, get, get_in, sets, lands_last, env, sub, all_of_it, tables, fact, ◌⊑◌, yes, no, RattleType, owns, types_at, plain, Ptr, block_ptr, block_of, count_of, at_block, nothing, heard, param, bounded, RefOf, usize, shr_vals, shr_Tells, uint_vals}
use Rattle.mem_blocks.proofs.Walks.{uint_Tells, Tuple, calls_at_last, Stays, stay_dropped, walk_of, Goes-dropped, proved, leaves, fm, Block, alive_at, Sized, hub_ty, hub_rim, head_of, hub_size, block_owns, after, blank_val, place_val, blank_values, place_values, spends, enters_at}
use Rattle.std.proofs.alloc.Calls.{Al as Handle, at_gives, Gives, Gives-goes, Gives-Gives}
use Rattle.mem_blocks.specs.contracts.block.BlockPtr as link
use Rattle.mem_blocks.specs.contracts.block.Loose as loose
use Rattle.mem_blocks.specs.contracts.hub.Hub as hub
use Rattle.mem_blocks.proofs.Rooms as parts
use Rattle.mem_blocks.specs.contracts.hub.Hub.free.{ended, clauses, Key.name as #self}
use Rattle.mem_blocks.proofs.hub.Hub.free.Statement.{statement}
use Rattle.mem_blocks.proofs.hub.Hub.free.Code as code

pub free_spec : {M : Type 1} → statement M
free_spec 𝓤 𝓛 𝓜 𝓡 wired S A L LA ga da dd met _ =
    let H = 𝓛.H in let 𝓣 = tables 𝓤 H 𝓜 𝓡 𝓡.env in let R : RattleType = param 0 S in let Z : RattleType = param 1 A in let BlockPtr : RattleType = link.the_row R in let Loose : RattleType = loose.the_row R Z ga in let Hub : RattleType = hub.the_row R Z ga in
    let goal = ended S A ga da dd in let c = clauses S A ga da dd 𝓛 𝓜.mem 𝓡.returns in let at_types = bounded (a_type ∷ a_type ∷ []) (S, (A, tt)) (dcons da (dcons dd dnil)) in let mir = inst_fn at_types code.function in
    let kept_of : Stays goal.signature.params goal.kept = (
      stay_dropped (plain (λ _. Hub)) no,
      (
        stay_dropped (RefOf (0 ∷ []) tt (plain (λ _. Z)) (λ _. tt)) yes,
        (stay_dropped (plain (λ _. BlockPtr)) no, (stay_dropped (plain (λ _. Loose)) no, (stay_dropped (plain (λ _. Loose)) no, (stay_dropped (plain (λ _. usize)) yes, tt)))),
      ),
    ) in
    proved 𝓛 goal kept_of c 𝓜 𝓡 (
      Goes-dropped 𝓛 3 (plain (λ _. Hub)) no (λ κs x f. refl),
      (
        Goes-dropped 𝓛 3 (RefOf (0 ∷ []) tt (plain (λ _. Z)) (λ _. tt)) yes (λ κs x f. refl),
        (
          Goes-dropped 𝓛 3 (plain (λ _. BlockPtr)) no (λ κs x f. refl),
          (Goes-dropped 𝓛 3 (plain (λ _. Loose)) no (λ κs x f. refl), (Goes-dropped 𝓛 3 (plain (λ _. Loose)) no (λ κs x f. refl), (Goes-dropped 𝓛 3 (plain (λ _. usize)) yes (λ κs x f. refl), tt))),
        ),
      ),
    ) (#self at_types) mir
    (code.unfolded 𝓤 H 𝓜 𝓡 wired (S, (A, tt)) da dd) (λ κs. ((λ _. blank_val ∷ []), (shr_vals, ((λ x. place_val x.ptr ∷ []), ((λ _. blank_val ∷ []), ((λ _. blank_val ∷ []), (uint_vals w64, tt)))))))
    (λ κs. ((λ x vs so. blank_values (Tuple (R ∷ Z ∷ [])) vs so.0), (shr_Tells (named 0) κs.0 Z, (place_values R, ((λ x vs so. blank_values (Tuple (R ∷ Z ∷ [])) vs so.0), ((λ x vs so. blank_values (Tuple (R ∷ Z ∷ [])) vs so.0), (uint_Tells w64, tt))))))) (λ κs qs bounds a ghost are.
    let y : (walk_of 𝓛 goal kept_of c).Ghost =
    ((κs, qs, bounds, a, (blank_val ∷ [], (vptr a.1.0.ref_ptr.0 a.1.0.ref_ptr.1 ∷ [], (place_val a.1.1.0.ptr ∷ [], (blank_val ∷ [], (blank_val ∷ [], (vint w64 a.1.1.1.1.1.0 ∷ [], tt))))))), ghost) in
    let Post : Val → SProp 𝓤 = (walk_of 𝓛 goal kept_of c).post y in
    let handle_of : Handle = record { row = A; laws = LA; g = ga; d = da; drops = dd } in let τ : Ty = hub_ty in let n : ℕ = a.1.1.1.1.1.0 in let al : ℕ = align τ in
    let h : Hub.Denot = a.0 in let place : ℕ × ℕ = a.1.0.ref_ptr in let heap : A.Denot = a.1.0.now in let p : Ptr = a.1.1.0.ptr in let t₁ : Loose.Denot = a.1.1.1.0 in
    let t₂ : Loose.Denot = a.1.1.1.1.0 in let κ : Lft = κs.0 in let q : Share = qs.0 in let token : Ty → Ptr → Fml = ga.dealloc_token heap in
    let others : Fml = fsep (flft κs.1.0 qs.1.0) (fsep (flft κs.1.1.0 qs.1.1.0) (ftrue)) in
    let Asked : Type 0 = (h.heap ≡ heap) × (t₁.heap ≡ heap) × (t₂.heap ≡ heap) × (h.at ≡ p) × (t₁.at ≡ p) × (t₂.at ≡ head_of p) × (n ≡ hub_size) in
    let b : ℕ = block_of p in let o : ℕ = count_of p in let p' : Ptr = block_ptr b o in
    let x : Ptr → Block S.Denot = λ u. alive_at u t₁.next t₁.words t₁.homes in let z : Ptr → Block S.Denot = λ u. alive_at u t₂.next t₂.words t₂.homes in let us : Ptr → List Val = λ u. blank_val ∷ vptr place.0 place.1 ∷ place_val u ∷ blank_val ∷ blank_val ∷ vint w64 n ∷ [] in
    qed 𝓛 (((‵ (flft κ q) ⊛ ‵ others) ⊛ ‵ (owns (types_at goal.signature.params κs) a y.0.4)) ∷ raw (fact 𝓤 _) ∷ raw (fact 𝓤 (κs.1.1.0 ⊑ A.lives)) ∷ raw (fact 𝓤 Asked) ∷ []) ∵
    keep ! (2 ∷ 3 ∷ 0 ∷ []) $ heard ! (κs.1.1.0 ⊑ A.lives) (λ inside. heard ! Asked (λ asked. split ! $ split ! $ move ! (2 ∷ []) $ fsplit3 ! $ fsplit ! $ move ! (2 ∷ []) $ fsplit ! $ keep ! (3 ∷ 1 ∷ 4 ∷ 5 ∷ 6 ∷ []) $
    move ! (2 ∷ []) $ fsplit3 ! $ move ! (2 ∷ []) $ fsplit ! $ keep ! (0 ∷ 3 ∷ 4 ∷ 5 ∷ 6 ∷ 7 ∷ []) $ fsplit ! $ drop ! $ move ! (1 ∷ []) $ fsplit ! $ drop ! $
    -- [the tail; the head; the right to free them; the handle; its token; the other tokens]
    rewrite ! 0 (λ (u : A.Denot × Ptr). ‵ (block_owns R (ga.dealloc_token u.0) (x u.1))) (λ i. (asked.1 i, asked.4 i)) refl $ rewrite ! 1 (λ (u : A.Denot × Ptr). ‵ (block_owns R (ga.dealloc_token u.0) (z u.1))) (λ i. (asked.2 i, asked.5 i)) refl $
    rewrite ! 2 (λ (u : A.Denot × Ptr). ‵ (hub_rim (ga.dealloc_token u.0) u.1)) (λ i. (asked.0 i, asked.3 i)) refl $ fsplit ! $ fpick ! (λ so. fpack ! (Sized R (x p)) (λ _. ftrue) so $ fjoin ! $ let there : p ≡ p' = at_block p so.0 in
    rewrite ! 0 (λ (u : Ptr). ‵ (block_owns R token (x u))) there refl $ rewrite ! 1 (λ (u : Ptr). ‵ (block_owns R token (z (head_of u)))) there refl $ rewrite ! 2 (λ (u : Ptr). ‵ (hub_rim token u)) there refl $
    use3 𝓛 (‵ (froom (bare τ) b o) ⊛ ‵ (token (bare τ) p')) (parts.hub_gathers 𝓛 R token p' t₁.next t₂.next t₁.words t₂.words t₁.homes t₂.homes) $ split ! $
    enters_at ! p so.0 𝓣.C 𝓣.Λ mir us Post $ alloc_all ! (λ l. pass_all ! refl ((tt, (tt, tt)), ((tt, tt), ((tt, (tt, tt)), ((tt, (tt, tt)), ((tt, (tt, tt)), ((tt, record { fits = are.1.1.1.1.1.0.1 }), tt)))))) $ let locals = env mir.locals l in first ! $ blocks ! $
    sets ! (of_opd ! (get_in ! (fld ! refl (stop !)) (sub ! 0 refl (all_of_it !)))) refl (tt, tt) $
    move ! (2 ∷ 3 ∷ []) $ join ! $ move ! (1 ∷ 2 ∷ 0 ∷ []) $ let Asks = Gives handle_of 𝓛 𝓜.mem 𝓡.returns in let w : Asks.Ghost = at_gives handle_of 𝓛 𝓜.mem 𝓡.returns κ q place heap b o n al (bare τ) in
    use3 𝓛 (raw (Asks.pre w)) (Gives-goes handle_of 𝓛 𝓜.mem 𝓡.returns κ q place heap (Incl-trans bounds.0 inside) b o n al (bare τ) (sym asked.6) refl are.1.1.1.1.1.0.1 (lit< tt)) $
    calls_at_last ! (fm 𝓛 𝓜 𝓡) Asks (met.deallocate dd) w (and_then ! (get ! refl) (and_then ! (get ! refl) (and_then ! (get ! refl) (and_then ! (lit ! tt) (no_more !))))) (λ u.
    use1 𝓛 (later (given (u ≡ vunit) (‵ (flft κ q)))) (Gives-Gives handle_of 𝓛 𝓜.mem 𝓡.returns κ q place heap b o n al (bare τ) u) $ await ! tt $ learn ! (λ e. lands_last ! refl (subst (λ (w : Val). lib.Dec.T (has_ty ty_unit w) × WT w) (sym e) (tt, tt)) $
    exec ! 𝓣.C 𝓣.Λ locals (after 1 mir.body) (at_ret locals Post) $ sets ! (of_opd ! (unit_lit !)) refl (tt, tt) $ join ! $ nothing ! $ feq_i ! (List Val) (vunit ∷ []) (vunit ∷ []) refl $ spends ! 6 $
    returns ! (look_at ! 0 refl) $ free_all ! refl $ keep ! (3 ∷ 0 ∷ 1 ∷ 2 ∷ []) $ by ! (leaves 𝓛 goal kept_of c y vunit tt (tt, (tt, (tt, (tt, (tt, (tt, tt)))))) (tt, (tt, (tt, (tt, (tt, (tt, tt))))))))))))))
