-- `tested` asks the allocator, and hands the block on.
use Rattle.mem_blocks.proofs.Walks.{◌≡◌, ℕ, [], ◌∷◌, length, vunit, sym, refl, Ty, a_type, dcons, dnil, named, ty_ptr, Val, vptr, inst_fn, bare, SProp, Lft, Share, Fml, ftrue, fsep, flft, Incl-trans, ‵, raw, ◌⊛◌, later, given, learn, ◌$◌}
use Rattle.mem_blocks.proofs.Walks.{◌∵◌, !, qed, by, move, keep, use1, use3, split, join, fsplit, fsplit3, fjoin, fjoin3, await, rewrite, stop, fld, of_opd, no_more, and_then, returns, enter, alloc_all, pass_all, free_all, look_at, get}
use Rattle.mem_blocks.proofs.Walks.{get_in, sets, lands_as, agg, sub, all_of_it, tables, fact, ◌⊑◌, yes, no, RattleType, owns, types_at, plain, Ptr, Testable, heard, param, bounded, RefOf, shr_vals, shr_Tells, Tuple, calls_at, Stays}
use Rattle.mem_blocks.proofs.Walks.{stay_dropped, walk_of, Goes-dropped, Good-round, proved, leaves, fm, Block, alive_at, edge, rim, block_owns, block_ty, SLOTS, ptr_good, blank_val, place_val, blank_values, place_values, tells, blank, spends}
use Rattle.mem_blocks.specs.contracts.block.BlockPtr as link
use Rattle.mem_blocks.specs.contracts.block.Loose as loose
use denote.Triple.Statement.{Contract}
use Rattle.std.proofs.alloc.Calls.{Al}
use Rattle.mem_blocks.proofs.Tests as tests
use Rattle.mem_blocks.proofs.Rooms as parts
use Rattle.mem_blocks.specs.contracts.block.Loose.tested.{ended, clauses, Key.name as #self}
use Rattle.mem_blocks.proofs.block.Loose.tested.Statement.{statement}
use Rattle.mem_blocks.proofs.block.Loose.tested.Code as code

pub tested_spec : {M : Type 1} → statement M
tested_spec 𝓤 𝓛 𝓜 𝓡 wired S A L LA ga da dd gl dl met _ metl =
    let H = 𝓛.H in let 𝓣 = tables 𝓤 H 𝓜 𝓡 𝓡.env in let R : RattleType = param 0 S in let Z : RattleType = param 1 A in let BlockPtr : RattleType = link.the_row R in let Loose : RattleType = loose.the_row R Z ga in
    let goal = ended S A ga da dd gl dl in let c = clauses S A ga da dd gl dl 𝓛 𝓜.mem 𝓡.returns in let at_types = bounded (a_type ∷ a_type ∷ []) (S, (A, tt)) (dcons da (dcons dd (dcons dl dnil))) in let mir = inst_fn at_types code.function in
    let kept_of : Stays goal.signature.params goal.kept = (stay_dropped (plain (λ _. Loose)) no, (stay_dropped (RefOf (0 ∷ []) tt (plain (λ _. Z)) (λ _. tt)) yes, (stay_dropped (plain (λ _. BlockPtr)) no, tt))) in
    proved 𝓛 goal kept_of c 𝓜 𝓡 (Goes-dropped 𝓛 3 (plain (λ _. Loose)) no (λ κs x f. refl), (Goes-dropped 𝓛 3 (RefOf (0 ∷ []) tt (plain (λ _. Z)) (λ _. tt)) yes (λ κs x f. refl), (Goes-dropped 𝓛 3 (plain (λ _. BlockPtr)) no (λ κs x f. refl), tt))) (#self at_types) mir
    (code.unfolded 𝓤 H 𝓜 𝓡 wired (S, (A, tt)) da dd dl) (λ κs. ((λ _. blank_val ∷ []), (shr_vals, ((λ x. place_val x.ptr ∷ []), tt))))
    (λ κs. ((λ x vs so. blank_values (Tuple (R ∷ Z ∷ [])) vs so.0), (shr_Tells (named 0) κs.0 Z, (place_values R, tt)))) (λ κs qs bounds a ghost are.
    let y : (walk_of 𝓛 goal kept_of c).Ghost = ((κs, qs, bounds, a, (blank_val ∷ [], (vptr a.1.0.ref_ptr.0 a.1.0.ref_ptr.1 ∷ [], (place_val a.1.1.0.ptr ∷ [], tt)))), ghost) in let Post : Val → SProp 𝓤 = (walk_of 𝓛 goal kept_of c).post y in
    let τ : Ty = bare (block_ty R) in let h : Loose.Denot = a.0 in let place : ℕ × ℕ = a.1.0.ref_ptr in let heap : A.Denot = a.1.0.now in let p : Ptr = a.1.1.0.ptr in let κ : Lft = κs.0 in let q : Share = qs.0 in let token : Ty → Ptr → Fml = ga.dealloc_token heap in
    let others : Fml = fsep (flft κs.1.0 qs.1.0) (fsep (flft κs.1.1.0 qs.1.1.0) (ftrue)) in let Asked : Type 0 = (h.heap ≡ heap) × (h.at ≡ p) × (length h.homes ≡ SLOTS) in let x : Ptr → Block S.Denot = λ u. alive_at u h.next h.words h.homes in
    let Z₂ : Al = record { row = A; laws = LA; g = ga; d = da; drops = dd } in let Asks : Contract 𝓤 = tests.Asks Z₂ gl dl 𝓛 𝓜.mem 𝓡.returns in let w : Asks.Ghost = tests.asked_at Z₂ gl dl 𝓛 𝓜.mem 𝓡.returns κ q place heap p τ in
    qed 𝓛 (((‵ (flft κ q) ⊛ ‵ others) ⊛ ‵ (owns (types_at goal.signature.params κs) a y.0.4)) ∷ raw (fact 𝓤 _) ∷ raw (fact 𝓤 (κs.1.1.0 ⊑ A.lives)) ∷ raw (fact 𝓤 Asked) ∷ []) ∵
    keep ! (2 ∷ 3 ∷ 0 ∷ []) $ heard ! (κs.1.1.0 ⊑ A.lives) (λ inside. heard ! Asked (λ asked. split ! $ split ! $ move ! (2 ∷ []) $ fsplit3 ! $ fsplit ! $ move ! (2 ∷ []) $ fsplit ! $ keep ! (3 ∷ 1 ∷ 5 ∷ 6 ∷ []) $
    let le : κ ⊑ A.lives = Incl-trans bounds.0 inside in rewrite ! 0 (λ (u : A.Denot × Ptr). ‵ (block_owns R (ga.dealloc_token u.0) (x u.1))) (λ i. (asked.0 i, asked.1 i)) refl $
    fsplit3 ! $ move ! (2 ∷ []) $ fsplit3 ! $ move ! (2 ∷ []) $ use1 𝓛 (‵ (rim R token p)) (parts.edged 𝓛 R token h.homes p asked.2) $ fsplit ! $
    -- [the way back to room; the right to free it; the words; the slots; the sizes; the link; the handle; its token; the other tokens]
    enter ! 𝓣.C 𝓣.Λ mir (blank_val ∷ vptr place.0 place.1 ∷ place_val p ∷ []) Post $ alloc_all ! (λ l. pass_all ! refl ((tt, (tt, tt)), ((tt, tt), ((Good-round [] ty_ptr _ (ptr_good a.1.1.0.ptr)), tt))) $
    sets ! (of_opd ! (get_in ! (fld ! refl (stop !)) (sub ! 0 refl (all_of_it !)))) refl (ptr_good p) $ move ! (1 ∷ 6 ∷ 7 ∷ []) $ use3 𝓛 (raw (Asks.pre w)) (tests.asks_of Z₂ gl dl 𝓛 𝓜.mem 𝓡.returns κ q place heap p τ le) $
    calls_at ! (fm 𝓛 𝓜 𝓡) Asks (metl.test dd) w (and_then ! (get ! refl) (and_then ! (get ! refl) (no_more !))) (λ v.
    use1 𝓛 (later (given ((v ≡ vunit) × Testable p) (‵ (flft κ q) ⊛ ‵ (token τ p)))) (tests.told_of Z₂ gl dl 𝓛 𝓜.mem 𝓡.returns κ q place heap p τ v) $ await ! tt $ learn ! (λ so. split ! $ move ! (1 ∷ []) $
    lands_as ! so.0 refl (tt, tt) $
    -- [the right to free it; the handle's token; the way back; the words; the slots; the sizes; the link; the other tokens]
    move ! (2 ∷ 0 ∷ []) $ fjoin ! $ use1 𝓛 (‵ (edge R token h.homes p)) (parts.edges 𝓛 R token h.homes p asked.2) $ move ! (2 ∷ 3 ∷ 0 ∷ []) $ fjoin3 ! $ move ! (2 ∷ 3 ∷ 0 ∷ []) $ fjoin3 ! $
    rewrite ! 0 (λ (u : A.Denot × Ptr). ‵ (block_owns R (ga.dealloc_token u.0) (x u.1))) (λ i. (sym asked.0 i, sym asked.1 i)) refl $ sets ! (agg ! (no_more !)) refl (tt, tt) $ sets ! (agg ! (and_then ! (get ! refl) (no_more !))) refl (tt, (tt, tt)) $ blank ! (Tuple (R ∷ Z ∷ [])) $
    move ! (1 ∷ 2 ∷ []) $ join ! $ tells ! (Testable p) so.1 $ tells ! (h ≡ h) refl $ join ! $ spends ! 3 $ returns ! (look_at ! 0 refl) $ free_all ! refl $ keep ! (2 ∷ 0 ∷ 3 ∷ 1 ∷ []) $ by ! (leaves 𝓛 goal kept_of c y blank_val h (tt, (tt, (tt, tt))) (tt, (tt, (tt, tt))))))))))
