-- `merge` is one load, by which one seat's view takes another's in.
use Rattle.mem_blocks.proofs.Walks.{◌≡◌, ℕ, ◌+◌, List, [], ◌∷◌, sym, refl, lit<, Ty, a_type, dcons, dnil, named, Val, vunit, vptr, inst_fn, Coded, SProp, via, Lft, Fml, ftrue, fsep, flft, mean, ‵, raw, ◌⊛◌, given, at_ret, ◌$◌, ◌∵◌, !, qed, by, move, keep, drop, use3, split, split3}
use Rattle.mem_blocks.proofs.Walks.{join, fsplit, fsplit3, fjoin, learn, rewrite, feq_i, stop, from, fld, hop, addr, lit, unit_lit, of_opd, no_more, and_then, first, blocks, exec, Calls-last, returns, alloc_all, pass_all, free_all, look_at, look_in_at, get, sets, lands_last, env, agg}
use Rattle.mem_blocks.proofs.Walks.{sub, all_of_it, obor_close, tokens_halve, tables, fact, yes, no, RattleType, owns, types_at, plain, Ptr, block_ptr, block_of, count_of, InBlock, nothing, unhide, param, bounded, RefOf, mut_vals, mut_Tells, shr_vals, shr_Tells, Stays, stay_dropped}
use Rattle.mem_blocks.proofs.Walks.{stay_ref, walk_of, Goes-dropped, Goes-ref, proved, leaves, fm, seq_cst, found, finds, loads, Sitter, sitter, CanMerge, Sits, Same, WebId, age, seat_owns, after, place_val, place_values, begins_step, tells, alone, opens_ref, closes_ref, enters_at}
use Rattle.mem_blocks.specs.contracts.block.BlockPtr as link
use Rattle.mem_blocks.specs.contracts.web.Web as web
use Rattle.mem_blocks.specs.contracts.web.Seat as seat
use Rattle.mem_blocks.proofs.Moves as moves
use Rattle.mem_blocks.specs.contracts.web.Web.merge.{ended, clauses, Key.name as #self}
use Rattle.mem_blocks.proofs.web.Web.merge.Statement.{statement}
use Rattle.mem_blocks.proofs.web.Web.merge.Code as code

pub merge_spec : {M : Type 1} → statement M
unfolding Rattle.mem_blocks.specs.Laid.seal
merge_spec 𝓤 𝓛 𝓜 𝓡 wired S V K P A M _ _ _ _ _ _ g d ga da dd g' d' _ _ _ _ =
    let H = 𝓛.H in let 𝓣 = tables 𝓤 H 𝓜 𝓡 𝓡.env in let R : RattleType = param 0 S in let W : RattleType = param 1 V in let X : RattleType = param 2 K in let Y : RattleType = param 3 P in let Z : RattleType = param 4 A in
    let Web : RattleType = web.the_row R W X Y Z g ga in let Seat : RattleType = seat.the_row R W Z ga in let BlockPtr : RattleType = link.the_row R in let code_of : Coded V.Denot = W.coded in
    let goal = ended S V K P A M g d ga da dd g' d' in let c = clauses S V K P A M g d ga da dd g' d' 𝓛 𝓜.mem 𝓡.returns in
    let at_types = bounded (a_type ∷ a_type ∷ a_type ∷ a_type ∷ a_type ∷ a_type ∷ []) (S, (V, (K, (P, (A, (M, tt)))))) (dcons d (dcons da (dcons dd (dcons d' dnil)))) in let mir = inst_fn at_types code.function in
    let kept_of : Stays goal.signature.params goal.kept = (stay_dropped (RefOf (0 ∷ []) tt (plain (λ _. Web)) (λ _. tt)) yes, (stay_ref (1 ∷ []) tt (plain (λ _. Seat)), (stay_ref (2 ∷ []) tt (plain (λ _. Seat)), (stay_dropped (plain (λ _. BlockPtr)) no, tt)))) in
    proved 𝓛 goal kept_of c 𝓜 𝓡 (Goes-dropped 𝓛 9 (RefOf (0 ∷ []) tt (plain (λ _. Web)) (λ _. tt)) yes (λ κs x f. refl), (Goes-ref 𝓛 9 1 tt (plain (λ _. Seat)), (Goes-ref 𝓛 9 2 tt (plain (λ _. Seat)), (Goes-dropped 𝓛 9 (plain (λ _. BlockPtr)) no (λ κs x f. refl), tt)))) (#self at_types) mir
    (code.unfolded 𝓤 H 𝓜 𝓡 wired (S, (V, (K, (P, (A, (M, tt)))))) d da dd d') (λ κs. (shr_vals, (mut_vals, (mut_vals, ((λ x. place_val x.ptr ∷ []), tt)))))
    (λ κs. (shr_Tells (named 0) κs.0 Web, (mut_Tells (named 1) κs.1.0 Seat, (mut_Tells (named 2) κs.1.1.0 Seat, (place_values R, tt))))) (λ κs qs bounds a ghost are.
    let y : (walk_of 𝓛 goal kept_of c).Ghost =
    ((κs, qs, bounds, a, (vptr a.0.ref_ptr.0 a.0.ref_ptr.1 ∷ [], (vptr a.1.0.ref_ptr.0 a.1.0.ref_ptr.1 ∷ [], (vptr a.1.1.0.ref_ptr.0 a.1.1.0.ref_ptr.1 ∷ [], (place_val a.1.1.1.0.ptr ∷ [], tt))))), ghost) in
    let Post : Val → SProp 𝓤 = (walk_of 𝓛 goal kept_of c).post y in
    let κ : Lft = κs.0 in let t : Web.Denot = a.0.now in let z : WebId = t.id in let α : Lft = age z in let token : Ty → Ptr → Fml = ga.dealloc_token t.heap in let holds = g.holds t.key in
    let b' : ℕ = a.1.0.ref_ptr.0 in let o' : ℕ = a.1.0.ref_ptr.1 in let h : Seat.Denot = a.1.0.now in let id : ℕ = h.id in let m : Sitter S.Denot V.Denot = h.sitter in
    let b₂ : ℕ = a.1.1.0.ref_ptr.0 in let o₂ : ℕ = a.1.1.0.ref_ptr.1 in let h₂ : Seat.Denot = a.1.1.0.now in let it : Sitter S.Denot V.Denot = h₂.sitter in let p : Ptr = a.1.1.1.0.ptr in
    let both : V.Denot = g'.both m.view it.view in let others : Fml = fsep (flft κs.1.1.1.0 qs.1.1.1.0)
    (fsep (flft κs.1.1.1.1.0 qs.1.1.1.1.0) (fsep (flft κs.1.1.1.1.1.0 qs.1.1.1.1.1.0)
    (fsep (flft κs.1.1.1.1.1.1.0 qs.1.1.1.1.1.1.0) (fsep (flft κs.1.1.1.1.1.1.1.0 qs.1.1.1.1.1.1.1.0) (fsep (flft κs.1.1.1.1.1.1.1.1.0 qs.1.1.1.1.1.1.1.1.0) (ftrue)))))) in
    qed 𝓛 (((‵ (flft κs.0 qs.0) ⊛ ‵ (flft κs.1.0 qs.1.0) ⊛ ‵ (flft κs.1.1.0 qs.1.1.0) ⊛ ‵ others) ⊛ ‵ (owns (types_at goal.signature.params κs) a y.0.4)) ∷ raw (fact 𝓤 _) ∷ raw (fact 𝓤 _) ∷ raw (fact 𝓤 _) ∷ raw (fact 𝓤 _) ∷ raw (fact 𝓤 _) ∷ raw (fact 𝓤 _)
    ∷ (given (Sits h t) (‵ ftrue) ⊛ given (Sits h₂ t) (‵ ftrue) ⊛ given (InBlock p) (‵ ftrue) ⊛ given (CanMerge holds p id m.view h₂.id it.view both g'.spent) (‵ ftrue)) ∷ []) ∵
    keep ! (7 ∷ 0 ∷ []) $ split3 ! $ learn ! (λ sits. drop ! $ learn ! (λ other. drop ! $ split ! $ learn ! (λ there. drop ! $ learn ! (λ merges. drop ! $
    split ! $ split3 ! $ move ! (2 ∷ []) $ split ! $ move ! (4 ∷ []) $ fsplit3 ! $ fsplit ! $ move ! (2 ∷ []) $ fsplit3 ! $ move ! (5 ∷ []) $ fsplit ! $ fsplit3 ! $
    keep ! (8 ∷ 11 ∷ 5 ∷ 6 ∷ 12 ∷ 1 ∷ 2 ∷ 9 ∷ 10 ∷ []) $ unhide ! $ fsplit ! $ drop ! $ fsplit ! $
    enters_at ! p there 𝓣.C 𝓣.Λ mir (λ u. vptr a.0.ref_ptr.0 a.0.ref_ptr.1 ∷ vptr a.1.0.ref_ptr.0 a.1.0.ref_ptr.1 ∷ vptr a.1.1.0.ref_ptr.0 a.1.1.0.ref_ptr.1 ∷ place_val u ∷ []) Post $
    alloc_all ! (λ l. pass_all ! refl ((tt, tt), ((tt, tt), ((tt, tt), ((tt, (tt, tt)), tt)))) $ let locals = env mir.locals l in
    begins_step ! tt Seat h (tokens_halve 𝓛 α) b' o' (λ (x : WebId × A.Denot). seat_owns R (ga.dealloc_token x.1) code_of.code x.0 id m) (λ j. (sits.0 j, sits.1 j)) (λ ts. refl) (λ s ts. move ! (9 ∷ 10 ∷ 11 ∷ []) $ opens_ref ! tt Seat h₂ b₂ o₂ (λ us₂. refl) (λ us₂.
    rewrite ! 0 (λ (x : WebId × A.Denot). ‵ (seat_owns R (ga.dealloc_token x.1) code_of.code x.0 h₂.id it)) (λ j. (other.0 j, other.1 j)) refl $ first ! $ blocks ! $
    let e : ℕ = count_of p + 8 in sets ! (addr ! (from ! (fld ! refl (hop ! (look_in_at ! 4 (sub ! 0 refl (all_of_it !))) (fld ! refl (stop !)))))) refl (tt, tt) $ move ! (6 ∷ 0 ∷ []) $ join ! $ move ! (13 ∷ 12 ∷ 0 ∷ []) $
    let out : ℕ → Fml = λ n. fsep (flft α s) (moves.Merged 𝓛 R token code_of holds z s p id m h₂.id it both g'.spent) in
    use3 𝓛 (raw (𝓣.C _ (vptr (block_of p) e ∷ seq_cst ∷ []) (λ u. mean 𝓛 (found out u)))) (via 𝓤 _ (moves.absorbs 𝓛 R token code_of holds z s p id m h₂.id it both g'.spent merges) (loads 𝓛 𝓜 𝓡 (code.calls-std::sync::atomic::raw::load 𝓡.env wired) (block_ptr (block_of p) e) out)) $
    sets ! (agg ! (and_then ! (lit ! tt) (no_more !))) refl (tt, (record { fits = lit< tt }, tt)) $
    Calls-last ! (fm 𝓛 𝓜 𝓡) (found out) (and_then ! (get ! refl) (and_then ! (get ! refl) (no_more !))) (λ u. finds ! out (λ n fits. lands_last ! refl (tt, record { fits = fits }) $ exec ! 𝓣.C 𝓣.Λ locals (after 1 mir.body) (at_ret locals Post) $
    sets ! (of_opd ! (unit_lit !)) refl (tt, tt) $ fsplit ! $ move ! (12 ∷ 0 ∷ []) $ obor_close ! tt $ drop ! $ move ! (1 ∷ []) $ fsplit ! $
    let m' : Sitter S.Denot V.Denot = sitter both m.hand m.spare in let h' : Seat.Denot = record { marker = h.marker; web = z; heap = t.heap; id = id; sitter = m' } in
    let h₃ : Seat.Denot = record { marker = h₂.marker; web = z; heap = t.heap; id = h₂.id; sitter = sitter g'.spent it.hand it.spare } in let Ensured : Type 0 = Same h' h × (m' ≡ m') in
    move ! (1 ∷ 3 ∷ 4 ∷ 5 ∷ 6 ∷ 7 ∷ []) $ closes_ref ! tt Seat h₃ us₂ b₂ o₂ refl refl $ alone ! 1 $ move ! (2 ∷ 4 ∷ 5 ∷ 6 ∷ 7 ∷ 8 ∷ []) $ closes_ref ! tt Seat h' ts b' o' refl refl $
    move ! (0 ∷ 2 ∷ []) $ fjoin ! $ nothing ! $ fjoin ! $ move ! (2 ∷ 4 ∷ []) $ join ! $ move ! (2 ∷ 0 ∷ []) $ join ! $ move ! (2 ∷ 0 ∷ []) $ join ! $ tells ! Ensured ((sym sits.0, sym sits.1, refl), refl) $ feq_i ! (List Val) (vunit ∷ []) (vunit ∷ []) refl $
    returns ! (look_at ! 0 refl) $ free_all ! refl $ keep ! (2 ∷ 3 ∷ 0 ∷ 1 ∷ []) $ by ! (leaves 𝓛 goal kept_of c y vunit tt (tt, (h', (h₃, (tt, tt)))) (tt, (tt, (tt, (tt, tt)))))))))))))))
