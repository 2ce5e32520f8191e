-- `put` writes the slot that the seat has in hand.
use Rattle.mem_blocks.proofs.Walks.{◌≡◌, ℕ, ◌+◌, ◌*◌, ◌^◌, blocks, exec, returns, get_in, through, sets, tables, fact, yes, no, fjoin3, fpick, fpack, types_at, plain, mem, Sitter, sitter, Same, opens_ref, shuts_ref}
use Rattle.mem_blocks.proofs.Walks.{◌<◌, ◌≤◌, List, [], ◌∷◌, stay_dropped, stay_ref, ftrue, fsep, froom, fat, flft, WpFn, ‵, raw, ◌⊛◌, drop, use1, split, join, is, env, sub, all_of_it, Ptr, block_of, count_of, InBlock, nothing, heard}
use Rattle.mem_blocks.proofs.Walks.{◌++◌, sym, refl, ap, assigns_last, init, Option, Some, None, of_opd, bin, first, subst, arith, w64, full_share, Coded, suffices, rewrite, param_laws, usize}
use Rattle.mem_blocks.proofs.Walks.{mul-le-mul_right, RattleType, owns, inst_fn, bare, Member, Stays, proved_at, leaves, Hand, SLOTS, after, place_val}
use Rattle.mem_blocks.proofs.Walks.{a_type, dcons, dnil, at_ret, ◌$◌, ◌∵◌, !, qed, by, move, keep, unit_lit, size_word, SProp, ent, id⊢, Fml, full_product, tells, alloc_all, pass_all, slots_at, hand_owns}
use Rattle.mem_blocks.proofs.Walks.{Val, vunit, vint, vptr, place_values, enters_at, walk_of, Goes-dropped, Goes-ref, one, gather, fsplit, fsplit3, fjoin, feq_i, stop, fld, addr, free_all, look_at, get, param, bounded, layout}
use Rattle.mem_blocks.specs.contracts.block.BlockPtr as link
use Rattle.mem_blocks.specs.contracts.web.Seat as seat
use Rattle.mem_blocks.proofs.Blocks as blocks
use Rattle.mem_blocks.specs.contracts.web.Seat.put.{ended, clauses, Key.name as #self}
use Rattle.mem_blocks.proofs.web.Seat.put.Statement.{statement}
use Rattle.mem_blocks.proofs.web.Seat.put.Code as code

pub put_spec : {M : Type 1} → statement M
put_spec 𝓤 𝓛 𝓜 𝓡 wired S V A L _ _ ga da dd _ _ =
    let H = 𝓛.H in let 𝓣 = tables 𝓤 H 𝓜 𝓡 𝓡.env in let R : RattleType = param 0 S in let W : RattleType = param 1 V in let Z : RattleType = param 2 A in
    let Seat : RattleType = seat.the_row R W Z ga in let code_of : Coded V.Denot = W.coded in let BlockPtr : RattleType = link.the_row R in let goal = ended S V A ga da dd in let c = clauses S V A ga da dd 𝓛 𝓜.mem 𝓡.returns in
    let at_types = bounded (a_type ∷ a_type ∷ a_type ∷ []) (S, (V, (A, tt))) (dcons da (dcons dd dnil)) in let mir = inst_fn at_types code.function in
    let kept_of : Stays goal.signature.params goal.kept = (stay_ref (0 ∷ []) tt (plain (λ _. Seat)), (stay_dropped (plain (λ _. BlockPtr)) no, (stay_dropped (plain (λ _. usize)) yes, (stay_dropped (plain (λ _. R)) no, tt)))) in
    proved_at 𝓛 goal kept_of c 𝓜 𝓡 (Goes-ref 𝓛 4 0 tt (plain (λ _. Seat)), (Goes-dropped 𝓛 4 (plain (λ _. BlockPtr)) no (λ κs x f. refl), (Goes-dropped 𝓛 4 (plain (λ _. usize)) yes (λ κs x f. refl), (Goes-dropped 𝓛 4 (plain (λ _. R)) no (λ κs x f. refl), tt)))) (#self at_types) mir
    (code.unfolded 𝓤 H 𝓜 𝓡 wired (S, (V, (A, tt))) da dd) (λ y are. let κs = y.0.0 in let qs = y.0.1 in let a = y.0.3 in let vss = y.0.4 in let Post : Val → SProp 𝓤 = (walk_of 𝓛 goal kept_of c).post y in
    let lawful = (param_laws 0 S L).lawful 𝓛 in let v : Member = record { row = R; ty = layout S } in
    let b' : ℕ = a.0.ref_ptr.0 in let o' : ℕ = a.0.ref_ptr.1 in let h : Seat.Denot = a.0.now in let m : Sitter S.Denot V.Denot = h.sitter in let p : Ptr = a.1.0.ptr in let j : ℕ = a.1.1.0 in let new : S.Denot = a.1.1.1.0 in
    let others : Fml = fsep (flft κs.1.0 qs.1.0) (fsep (flft κs.1.1.0 qs.1.1.0) (fsep (flft κs.1.1.1.0 qs.1.1.1.0) (ftrue))) in let got = one (layout S) vss.1.1.1.0 (lawful.typed new vss.1.1.1.0 are.1.1.1.0) in let vy : Val = got.0 in let Asked : Type 0 = InBlock p × (m.hand ≡ Some (p, j, None)) in
    let sz : ℕ = (mem R).size in let b : ℕ = block_of p in let e : ℕ = j * sz + slots_at R (count_of p) in let Placed : Type 0 = blocks.Placed 𝓛 R (ga.dealloc_token h.heap) p j in
    qed 𝓛 (((‵ (flft κs.0 qs.0) ⊛ ‵ others) ⊛ ‵ (owns (types_at goal.signature.params κs) a vss)) ∷ raw (fact 𝓤 _) ∷ raw (fact 𝓤 _) ∷ raw (fact 𝓤 _) ∷ raw (fact 𝓤 Asked) ∷ []) ∵
    keep ! (4 ∷ 0 ∷ []) $ heard ! Asked (λ asked. split ! $ split ! $ move ! (2 ∷ []) $ fsplit3 ! $ fsplit3 ! $ move ! (4 ∷ []) $ fsplit3 ! $ keep ! (4 ∷ 5 ∷ 7 ∷ 1 ∷ 8 ∷ []) $
    rewrite ! 3 (λ (ws : List Val). ‵ (R.own_val new ws)) got.1 refl $ let us : Ptr → List Val = λ u. vptr b' o' ∷ place_val u ∷ vint w64 j ∷ vy ∷ [] in let Run : List Val → SProp 𝓤 = λ ws. WpFn 𝓤 H 𝓣.C 𝓣.Λ mir ws Post in
    suffices ! (Run (us p)) (subst (λ (ws : List Val). ent 𝓤 (Run (us p)) (Run ws))
    (sym (λ i. are.0.0 i ++ (place_values R a.1.0 vss.1.0 are.1.0 i ++ (are.1.1.0.0 i ++ (got.1 i ++ []))))) (id⊢ 𝓤 (Run (us p)))) $ enters_at ! p asked.0 𝓣.C 𝓣.Λ mir us Post $
    alloc_all ! (λ l. pass_all ! refl ((tt, tt), ((tt, (tt, tt)), ((tt, record { fits = are.1.1.0.1 }), (got.2, tt)))) $ let locals = env mir.locals l in
    opens_ref ! tt Seat h b' o' (λ ts. refl) (λ ts. fsplit3 ! $ rewrite ! 1 (λ (u : Option (Hand S.Denot)). ‵ (hand_owns R u)) asked.1 refl $ move ! (1 ∷ []) $ fsplit ! $ fpick ! (λ at. drop ! $
    let near : j < SLOTS = at.2 in let less : j * sz ≤ SLOTS * sz = mul-le-mul_right sz (omega arith) in let tiny : sz < 2 ^ 31 = at.1 in let small : j * sz < 2 ^ 64 = omega arith in use1 𝓛 (‵ (froom (layout S) b e)) (𝓛.laws.raw-room (layout S) b e) $ first ! $ blocks ! $
    sets ! (of_opd ! (get_in ! (fld ! refl (stop !)) (sub ! 0 refl (all_of_it !)))) refl (tt, tt) $ sets ! (addr ! (through ! refl (fld ! refl (stop !)))) refl (tt, tt) $
    sets ! (is ! (bin ! (get ! refl) (size_word !) (record { fits = subst (λ (n : ℕ). n < 2 ^ 64) (sym (full_product j sz small)) small })) (ap (vint w64) (full_product j sz small))) refl (tt, record { fits = small }) $ sets ! (bin ! (get ! refl) (get ! refl) tt) refl (tt, tt) $
    sets ! (of_opd ! (get ! refl)) refl got.2 $ assigns_last ! (of_opd ! (get ! refl)) (through ! refl (stop !)) (init ! 0 refl got.2) $ exec ! 𝓣.C 𝓣.Λ locals (after 1 mir.body) (at_ret locals Post) $ sets ! (of_opd ! (unit_lit !)) refl (tt, tt) $
    use1 𝓛 (‵ (fat full_share (bare (layout S)) b e vy)) (𝓛.laws.at_raw full_share (layout S) b e vy) $
    -- [the slot; the view; the block that is carried; the seat's fields; its place in four; the value; the other tokens]
    move ! (0 ∷ 8 ∷ []) $ gather v ! new vy b e $ nothing ! $ fpack ! Placed (λ _. ftrue) at $ fjoin ! $ move ! (1 ∷ 0 ∷ 2 ∷ []) $ fjoin3 ! $
    let m' : Sitter S.Denot V.Denot = sitter m.view (Some (p, j, Some new)) m.spare in let h' : Seat.Denot = record { marker = h.marker; web = h.web; heap = h.heap; id = h.id; sitter = m' } in let Ensured : Type 0 = m' ≡ m' in let Kept : Type 0 = Same h' h in
    shuts_ref ! tt Seat h' ts b' o' 3 are.0.0 refl $ tells ! Ensured refl $ tells ! Kept (refl, refl, refl) $ join ! $ feq_i ! (List Val) (vunit ∷ []) (vunit ∷ []) refl $
    returns ! (look_at ! 0 refl) $ free_all ! refl $ keep ! (2 ∷ 3 ∷ 0 ∷ 1 ∷ []) $ by ! (leaves 𝓛 goal kept_of c y vunit tt (h', (tt, (tt, (tt, tt)))) (tt, (tt, (tt, (tt, tt))))))))))
