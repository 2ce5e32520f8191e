-- `take` reads the slot that the seat has in hand.
use Rattle.mem_blocks.proofs.Walks.{◌≡◌, ℕ, ◌+◌, ◌*◌, ◌^◌, ◌<◌, ◌≤◌, [], ◌∷◌, sym, refl, ap, subst, arith, w64, Option, Some, None, mul-le-mul_right, a_type, dcons, dnil, named, Val, vint, vptr, inst_fn, bare, Coded, SProp, Fml, ftrue, fsep, froom, flft, ‵, raw, ◌⊛◌, at_ret, ◌$◌, ◌∵◌}
use Rattle.mem_blocks.proofs.Walks.{ !, qed, by, move, keep, drop, use1, join, fsplit, fsplit3, fjoin, fjoin3, fpick, fpack, rewrite, stop, fld, load, addr, size_word, of_opd, bin, first, blocks, exec, returns, look_raw, alloc_all, pass_all, free_all, look_at, get, get_in, through}
use Rattle.mem_blocks.proofs.Walks.{sets, sets_last, is, env, sub, all_of_it, tables, fact, yes, no, RattleType, owns, types_at, plain, mem, Ptr, block_of, count_of, InBlock, nothing, heard, param, bounded, layout, param_laws, usize, mut_vals, mut_Tells, uint_vals, uint_Tells, Member}
use Rattle.mem_blocks.proofs.Walks.{Stays, stay_dropped, stay_ref, walk_of, Goes-dropped, Goes-ref, spread, proved, leaves, Hand, Sitter, sitter, Same, slots_at, hand_owns, SLOTS, after, place_val, place_values, full_product, tells, takes_ref, opens_ref, shuts_ref, enters_at}
use Rattle.mem_blocks.specs.contracts.block.BlockPtr as link
use Rattle.mem_blocks.specs.contracts.web.Seat as seat
use Rattle.mem_blocks.proofs.Blocks as blocks
use Rattle.mem_blocks.specs.contracts.web.Seat.take.{ended, clauses, Key.name as #self}
use Rattle.mem_blocks.proofs.web.Seat.take.Statement.{statement}
use Rattle.mem_blocks.proofs.web.Seat.take.Code as code

pub take_spec : {M : Type 1} → statement M
take_spec 𝓤 𝓛 𝓜 𝓡 wired S V A L _ _ ga da dd _ _ =
    let H = 𝓛.H in let 𝓣 = tables 𝓤 H 𝓜 𝓡 𝓡.env in let R : RattleType = param 0 S in let W : RattleType = param 1 V in let Z : RattleType = param 2 A in
    let Seat : RattleType = seat.the_row R W Z ga in let code_of : Coded V.Denot = W.coded in let BlockPtr : RattleType = link.the_row R in let goal = ended S V A ga da dd in let c = clauses S V A ga da dd 𝓛 𝓜.mem 𝓡.returns in
    let at_types = bounded (a_type ∷ a_type ∷ a_type ∷ []) (S, (V, (A, tt))) (dcons da (dcons dd dnil)) in let mir = inst_fn at_types code.function in
    let kept_of : Stays goal.signature.params goal.kept = (stay_ref (0 ∷ []) tt (plain (λ _. Seat)), (stay_dropped (plain (λ _. BlockPtr)) no, (stay_dropped (plain (λ _. usize)) yes, tt))) in
    proved 𝓛 goal kept_of c 𝓜 𝓡 (Goes-ref 𝓛 4 0 tt (plain (λ _. Seat)), (Goes-dropped 𝓛 4 (plain (λ _. BlockPtr)) no (λ κs x f. refl), (Goes-dropped 𝓛 4 (plain (λ _. usize)) yes (λ κs x f. refl), tt))) (#self at_types) mir
    (code.unfolded 𝓤 H 𝓜 𝓡 wired (S, (V, (A, tt))) da dd) (λ κs. (mut_vals, ((λ x. place_val x.ptr ∷ []), (uint_vals w64, tt))))
    (λ κs. (mut_Tells (named 0) κs.0 Seat, (place_values R, (uint_Tells w64, tt)))) (λ κs qs bounds a ghost are.
    let y : (walk_of 𝓛 goal kept_of c).Ghost = ((κs, qs, bounds, a, (vptr a.0.ref_ptr.0 a.0.ref_ptr.1 ∷ [], (place_val a.1.0.ptr ∷ [], (vint w64 a.1.1.0 ∷ [], tt)))), ghost) in let Post : Val → SProp 𝓤 = (walk_of 𝓛 goal kept_of c).post y in
    let lawful = (param_laws 0 S L).lawful 𝓛 in let v : Member = record { row = R; ty = layout S } in let b' : ℕ = a.0.ref_ptr.0 in let o' : ℕ = a.0.ref_ptr.1 in let h : Seat.Denot = a.0.now in let m : Sitter S.Denot V.Denot = h.sitter in let p : Ptr = a.1.0.ptr in let j : ℕ = a.1.1.0 in
    let others : Fml = fsep (flft κs.1.0 qs.1.0) (fsep (flft κs.1.1.0 qs.1.1.0) (fsep (flft κs.1.1.1.0 qs.1.1.1.0) (ftrue))) in let Asked : Type 0 = InBlock p × ((x : S.Denot) × (m.hand ≡ Some (p, j, Some x))) in
    let sz : ℕ = (mem R).size in let b : ℕ = block_of p in let e : ℕ = j * sz + slots_at R (count_of p) in let Placed : Type 0 = blocks.Placed 𝓛 R (ga.dealloc_token h.heap) p j in
    qed 𝓛 (((‵ (flft κs.0 qs.0) ⊛ ‵ others) ⊛ ‵ (owns (types_at goal.signature.params κs) a y.0.4)) ∷ raw (fact 𝓤 _) ∷ raw (fact 𝓤 _) ∷ raw (fact 𝓤 _) ∷ raw (fact 𝓤 Asked) ∷ []) ∵
    keep ! (4 ∷ 0 ∷ []) $ heard ! Asked (λ asked. let x : S.Denot = asked.1.0 in takes_ref ! $
    enters_at ! p asked.0 𝓣.C 𝓣.Λ mir (λ u. vptr a.0.ref_ptr.0 a.0.ref_ptr.1 ∷ place_val u ∷ vint w64 a.1.1.0 ∷ []) Post $ alloc_all ! (λ l. pass_all ! refl ((tt, tt), ((tt, (tt, tt)), ((tt, record { fits = are.1.1.0.1 }), tt))) $ let locals = env mir.locals l in
    opens_ref ! tt Seat h b' o' (λ ts. refl) (λ ts. fsplit3 ! $ rewrite ! 1 (λ (u : Option (Hand S.Denot)). ‵ (hand_owns R u)) asked.1.1 refl $ move ! (1 ∷ []) $ fsplit ! $ fpick ! (λ at. drop ! $
    let near : j < SLOTS = at.2 in let less : j * sz ≤ SLOTS * sz = mul-le-mul_right sz (omega arith) in let tiny : sz < 2 ^ 31 = at.1 in let small : j * sz < 2 ^ 64 = omega arith in spread v ! lawful x b e (λ w good. first ! $ blocks ! $
    sets ! (of_opd ! (get_in ! (fld ! refl (stop !)) (sub ! 0 refl (all_of_it !)))) refl (tt, tt) $ sets ! (addr ! (through ! refl (fld ! refl (stop !)))) refl (tt, tt) $
    sets ! (is ! (bin ! (get ! refl) (size_word !) (record { fits = subst (λ (n : ℕ). n < 2 ^ 64) (sym (full_product j sz small)) small })) (ap (vint w64) (full_product j sz small))) refl (tt, record { fits = small }) $ sets ! (bin ! (get ! refl) (get ! refl) tt) refl (tt, tt) $
    sets_last ! (of_opd ! (load ! (through ! refl (stop !)) (look_raw ! 0 refl))) refl good $ exec ! 𝓣.C 𝓣.Λ locals (after 1 mir.body) (at_ret locals Post) $ sets ! (of_opd ! (get ! refl)) refl good $ use1 𝓛 (‵ (froom (bare (layout S)) b e)) (𝓛.laws.at_room (bare (layout S)) b e w) $
    -- [the slot; the value; the view; the block that is carried; the seat's fields; its place in four; the other tokens]
    nothing ! $ fpack ! Placed (λ _. ftrue) at $ fjoin ! $ move ! (2 ∷ 0 ∷ 3 ∷ []) $ fjoin3 ! $ move ! (0 ∷ 2 ∷ 3 ∷ 4 ∷ 5 ∷ 6 ∷ 7 ∷ []) $
    let m' : Sitter S.Denot V.Denot = sitter m.view (Some (p, j, None)) m.spare in let h' : Seat.Denot = record { marker = h.marker; web = h.web; heap = h.heap; id = h.id; sitter = m' } in let Ensured : Type 0 = (m.hand ≡ Some (p, j, Some x)) × (m' ≡ m') in let Kept : Type 0 = Same h' h in
    shuts_ref ! tt Seat h' ts b' o' 2 refl refl $ tells ! Ensured (asked.1.1, refl) $ tells ! Kept (refl, refl, refl) $ join ! $
    returns ! (look_at ! 0 refl) $ free_all ! refl $ keep ! (1 ∷ 2 ∷ 3 ∷ 0 ∷ []) $ by ! (leaves 𝓛 goal kept_of c y w x (h', (tt, (tt, tt))) (tt, (tt, (tt, tt))))))))))
