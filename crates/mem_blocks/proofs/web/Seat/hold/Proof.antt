-- `hold` moves the block into the seat.
use Rattle.mem_blocks.proofs.Walks.{◌≡◌, ℕ, List, [], ◌∷◌, refl, Some, None, Ty, a_type, dcons, dnil, named, Val, vunit, vptr, inst_fn, Coded, SProp, Fml, ftrue, fsep, flft, ‵, raw, ◌⊛◌, ◌$◌, ◌∵◌, !, qed, by, move, keep, drop, split, join, fsplit}
use Rattle.mem_blocks.proofs.Walks.{fsplit3, fjoin3, rewrite, feq_i, unit_lit, of_opd, returns, enter, alloc_all, pass_all, free_all, look_at, sets, env, tables, fact, no, RattleType, owns, types_at, plain, Ptr, heard, param, bounded, mut_vals}
use Rattle.mem_blocks.proofs.Walks.{mut_Tells, Tuple, Stays, stay_dropped, stay_ref, walk_of, Goes-dropped, Goes-ref, proved, leaves, Block, Sitter, sitter, alive_at, Same, block_owns, blank_val, blank_values, tells, opens_ref, shuts_ref}
use Rattle.mem_blocks.specs.contracts.block.Loose as loose
use Rattle.mem_blocks.specs.contracts.web.Seat as seat
use Rattle.mem_blocks.specs.contracts.web.Seat.hold.{ended, clauses, Key.name as #self}
use Rattle.mem_blocks.proofs.web.Seat.hold.Statement.{statement}
use Rattle.mem_blocks.proofs.web.Seat.hold.Code as code

pub hold_spec : {M : Type 1} → statement M
hold_spec 𝓤 𝓛 𝓜 𝓡 wired S V A L _ _ ga da dd _ _ =
    let H = 𝓛.H in let 𝓣 = tables 𝓤 H 𝓜 𝓡 𝓡.env in let R : RattleType = param 0 S in let W : RattleType = param 1 V in let Z : RattleType = param 2 A in
    let Seat : RattleType = seat.the_row R W Z ga in let code_of : Coded V.Denot = W.coded in let Loose : RattleType = loose.the_row R Z ga in let goal = ended S V A ga da dd in let c = clauses S V A ga da dd 𝓛 𝓜.mem 𝓡.returns in
    let at_types = bounded (a_type ∷ a_type ∷ a_type ∷ []) (S, (V, (A, tt))) (dcons da (dcons dd dnil)) in let mir = inst_fn at_types code.function in
    let kept_of : Stays goal.signature.params goal.kept = (stay_ref (0 ∷ []) tt (plain (λ _. Seat)), (stay_dropped (plain (λ _. Loose)) no, tt)) in
    proved 𝓛 goal kept_of c 𝓜 𝓡 (Goes-ref 𝓛 4 0 tt (plain (λ _. Seat)), (Goes-dropped 𝓛 4 (plain (λ _. Loose)) no (λ κs x f. refl), tt)) (#self at_types) mir
    (code.unfolded 𝓤 H 𝓜 𝓡 wired (S, (V, (A, tt))) da dd) (λ κs. (mut_vals, ((λ _. blank_val ∷ []), tt)))
    (λ κs. (mut_Tells (named 0) κs.0 Seat, ((λ x vs so. blank_values (Tuple (R ∷ Z ∷ [])) vs so.0), tt))) (λ κs qs bounds a ghost are.
    let y : (walk_of 𝓛 goal kept_of c).Ghost = ((κs, qs, bounds, a, (vptr a.0.ref_ptr.0 a.0.ref_ptr.1 ∷ [], (blank_val ∷ [], tt))), ghost) in let Post : Val → SProp 𝓤 = (walk_of 𝓛 goal kept_of c).post y in
    let b' : ℕ = a.0.ref_ptr.0 in let o' : ℕ = a.0.ref_ptr.1 in let h : Seat.Denot = a.0.now in let m : Sitter S.Denot V.Denot = h.sitter in let token : Ty → Ptr → Fml = ga.dealloc_token h.heap in let x : Loose.Denot = a.1.0 in let B : Block S.Denot = alive_at x.at x.next x.words x.homes in
    let Asked : Type 0 = (x.heap ≡ h.heap) × (m.spare ≡ None) in let others : Fml = fsep (flft κs.1.0 qs.1.0) (fsep (flft κs.1.1.0 qs.1.1.0) (fsep (flft κs.1.1.1.0 qs.1.1.1.0) (ftrue))) in
    let m' : Sitter S.Denot V.Denot = sitter m.view m.hand (Some B) in let h' : Seat.Denot = record { marker = h.marker; web = h.web; heap = h.heap; id = h.id; sitter = m' } in let Ensured : Type 0 = m' ≡ m' in let Kept : Type 0 = Same h' h in
    qed 𝓛 (((‵ (flft κs.0 qs.0) ⊛ ‵ others) ⊛ ‵ (owns (types_at goal.signature.params κs) a y.0.4)) ∷ raw (fact 𝓤 _) ∷ raw (fact 𝓤 _) ∷ raw (fact 𝓤 _) ∷ raw (fact 𝓤 Asked) ∷ []) ∵
    keep ! (4 ∷ 0 ∷ []) $ heard ! Asked (λ asked. split ! $ split ! $ move ! (2 ∷ []) $ fsplit3 ! $ fsplit3 ! $ move ! (3 ∷ []) $ fsplit ! $ keep ! (3 ∷ 4 ∷ 6 ∷ 1 ∷ 7 ∷ []) $ rewrite ! 3 (λ (u : A.Denot). ‵ (block_owns R (ga.dealloc_token u) B)) asked.0 refl $
    enter ! 𝓣.C 𝓣.Λ mir (vptr b' o' ∷ blank_val ∷ []) Post $ alloc_all ! (λ l. pass_all ! refl ((tt, tt), ((tt, (tt, tt)), tt)) $ let locals = env mir.locals l in
    opens_ref ! tt Seat h b' o' (λ ts. refl) (λ ts. fsplit3 ! $ move ! (2 ∷ []) $ drop ! $ move ! (0 ∷ 1 ∷ 7 ∷ []) $ fjoin3 ! $ shuts_ref ! tt Seat h' ts b' o' 1 refl refl $ sets ! (of_opd ! (unit_lit !)) refl (tt, tt) $
    tells ! Ensured refl $ tells ! Kept (refl, refl, refl) $ join ! $ feq_i ! (List Val) (vunit ∷ []) (vunit ∷ []) refl $
    returns ! (look_at ! 0 refl) $ free_all ! refl $ keep ! (2 ∷ 3 ∷ 0 ∷ 1 ∷ []) $ by ! (leaves 𝓛 goal kept_of c y vunit tt (h', (tt, tt)) (tt, (tt, tt)))))))
