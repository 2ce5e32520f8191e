-- `release` moves the block out of the seat.
use Rattle.mem_blocks.proofs.Walks.{◌≡◌, ℕ, List, [], ◌∷◌, refl, Option, Some, None, Ty, a_type, dcons, dnil, named, Val, vptr, inst_fn, Coded, SProp, Fml, ftrue, fsep, flft, ‵, raw, ◌⊛◌, ◌$◌, ◌∵◌, !, qed, by, move, keep, join, fsplit3}
use Rattle.mem_blocks.proofs.Walks.{fjoin3, rewrite, no_more, and_then, returns, enter, alloc_all, pass_all, free_all, look_at, get, sets, env, agg, tables, fact, RattleType, owns, types_at, plain, Ptr, nothing, heard, param, bounded}
use Rattle.mem_blocks.proofs.Walks.{mut_vals, mut_Tells, Tuple, Stays, stay_ref, walk_of, Goes-ref, proved, leaves, Home, Block, Sitter, sitter, alive_at, Same, spare_owns, blank_val, tells, blank, takes_ref, opens_ref, shuts_ref}
use Rattle.mem_blocks.specs.contracts.block.Loose as loose
use Rattle.mem_blocks.specs.contracts.web.Seat as seat
use Rattle.mem_blocks.specs.contracts.web.Seat.release.{ended, clauses, Key.name as #self}
use Rattle.mem_blocks.proofs.web.Seat.release.Statement.{statement}
use Rattle.mem_blocks.proofs.web.Seat.release.Code as code

pub release_spec : {M : Type 1} → statement M
release_spec 𝓤 𝓛 𝓜 𝓡 wired S V A L _ _ ga da dd _ _ =
    let H = 𝓛.H in let 𝓣 = tables 𝓤 H 𝓜 𝓡 𝓡.env in let R : RattleType = param 0 S in let W : RattleType = param 1 V in let Z : RattleType = param 2 A in
    let Seat : RattleType = seat.the_row R W Z ga in let code_of : Coded V.Denot = W.coded in let Loose : RattleType = loose.the_row R Z ga in let goal = ended S V A ga da dd in let c = clauses S V A ga da dd 𝓛 𝓜.mem 𝓡.returns in
    let at_types = bounded (a_type ∷ a_type ∷ a_type ∷ []) (S, (V, (A, tt))) (dcons da (dcons dd dnil)) in let mir = inst_fn at_types code.function in let kept_of : Stays goal.signature.params goal.kept = (stay_ref (0 ∷ []) tt (plain (λ _. Seat)), tt) in
    proved 𝓛 goal kept_of c 𝓜 𝓡 (Goes-ref 𝓛 4 0 tt (plain (λ _. Seat)), tt) (#self at_types) mir
    (code.unfolded 𝓤 H 𝓜 𝓡 wired (S, (V, (A, tt))) da dd) (λ κs. (mut_vals, tt))
    (λ κs. (mut_Tells (named 0) κs.0 Seat, tt)) (λ κs qs bounds a ghost are.
    let y : (walk_of 𝓛 goal kept_of c).Ghost = ((κs, qs, bounds, a, (vptr a.0.ref_ptr.0 a.0.ref_ptr.1 ∷ [], tt)), ghost) in let Post : Val → SProp 𝓤 = (walk_of 𝓛 goal kept_of c).post y in
    let b' : ℕ = a.0.ref_ptr.0 in let o' : ℕ = a.0.ref_ptr.1 in let h : Seat.Denot = a.0.now in let m : Sitter S.Denot V.Denot = h.sitter in let token : Ty → Ptr → Fml = ga.dealloc_token h.heap in
    let Asked : Type 0 = (x : Ptr × Ptr × List ℕ × List (Home S.Denot)) × (m.spare ≡ Some (alive_at x.0 x.1 x.2 x.3)) in let others : Fml = fsep (flft κs.1.0 qs.1.0) (fsep (flft κs.1.1.0 qs.1.1.0) (fsep (flft κs.1.1.1.0 qs.1.1.1.0) (ftrue))) in
    let m' : Sitter S.Denot V.Denot = sitter m.view m.hand None in let h' : Seat.Denot = record { marker = h.marker; web = h.web; heap = h.heap; id = h.id; sitter = m' } in let Ensured : Type 0 = Same h' h × (m' ≡ m') in
    qed 𝓛 (((‵ (flft κs.0 qs.0) ⊛ ‵ others) ⊛ ‵ (owns (types_at goal.signature.params κs) a y.0.4)) ∷ raw (fact 𝓤 _) ∷ raw (fact 𝓤 _) ∷ raw (fact 𝓤 _) ∷ raw (fact 𝓤 Asked) ∷ []) ∵
    keep ! (4 ∷ 0 ∷ []) $ heard ! Asked (λ asked. let x = asked.0 in takes_ref ! $ let r : Loose.Denot = record { marker = record {}; heap = h.heap; at = x.0; next = x.1; words = x.2; homes = x.3 } in let Out : Type 0 = (h.heap ≡ h.heap) × (m.spare ≡ Some (alive_at x.0 x.1 x.2 x.3)) in
    enter ! 𝓣.C 𝓣.Λ mir (vptr b' o' ∷ []) Post $ alloc_all ! (λ l. pass_all ! refl ((tt, tt), tt) $ let locals = env mir.locals l in
    opens_ref ! tt Seat h b' o' (λ ts. refl) (λ ts. fsplit3 ! $ rewrite ! 2 (λ (u : Option (Block S.Denot)). ‵ (spare_owns R token u)) asked.1 refl $
    nothing ! $ move ! (1 ∷ 2 ∷ 0 ∷ []) $ fjoin3 ! $ move ! (0 ∷ 2 ∷ 3 ∷ 4 ∷ 5 ∷ 6 ∷ 7 ∷ []) $ shuts_ref ! tt Seat h' ts b' o' 0 refl refl $ move ! (2 ∷ []) $ blank ! (Tuple (R ∷ Z ∷ [])) $
    sets ! (agg ! (no_more !)) refl (tt, tt) $ sets ! (agg ! (and_then ! (get ! refl) (no_more !))) refl (tt, (tt, tt)) $ tells ! Out (refl, asked.1) $ tells ! Ensured ((refl, refl, refl), refl) $ join ! $
    returns ! (look_at ! 0 refl) $ free_all ! refl $ keep ! (2 ∷ 3 ∷ 1 ∷ 0 ∷ []) $ by ! (leaves 𝓛 goal kept_of c y blank_val r (h', tt) (tt, tt))))))
