-- `take` makes a seat of the view, with nothing in hand.
use Rattle.mem_blocks.proofs.Walks.{◌≡◌, ℕ, [], ◌∷◌, refl, None, a_type, dcons, dnil, named, Val, vptr, inst_fn, Coded, SProp, Fml, ftrue, fsep, flft, ‵, raw, ◌⊛◌, ◌$◌, ◌∵◌, !, qed, by, move, keep, join, fjoin3, rewrite, no_more}
use Rattle.mem_blocks.proofs.Walks.{and_then, returns, enter, alloc_all, pass_all, free_all, look_at, get, sets, env, agg, tables, fact, yes, RattleType, owns, types_at, plain, heard, param, bounded, Tuple, RefOf, Stays, stay_dropped}
use Rattle.mem_blocks.proofs.Walks.{stay_ref, walk_of, Goes-dropped, Goes-ref, proved, leaves, mut_vals, mut_Tells, shr_vals, shr_Tells, Sitter, sitter, blank_val, tells, blank, nothing, takes_ref, opens_ref, shuts_ref}
use Rattle.std.specs.Prelude.{Bool, true, false}
use Rattle.mem_blocks.{specs.Laid.rested_owns, proofs.web.Rested.take.Statement.statement}
use Rattle.mem_blocks.specs.contracts.web.Web as web
use Rattle.mem_blocks.specs.contracts.web.Seat as seat
use Rattle.mem_blocks.specs.contracts.web.Rested as rested
use Rattle.mem_blocks.specs.contracts.web.Rested.take.{ended, clauses, Key.name as #self}
use Rattle.mem_blocks.proofs.web.Rested.take.Code as code

pub take_spec : {M : Type 1} → statement M
take_spec 𝓤 𝓛 𝓜 𝓡 wired V S K P A _ _ _ _ _ g d ga da dd _ _ _ =
    let H = 𝓛.H in let 𝓣 = tables 𝓤 H 𝓜 𝓡 𝓡.env in let W : RattleType = param 0 V in let R : RattleType = param 1 S in let X : RattleType = param 2 K in let Y : RattleType = param 3 P in let Z : RattleType = param 4 A in
    let Web : RattleType = web.the_row R W X Y Z g ga in let Seat : RattleType = seat.the_row R W Z ga in let Rested : RattleType = rested.the_row W in let code_of : Coded V.Denot = W.coded in
    let goal = ended V S K P A g d ga da dd in let c = clauses V S K P A g d ga da dd 𝓛 𝓜.mem 𝓡.returns in let at_types = bounded (a_type ∷ a_type ∷ a_type ∷ a_type ∷ a_type ∷ []) (V, (S, (K, (P, (A, tt))))) (dcons d (dcons da (dcons dd dnil))) in let mir = inst_fn at_types code.function in
    let kept_of : Stays goal.signature.params goal.kept = (stay_ref (0 ∷ []) tt (plain (λ _. Rested)), (stay_dropped (RefOf (1 ∷ []) tt (plain (λ _. Web)) (λ _. tt)) yes, tt)) in
    proved 𝓛 goal kept_of c 𝓜 𝓡 (Goes-ref 𝓛 7 0 tt (plain (λ _. Rested)), (Goes-dropped 𝓛 7 (RefOf (1 ∷ []) tt (plain (λ _. Web)) (λ _. tt)) yes (λ κs x f. refl), tt)) (#self at_types) mir
    (code.unfolded 𝓤 H 𝓜 𝓡 wired (V, (S, (K, (P, (A, tt))))) d da dd) (λ κs. (mut_vals, (shr_vals, tt)))
    (λ κs. (mut_Tells (named 0) κs.0 Rested, (shr_Tells (named 1) κs.1.0 Web, tt))) (λ κs qs bounds a ghost are.
    let y : (walk_of 𝓛 goal kept_of c).Ghost = ((κs, qs, bounds, a, (vptr a.0.ref_ptr.0 a.0.ref_ptr.1 ∷ [], (vptr a.1.0.ref_ptr.0 a.1.0.ref_ptr.1 ∷ [], tt))), ghost) in let Post : Val → SProp 𝓤 = (walk_of 𝓛 goal kept_of c).post y in
    let b' : ℕ = a.0.ref_ptr.0 in let o' : ℕ = a.0.ref_ptr.1 in let h : Rested.Denot = a.0.now in let t : Web.Denot = a.1.0.now in let Asked : Type 0 = h.asleep ≡ true in
    let others : Fml = fsep (flft κs.1.0 qs.1.0) (fsep (flft κs.1.1.0 qs.1.1.0) (fsep (flft κs.1.1.1.0 qs.1.1.1.0) (fsep (flft κs.1.1.1.1.0 qs.1.1.1.1.0) (fsep (flft κs.1.1.1.1.1.0 qs.1.1.1.1.1.0) (fsep (flft κs.1.1.1.1.1.1.0 qs.1.1.1.1.1.1.0) (ftrue)))))) in
    let h' : Rested.Denot = record { marker = h.marker; web = h.web; id = h.id; asleep = false; view = h.view } in let m : Sitter S.Denot V.Denot = sitter h.view None None in let r : Seat.Denot = record { marker = record {}; web = h.web; heap = t.heap; id = h.id; sitter = m } in
    let Out : Type 0 = (h.web ≡ h.web) × (t.heap ≡ t.heap) × (h.id ≡ h.id) × (m ≡ m) in let Left : Type 0 = h'.asleep ≡ false in
    qed 𝓛 (((‵ (flft κs.0 qs.0) ⊛ ‵ others) ⊛ ‵ (owns (types_at goal.signature.params κs) a y.0.4)) ∷ raw (fact 𝓤 _) ∷ raw (fact 𝓤 _) ∷ raw (fact 𝓤 _) ∷ raw (fact 𝓤 _) ∷ raw (fact 𝓤 _) ∷ raw (fact 𝓤 Asked) ∷ []) ∵
    keep ! (6 ∷ 0 ∷ []) $ heard ! Asked (λ asked. takes_ref ! $
    enter ! 𝓣.C 𝓣.Λ mir (vptr b' o' ∷ vptr a.1.0.ref_ptr.0 a.1.0.ref_ptr.1 ∷ []) Post $ alloc_all ! (λ l. pass_all ! refl ((tt, tt), ((tt, tt), tt)) $ let locals = env mir.locals l in
    opens_ref ! tt Rested h b' o' (λ ts. refl) (λ ts. rewrite ! 0 (λ (x : Bool). ‵ (rested_owns code_of.code h.web h.id x h.view)) asked refl $ nothing ! $ move ! (0 ∷ 2 ∷ 3 ∷ 4 ∷ 5 ∷ 6 ∷ 7 ∷ []) $ shuts_ref ! tt Rested h' ts b' o' 1 refl refl $
    move ! (2 ∷ []) $ nothing ! $ nothing ! $ move ! (2 ∷ 0 ∷ 1 ∷ []) $ fjoin3 ! $ blank ! (Tuple (R ∷ W ∷ Z ∷ [])) $
    sets ! (agg ! (no_more !)) refl (tt, tt) $ sets ! (agg ! (and_then ! (get ! refl) (no_more !))) refl (tt, (tt, tt)) $ tells ! Left refl $ tells ! Out (refl, refl, refl, refl) $ join ! $
    returns ! (look_at ! 0 refl) $ free_all ! refl $ keep ! (2 ∷ 3 ∷ 1 ∷ 0 ∷ []) $ by ! (leaves 𝓛 goal kept_of c y blank_val r (h', (tt, tt)) (tt, (tt, tt)))))))
