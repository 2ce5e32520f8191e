-- `share` begins the web's lifetime, and lends the blocks to its invariant.
use Rattle.mem_blocks.proofs.Walks.{◌≡◌, List, [], ◌∷◌, refl, None, Ty, a_type, dcons, dnil, named, Val, vptr, vstruct, vcons, vnil, inst_fn, Coded, SProp, Fml, ‵, raw, ◌⊛◌, some, later, ◌$◌, ◌∵◌, !, qed, by, move, keep, drop, use1, split, join, fsplit, fjoin}
use Rattle.mem_blocks.proofs.Walks.{fjoin3, fpack, pick, await, feq_i, no_more, and_then, returns, enter, alloc_all, pass_all, free_all, look_at, get, sets, env, agg, tables, fact, yes, no, RattleType, Valss, owns, types_at, plain, Ptr, RawPtr, nothing, heard, param}
use Rattle.mem_blocks.proofs.Walks.{bounded, RefOf, shr_vals, shr_Tells, within, Tuple, tuple_type, alive, Stays, stay_dropped, walk_of, Goes-dropped, proved, leaves, Block, sitter, WebId, seat_owns, web_owns, blank_val, blank_values, tells, blank, spends}
use denote.Struct.Declared as declared
use Rattle.mem_blocks.specs.contracts.web.Web as web
use Rattle.mem_blocks.specs.contracts.web.Seat as seat
use Rattle.mem_blocks.specs.contracts.chain.Chain as chain
use Rattle.mem_blocks.proofs.Moves as moves
use Rattle.mem_blocks.specs.contracts.chain.Chain.share.{ended, clauses, Key.name as #self}
use Rattle.mem_blocks.proofs.chain.Chain.share.Statement.{statement}
use Rattle.mem_blocks.proofs.chain.Chain.share.Code as code

pub share_spec : {M : Type 1} → statement M
unfolding Rattle.mem_blocks.specs.Laid.seal
share_spec 𝓤 𝓛 𝓜 𝓡 wired S A V K P _ _ _ _ _ ga da dd g d _ _ _ =
    let H = 𝓛.H in let 𝓣 = tables 𝓤 H 𝓜 𝓡 𝓡.env in let R : RattleType = param 0 S in let Z : RattleType = param 1 A in let W : RattleType = param 2 V in let X : RattleType = param 3 K in let Y : RattleType = param 4 P in
    let Web : RattleType = web.the_row R W X Y Z g ga in let Seat : RattleType = seat.the_row R W Z ga in let code_of : Coded V.Denot = W.coded in let Chain : RattleType = chain.the_row R Z ga in
    let goal = ended S A V K P ga da dd g d in let c = clauses S A V K P ga da dd g d 𝓛 𝓜.mem 𝓡.returns in let at_types = bounded (a_type ∷ a_type ∷ a_type ∷ a_type ∷ a_type ∷ []) (S, (A, (V, (K, (P, tt))))) (dcons da (dcons dd (dcons d dnil))) in let mir = inst_fn at_types code.function in
    let kept_of : Stays goal.signature.params goal.kept = (stay_dropped (plain (λ _. Chain)) no, (stay_dropped (RefOf (0 ∷ []) tt (plain (λ _. X)) (λ _. tt)) yes, tt)) in
    proved 𝓛 goal kept_of c 𝓜 𝓡 (Goes-dropped 𝓛 6 (plain (λ _. Chain)) no (λ κs x f. refl), (Goes-dropped 𝓛 6 (RefOf (0 ∷ []) tt (plain (λ _. X)) (λ _. tt)) yes (λ κs x f. refl), tt)) (#self at_types) mir
    (code.unfolded 𝓤 H 𝓜 𝓡 wired (S, (A, (V, (K, (P, tt))))) da dd d) (λ κs. ((λ _. blank_val ∷ []), (shr_vals, tt)))
    (λ κs. ((λ x vs so. blank_values (Tuple (R ∷ Z ∷ [])) vs so.0), (shr_Tells (named 0) κs.0 X, tt))) (λ κs qs bounds a ghost are.
    let y : (walk_of 𝓛 goal kept_of c).Ghost = ((κs, qs, bounds, a, (blank_val ∷ [], (vptr a.1.0.ref_ptr.0 a.1.0.ref_ptr.1 ∷ [], tt))), ghost) in let Post : Val → SProp 𝓤 = (walk_of 𝓛 goal kept_of c).post y in
    let key : K.Denot = a.1.0.now in let x : Chain.Denot = a.0 in let heap : A.Denot = x.heap in let token : Ty → Ptr → Fml = ga.dealloc_token heap in let holds = g.holds key in
    let bs : List (Block S.Denot) = x.blocks in let v : V.Denot = g.first key in let Good : Type 0 = holds record { blocks = bs; views = v ∷ [] } in let pair : Val = vstruct (vcons blank_val (vcons blank_val vnil)) in
    qed 𝓛 ((raw (alive 𝓛 goal.signature κs qs) ⊛ ‵ (owns (types_at goal.signature.params κs) a y.0.4)) ∷ raw (fact 𝓤 _) ∷ raw (fact 𝓤 _) ∷ raw (fact 𝓤 _) ∷ raw (fact 𝓤 _) ∷ raw (fact 𝓤 _) ∷ raw (fact 𝓤 Good) ∷ []) ∵
    keep ! (6 ∷ 0 ∷ []) $ heard ! Good (λ good. split ! $ move ! (1 ∷ []) $ fsplit ! $ fsplit ! $ drop ! $ keep ! (0 ∷ 2 ∷ []) $
    enter ! 𝓣.C 𝓣.Λ mir (blank_val ∷ vptr a.1.0.ref_ptr.0 a.1.0.ref_ptr.1 ∷ []) Post $ alloc_all ! (λ l. pass_all ! refl ((tt, (tt, tt)), ((tt, tt), tt)) $ let locals = env mir.locals l in
    use1 𝓛 (later (some (λ (z : WebId). ‵ (web_owns R token code_of.code z holds) ⊛ ‵ (seat_owns R token code_of.code z 0 (sitter v None None))))) (moves.begins 𝓛 R token code_of holds bs v good) $ await ! tt $ pick ! (λ z. split ! $
    let w : Web.Denot = record { marker = record {}; id = z; key = key; heap = heap } in let r : Seat.Denot = record { marker = record {}; web = z; heap = heap; id = 0; sitter = sitter v None None } in
    let Made : Type 0 = (key ≡ key) × (heap ≡ heap) in let Seated : Type 0 = (z ≡ z) × (heap ≡ heap) × (0 ≡ 0) × (r.sitter ≡ r.sitter) in sets ! (agg ! (no_more !)) refl (tt, tt) $ sets ! (agg ! (and_then ! (get ! refl) (no_more !))) refl (tt, (tt, tt)) $
    sets ! (agg ! (no_more !)) refl (tt, tt) $ sets ! (agg ! (and_then ! (get ! refl) (no_more !))) refl (tt, (tt, tt)) $ sets ! (agg ! (and_then ! (get ! refl) (and_then ! (get ! refl) (no_more !)))) refl (tt, ((tt, tt), ((tt, tt), tt))) $ blank ! RawPtr $ move ! (1 ∷ []) $
    blank ! (Tuple (R ∷ W ∷ Z ∷ [])) $ nothing ! $ move ! (2 ∷ 1 ∷ 0 ∷ []) $ fjoin3 ! $ feq_i ! (List Val) (pair ∷ []) (pair ∷ []) refl $ fjoin ! $
    fpack ! (Valss (Web ∷ Seat ∷ [])) (within (declared.shape (tuple_type (Web ∷ Seat ∷ []))) (w, (r, tt)) (pair ∷ [])) (blank_val ∷ [], (blank_val ∷ [], tt)) $ tells ! Seated (refl, refl, refl, refl) $ tells ! Made (refl, refl) $ join ! $ spends ! 2 $
    returns ! (look_at ! 0 refl) $ free_all ! refl $ keep ! (3 ∷ 0 ∷ 2 ∷ 1 ∷ []) $ by ! (leaves 𝓛 goal kept_of c y pair (w, r) (tt, (tt, tt)) (tt, (tt, tt)))))))
