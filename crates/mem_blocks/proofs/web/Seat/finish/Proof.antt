-- `finish` ends the web's lifetime, and has its blocks back.
use Rattle.mem_blocks.proofs.Walks.{◌≡◌, List, [], ◌∷◌, refl, Ty, a_type, dcons, dnil, Val, inst_fn, Coded, SProp, Fml, ‵, raw, ◌⊛◌, some, given, later, ◌$◌, ◌∵◌, !, qed, by, move, keep, drop, use2, split, fsplit, fsplit3, pick, learn}
use Rattle.mem_blocks.proofs.Walks.{await, rewrite, no_more, and_then, returns, enter, alloc_all, pass_all, free_all, look_at, get, sets, env, agg, tables, fact, no, RattleType, owns, types_at, plain, Ptr, RawPtr, heard, param, bounded}
use Rattle.mem_blocks.proofs.Walks.{Tuple, alive, Stays, stay_dropped, walk_of, Goes-dropped, proved, leaves, Block, Sitter, LastBlocksBy, Sits, WebId, chain_owns, seat_owns, blank_val, blank_values, tells, blank, spends}
use Rattle.mem_blocks.specs.contracts.web.Web as web
use Rattle.mem_blocks.specs.contracts.web.Seat as seat
use Rattle.mem_blocks.specs.contracts.chain.Chain as chain
use Rattle.mem_blocks.proofs.Moves as moves
use Rattle.mem_blocks.specs.contracts.web.Seat.finish.{ended, clauses, Key.name as #self}
use Rattle.mem_blocks.proofs.web.Seat.finish.Statement.{statement}
use Rattle.mem_blocks.proofs.web.Seat.finish.Code as code

pub finish_spec : {M : Type 1} → statement M
unfolding Rattle.mem_blocks.specs.Laid.seal
finish_spec 𝓤 𝓛 𝓜 𝓡 wired S V A K P _ _ _ _ _ ga da dd g d _ _ _ =
    let H = 𝓛.H in let 𝓣 = tables 𝓤 H 𝓜 𝓡 𝓡.env in let R : RattleType = param 0 S in let W : RattleType = param 1 V in let Z : RattleType = param 2 A in let X : RattleType = param 3 K in let Y : RattleType = param 4 P in
    let Web : RattleType = web.the_row R W X Y Z g ga in let Seat : RattleType = seat.the_row R W Z ga in let code_of : Coded V.Denot = W.coded in let Chain : RattleType = chain.the_row R Z ga in
    let goal = ended S V A K P ga da dd g d in let c = clauses S V A K P ga da dd g d 𝓛 𝓜.mem 𝓡.returns in let at_types = bounded (a_type ∷ a_type ∷ a_type ∷ a_type ∷ a_type ∷ []) (S, (V, (A, (K, (P, tt))))) (dcons da (dcons dd (dcons d dnil))) in let mir = inst_fn at_types code.function in
    let kept_of : Stays goal.signature.params goal.kept = (stay_dropped (plain (λ _. Seat)) no, (stay_dropped (plain (λ _. Web)) no, tt)) in
    proved 𝓛 goal kept_of c 𝓜 𝓡 (Goes-dropped 𝓛 5 (plain (λ _. Seat)) no (λ κs x f. refl), (Goes-dropped 𝓛 5 (plain (λ _. Web)) no (λ κs x f. refl), tt)) (#self at_types) mir
    (code.unfolded 𝓤 H 𝓜 𝓡 wired (S, (V, (A, (K, (P, tt))))) da dd d) (λ κs. ((λ _. blank_val ∷ []), ((λ _. blank_val ∷ []), tt)))
    (λ κs. ((λ x vs so. blank_values (Tuple (R ∷ W ∷ Z ∷ [])) vs so.0), ((λ x vs so. blank_values RawPtr vs so.0), tt))) (λ κs qs bounds a ghost are.
    let y : (walk_of 𝓛 goal kept_of c).Ghost = ((κs, qs, bounds, a, (blank_val ∷ [], (blank_val ∷ [], tt))), ghost) in let Post : Val → SProp 𝓤 = (walk_of 𝓛 goal kept_of c).post y in
    let h : Seat.Denot = a.0 in let t : Web.Denot = a.1.0 in let token : Ty → Ptr → Fml = ga.dealloc_token t.heap in let holds = g.holds t.key in let m : Sitter S.Denot V.Denot = h.sitter in let Asked : Type 0 = Sits h t in
    qed 𝓛 ((raw (alive 𝓛 goal.signature κs qs) ⊛ ‵ (owns (types_at goal.signature.params κs) a y.0.4)) ∷ raw (fact 𝓤 _) ∷ raw (fact 𝓤 _) ∷ raw (fact 𝓤 _) ∷ raw (fact 𝓤 _) ∷ raw (fact 𝓤 _) ∷ raw (fact 𝓤 Asked) ∷ []) ∵ keep ! (6 ∷ 0 ∷ []) $ heard ! Asked (λ asked.
    split ! $ move ! (1 ∷ []) $ fsplit3 ! $ fsplit ! $ drop ! $ move ! (1 ∷ []) $ fsplit ! $ drop ! $ keep ! (0 ∷ 1 ∷ 3 ∷ []) $
    rewrite ! 1 (λ (x : WebId × A.Denot). ‵ (seat_owns R (ga.dealloc_token x.1) code_of.code x.0 h.id m)) (λ j. (asked.0 j, asked.1 j)) refl $ move ! (1 ∷ 0 ∷ []) $
    enter ! 𝓣.C 𝓣.Λ mir (blank_val ∷ blank_val ∷ []) Post $ alloc_all ! (λ l. pass_all ! refl ((tt, (tt, tt)), ((tt, (tt, tt)), tt)) $ let locals = env mir.locals l in
    use2 𝓛 (later (some (λ (bs : List (Block S.Denot)). given (LastBlocksBy holds h.id m.view bs) (‵ (chain_owns R token bs))))) (moves.ends_by 𝓛 R token code_of holds t.id h.id m) $ await ! tt $ pick ! (λ bs. learn ! (λ so.
    let r : Chain.Denot = record { marker = record {}; heap = t.heap; blocks = bs } in let Ensured : Type 0 = (t.heap ≡ t.heap) × LastBlocksBy holds h.id m.view bs in sets ! (agg ! (no_more !)) refl (tt, tt) $ sets ! (agg ! (and_then ! (get ! refl) (no_more !))) refl (tt, (tt, tt)) $
    blank ! (Tuple (R ∷ Z ∷ [])) $ tells ! Ensured (refl, so) $ spends ! 2 $
    returns ! (look_at ! 0 refl) $ free_all ! refl $ keep ! (3 ∷ 0 ∷ 2 ∷ 1 ∷ []) $ by ! (leaves 𝓛 goal kept_of c y blank_val r (tt, (tt, tt)) (tt, (tt, tt))))))))
