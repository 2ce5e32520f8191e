-- `close` ends the web's lifetime, and has its blocks back.
use Rattle.mem_blocks.proofs.Walks.{◌≡◌, List, [], ◌∷◌, refl, Ty, a_type, dcons, dnil, Val, inst_fn, Coded, SProp, Fml, ‵, raw, ◌⊛◌, some, given, later, ◌$◌, ◌∵◌, !, qed, by, move, keep, use1, split, fsplit, pick, learn, await, no_more, and_then, returns, enter, alloc_all, pass_all, free_all}
use Rattle.mem_blocks.proofs.Walks.{look_at, get, sets, env, agg, tables, no, RattleType, owns, types_at, plain, Ptr, RawPtr, param, bounded, Tuple, alive, Stays, stay_dropped, walk_of, Goes-dropped, proved, leaves, Block, LastBlocks, chain_owns, blank_val, blank_values, tells, blank, spends}
use Rattle.mem_blocks.specs.contracts.web.Web as web
use Rattle.mem_blocks.specs.contracts.web.Seat as seat
use Rattle.mem_blocks.specs.contracts.chain.Chain as chain
use Rattle.mem_blocks.proofs.Moves as moves
use Rattle.mem_blocks.specs.contracts.web.Web.close.{ended, clauses, Key.name as #self}
use Rattle.mem_blocks.proofs.web.Web.close.Statement.{statement}
use Rattle.mem_blocks.proofs.web.Web.close.Code as code

pub close_spec : {M : Type 1} → statement M
unfolding Rattle.mem_blocks.specs.Laid.seal
close_spec 𝓤 𝓛 𝓜 𝓡 wired S V K P A _ _ _ _ _ g d ga da dd _ _ _ =
    let H = 𝓛.H in let 𝓣 = tables 𝓤 H 𝓜 𝓡 𝓡.env in let R : RattleType = param 0 S in let W : RattleType = param 1 V in let X : RattleType = param 2 K in let Y : RattleType = param 3 P in let Z : RattleType = param 4 A in
    let Web : RattleType = web.the_row R W X Y Z g ga in let Seat : RattleType = seat.the_row R W Z ga in let code_of : Coded V.Denot = W.coded in let Chain : RattleType = chain.the_row R Z ga in
    let goal = ended S V K P A g d ga da dd in let c = clauses S V K P A g d ga da dd 𝓛 𝓜.mem 𝓡.returns in let at_types = bounded (a_type ∷ a_type ∷ a_type ∷ a_type ∷ a_type ∷ []) (S, (V, (K, (P, (A, tt))))) (dcons d (dcons da (dcons dd dnil))) in let mir = inst_fn at_types code.function in
    let kept_of : Stays goal.signature.params goal.kept = (stay_dropped (plain (λ _. Web)) no, tt) in proved 𝓛 goal kept_of c 𝓜 𝓡 (Goes-dropped 𝓛 5 (plain (λ _. Web)) no (λ κs x f. refl), tt) (#self at_types) mir
    (code.unfolded 𝓤 H 𝓜 𝓡 wired (S, (V, (K, (P, (A, tt))))) d da dd) (λ κs. ((λ _. blank_val ∷ []), tt))
    (λ κs. ((λ x vs so. blank_values RawPtr vs so.0), tt)) (λ κs qs bounds a ghost are.
    let y : (walk_of 𝓛 goal kept_of c).Ghost = ((κs, qs, bounds, a, (blank_val ∷ [], tt)), ghost) in let Post : Val → SProp 𝓤 = (walk_of 𝓛 goal kept_of c).post y in let t : Web.Denot = a.0 in let token : Ty → Ptr → Fml = ga.dealloc_token t.heap in let holds = g.holds t.key in
    qed 𝓛 ((raw (alive 𝓛 goal.signature κs qs) ⊛ ‵ (owns (types_at goal.signature.params κs) a y.0.4)) ∷ raw ((c κs a).requires ghost) ∷ []) ∵ keep ! (0 ∷ []) $ split ! $ move ! (1 ∷ []) $ fsplit ! $ fsplit ! $ keep ! (1 ∷ 3 ∷ []) $
    enter ! 𝓣.C 𝓣.Λ mir (blank_val ∷ []) Post $ alloc_all ! (λ l. pass_all ! refl ((tt, (tt, tt)), tt) $ let locals = env mir.locals l in
    use1 𝓛 (later (some (λ (bs : List (Block S.Denot)). given (LastBlocks holds bs) (‵ (chain_owns R token bs))))) (moves.ends 𝓛 R token code_of holds t.id) $ await ! tt $ pick ! (λ bs. learn ! (λ so.
    let r : Chain.Denot = record { marker = record {}; heap = t.heap; blocks = bs } in let Ensured : Type 0 = (t.heap ≡ t.heap) × LastBlocks holds bs in sets ! (agg ! (no_more !)) refl (tt, tt) $ sets ! (agg ! (and_then ! (get ! refl) (no_more !))) refl (tt, (tt, tt)) $
    blank ! (Tuple (R ∷ Z ∷ [])) $ tells ! Ensured (refl, so) $ spends ! 1 $
    returns ! (look_at ! 0 refl) $ free_all ! refl $ keep ! (3 ∷ 0 ∷ 2 ∷ 1 ∷ []) $ by ! (leaves 𝓛 goal kept_of c y blank_val r (tt, tt) (tt, tt))))))
