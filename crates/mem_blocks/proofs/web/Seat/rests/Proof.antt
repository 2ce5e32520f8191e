-- `rests` keeps the view of a seat.
use Rattle.mem_blocks.proofs.Walks.{◌≡◌, [], ◌∷◌, refl, None, a_type, dcons, dnil, Val, inst_fn, SProp, ‵, raw, ◌⊛◌, ◌$◌, ◌∵◌, !, qed, by, move, keep, split, fsplit, fsplit3, no_more, and_then, returns, enter, alloc_all, pass_all, free_all, look_at, get, sets, env}
use Rattle.mem_blocks.proofs.Walks.{agg, tables, fact, no, RattleType, owns, types_at, plain, heard, param, bounded, Tuple, alive, Stays, stay_dropped, walk_of, Goes-dropped, proved, leaves, Sitter, blank_val, blank_values, tells, blank, spends}
use Rattle.std.specs.Prelude.{true}
use Rattle.mem_blocks.specs.contracts.web.Seat as seat
use Rattle.mem_blocks.specs.contracts.web.Rested as rested
use Rattle.mem_blocks.specs.contracts.web.Seat.rests.{ended, clauses, Key.name as #self}
use Rattle.mem_blocks.proofs.web.Seat.rests.Statement.{statement}
use Rattle.mem_blocks.proofs.web.Seat.rests.Code as code

pub rests_spec : {M : Type 1} → statement M
rests_spec 𝓤 𝓛 𝓜 𝓡 wired S V A _ _ _ ga da dd _ _ =
    let H = 𝓛.H in let 𝓣 = tables 𝓤 H 𝓜 𝓡 𝓡.env in let R : RattleType = param 0 S in let W : RattleType = param 1 V in let Z : RattleType = param 2 A in
    let Seat : RattleType = seat.the_row R W Z ga in let Rested : RattleType = rested.the_row W in
    let goal = ended S V A ga da dd in let c = clauses S V A ga da dd 𝓛 𝓜.mem 𝓡.returns in let at_types = bounded (a_type ∷ a_type ∷ a_type ∷ []) (S, (V, (A, tt))) (dcons da (dcons dd dnil)) in let mir = inst_fn at_types code.function in
    let kept_of : Stays goal.signature.params goal.kept = (stay_dropped (plain (λ _. Seat)) no, tt) in
    proved 𝓛 goal kept_of c 𝓜 𝓡 (Goes-dropped 𝓛 3 (plain (λ _. Seat)) no (λ κs x f. refl), tt) (#self at_types) mir
    (code.unfolded 𝓤 H 𝓜 𝓡 wired (S, (V, (A, tt))) da dd) (λ κs. ((λ _. blank_val ∷ []), tt))
    (λ κs. ((λ x vs so. blank_values (Tuple (R ∷ W ∷ Z ∷ [])) vs so.0), tt)) (λ κs qs bounds a ghost are.
    let y : (walk_of 𝓛 goal kept_of c).Ghost = ((κs, qs, bounds, a, (blank_val ∷ [], tt)), ghost) in let Post : Val → SProp 𝓤 = (walk_of 𝓛 goal kept_of c).post y in
    let h : Seat.Denot = a.0 in let m : Sitter S.Denot V.Denot = h.sitter in let Asked : Type 0 = (m.hand ≡ None) × (m.spare ≡ None) in
    qed 𝓛 ((raw (alive 𝓛 goal.signature κs qs) ⊛ ‵ (owns (types_at goal.signature.params κs) a y.0.4)) ∷ raw (fact 𝓤 _) ∷ raw (fact 𝓤 _) ∷ raw (fact 𝓤 _) ∷ raw (fact 𝓤 Asked) ∷ []) ∵ keep ! (4 ∷ 0 ∷ []) $ heard ! Asked (λ asked.
    split ! $ move ! (1 ∷ []) $ fsplit ! $ fsplit ! $ keep ! (1 ∷ 3 ∷ []) $ fsplit3 ! $ keep ! (0 ∷ 3 ∷ []) $
    enter ! 𝓣.C 𝓣.Λ mir (blank_val ∷ []) Post $ alloc_all ! (λ l. pass_all ! refl ((tt, (tt, tt)), tt) $ let locals = env mir.locals l in
    let r : Rested.Denot = record { marker = record {}; web = h.web; id = h.id; asleep = true; view = m.view } in let Ensured : Type 0 = (r.asleep ≡ true) × (h.web ≡ h.web) × (h.id ≡ h.id) × (m.view ≡ m.view) in
    sets ! (agg ! (no_more !)) refl (tt, tt) $ sets ! (agg ! (and_then ! (get ! refl) (no_more !))) refl (tt, (tt, tt)) $
    blank ! W $ tells ! Ensured (refl, refl, refl, refl) $ spends ! 1 $
    returns ! (look_at ! 0 refl) $ free_all ! refl $ keep ! (3 ∷ 0 ∷ 2 ∷ 1 ∷ []) $ by ! (leaves 𝓛 goal kept_of c y blank_val r (tt, tt) (tt, tt)))))
