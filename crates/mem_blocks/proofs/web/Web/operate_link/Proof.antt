-- `operate_link` is one step on a link, and the seat goes with it.
use Rattle.mem_blocks.proofs.Walks.{ℕ, ◌+◌, List, [], ◌∷◌, sym, refl, Ty, Body, a_type, dcons, dnil, named, ty_ptr, Val, vnull, vptr, inst_fn, Coded, SProp, Lft, Fml, ftrue, fsep, flft, Wp, after_seq, at_return, mean, ‵, raw, ◌⊛◌, given, at_ret, any_q, ◌$◌}
use Rattle.mem_blocks.proofs.Walks.{◌∵◌, !, qed, by, move, keep, drop, use0, use1, use3, split3, learn, rewrite, stop, from, fld, hop, addr, lit, of_opd, switches, no_more, and_then, first, blocks, exec, Calls-last, returns, switches_on, alloc_all, pass_all}
use Rattle.mem_blocks.proofs.Walks.{free_all, look_at, look_in_at, get, get_in, get_tag, sets, sets_last, lands_last, env, vrt, in_variant, agg, sub, all_of_it, tokens_halve, tables, fact, yes, no, RattleType, owns, types_at, plain, Ptr, block_ptr, null_ptr}
use Rattle.mem_blocks.proofs.Walks.{ptr_val, block_of, count_of, InBlock, param, bounded, RefOf, u64, mut_vals, mut_Tells, shr_vals, shr_Tells, Stays, stay_dropped, stay_ref, walk_of, Goes-dropped, Goes-ref, Ok, Err, Good-round, proved, leaves, fm, seq_cst}
use Rattle.mem_blocks.proofs.Walks.{stored, has_stored, Sitter, AllowsLink, Sits, Same, WebId, age, seat_owns, head, after, arm_body, ptr_good, place_val, place_values, place_made, word_laws, tells, fpick, lent_back, begins_step, ends_step, takes_step, enters_at}
use Rattle.mem_blocks.specs.contracts.block.BlockPtr as link
use Rattle.mem_blocks.specs.contracts.web.Web as web
use Rattle.mem_blocks.specs.contracts.web.Seat as seat
use Rattle.mem_blocks.{specs.Links.leads_to, specs.Links.answered_place, specs.Links.IsAnsweredPlace, specs.declared.operation.LinkOperation.LinkOperation, proofs.web.Web.operate_link.Statement.statement}
use Rattle.mem_blocks.specs.contracts.operation.LinkOperation as operation
use Rattle.mem_blocks.proofs.LinkOperations.{link_tag, link_operation_val, link_operation_values, link_operation_good, no_fourth, asks_link}
use Rattle.mem_blocks.proofs.Moves as moves
use types.{Kit.Item, Kit.Sq, Kit.runs, ByLocal.forget_but, ByLocal.holding}
use prog.Wp.{Out}
use Rattle.std.proofs.raw_atomic.PtrCalls as pointers
use Rattle.mem_blocks.specs.contracts.web.Web.operate_link.{ended, clauses, Key.name as #self}
use Rattle.mem_blocks.proofs.web.Web.operate_link.Code as code

pub operate_link_spec : {M : Type 1} → statement M
unfolding Rattle.mem_blocks.specs.Laid.seal
operate_link_spec 𝓤 𝓛 𝓜 𝓡 wired S V K P A M _ _ _ _ _ _ g d ga da dd g' d' _ _ _ _ =
    let H = 𝓛.H in let 𝓣 = tables 𝓤 H 𝓜 𝓡 𝓡.env in let R : RattleType = param 0 S in let W : RattleType = param 1 V in let X : RattleType = param 2 K in let Y : RattleType = param 3 P in let Z : RattleType = param 4 A in
    let Web : RattleType = web.the_row R W X Y Z g ga in let Seat : RattleType = seat.the_row R W Z ga in let BlockPtr : RattleType = link.the_row R in let code_of : Coded V.Denot = W.coded in
    let goal = ended S V K P A M g d ga da dd g' d' in let c = clauses S V K P A M g d ga da dd g' d' 𝓛 𝓜.mem 𝓡.returns in
    let at_types = bounded (a_type ∷ a_type ∷ a_type ∷ a_type ∷ a_type ∷ a_type ∷ []) (S, (V, (K, (P, (A, (M, tt)))))) (dcons d (dcons da (dcons dd (dcons d' dnil)))) in let mir = inst_fn at_types code.function in
    let kept_of : Stays goal.signature.params goal.kept = (
      stay_dropped (RefOf (0 ∷ []) tt (plain (λ _. Web)) (λ _. tt)) yes,
      (stay_ref (1 ∷ []) tt (plain (λ _. Seat)), (stay_dropped (plain (λ _. BlockPtr)) no, (stay_dropped (plain (λ _. operation.the_row)) yes, (stay_dropped (plain (λ _. BlockPtr)) no, tt)))),
    ) in
    proved 𝓛 goal kept_of c 𝓜 𝓡 (
      Goes-dropped 𝓛 8 (RefOf (0 ∷ []) tt (plain (λ _. Web)) (λ _. tt)) yes (λ κs x f. refl),
      (
        Goes-ref 𝓛 8 1 tt (plain (λ _. Seat)),
        (Goes-dropped 𝓛 8 (plain (λ _. BlockPtr)) no (λ κs x f. refl), (Goes-dropped 𝓛 8 (plain (λ _. operation.the_row)) yes (λ κs x f. refl), (Goes-dropped 𝓛 8 (plain (λ _. BlockPtr)) no (λ κs x f. refl), tt))),
      ),
    )
    (#self at_types) mir
    (code.unfolded 𝓤 H 𝓜 𝓡 wired (S, (V, (K, (P, (A, (M, tt)))))) d da dd d') (λ κs. (shr_vals, (mut_vals, ((λ x. place_val x.ptr ∷ []), ((λ x. link_operation_val x ∷ []), ((λ x. place_val x.ptr ∷ []), tt))))))
    (λ κs. (shr_Tells (named 0) κs.0 Web, (mut_Tells (named 1) κs.1.0 Seat, (place_values R, (link_operation_values, (place_values R, tt)))))) (λ κs qs bounds a ghost are.
    let op : LinkOperation = a.1.1.1.0 in let n : Ptr = a.1.1.1.1.0.ptr in
    let y : (walk_of 𝓛 goal kept_of c).Ghost =
    ((κs, qs, bounds, a, (vptr a.0.ref_ptr.0 a.0.ref_ptr.1 ∷ [], (vptr a.1.0.ref_ptr.0 a.1.0.ref_ptr.1 ∷ [], (place_val a.1.1.0.ptr ∷ [], (link_operation_val op ∷ [], (place_val n ∷ [], tt)))))), ghost) in
    let Post : Val → SProp 𝓤 = (walk_of 𝓛 goal kept_of c).post y in
    let t : Web.Denot = a.0.now in let z : WebId = t.id in let α : Lft = age z in let token : Ty → Ptr → Fml = ga.dealloc_token t.heap in let holds = g.holds t.key in
    let b' : ℕ = a.1.0.ref_ptr.0 in let o' : ℕ = a.1.0.ref_ptr.1 in let h : Seat.Denot = a.1.0.now in let id : ℕ = h.id in let m : Sitter S.Denot V.Denot = h.sitter in let p : Ptr = a.1.1.0.ptr in
    let then : Ptr → Sitter S.Denot V.Denot → Type 0 = g'.then m in let place : Ptr = block_ptr (block_of p) (count_of p + 0) in
    let seated : Sitter S.Denot V.Denot → Seat.Denot = λ x. record { marker = h.marker; web = z; heap = t.heap; id = id; sitter = x } in
    let others : Fml = fsep (flft κs.1.1.0 qs.1.1.0) (fsep (flft κs.1.1.1.0 qs.1.1.1.0) (fsep (flft κs.1.1.1.1.0 qs.1.1.1.1.0)
    (fsep (flft κs.1.1.1.1.1.0 qs.1.1.1.1.1.0) (fsep (flft κs.1.1.1.1.1.1.0 qs.1.1.1.1.1.1.0) (fsep (flft κs.1.1.1.1.1.1.1.0 qs.1.1.1.1.1.1.1.0) (ftrue)))))) in
    qed 𝓛 (((‵ (flft κs.0 qs.0) ⊛ ‵ (flft κs.1.0 qs.1.0) ⊛ ‵ others) ⊛ ‵ (owns (types_at goal.signature.params κs) a y.0.4)) ∷ raw (fact 𝓤 _) ∷ raw (fact 𝓤 _) ∷ raw (fact 𝓤 _) ∷ raw (fact 𝓤 _) ∷ raw (fact 𝓤 _) ∷ raw (fact 𝓤 _)
    ∷ (given (Sits h t) (‵ ftrue) ⊛ given (InBlock p) (‵ ftrue) ⊛ given (AllowsLink holds id m p (leads_to op n) (λ q. then (answered_place op n q))) (‵ ftrue)) ∷ []) ∵
    keep ! (7 ∷ 0 ∷ []) $ split3 ! $ learn ! (λ sits. drop ! $ learn ! (λ there. drop ! $ learn ! (λ allows. drop ! $ takes_step ! $
    enters_at ! p there 𝓣.C 𝓣.Λ mir (λ u. vptr a.0.ref_ptr.0 a.0.ref_ptr.1 ∷ vptr b' o' ∷ place_val u ∷ link_operation_val op ∷ place_val n ∷ []) Post $
    alloc_all ! (λ l. pass_all ! refl ((tt, tt), ((tt, tt), ((tt, (tt, tt)), (link_operation_good op, ((Good-round [] ty_ptr _ (ptr_good n)), tt))))) $
    let locals = env mir.locals l in
    begins_step ! tt Seat h (tokens_halve 𝓛 α) b' o' (λ (x : WebId × A.Denot). seat_owns R (ga.dealloc_token x.1) code_of.code x.0 id m) (λ j. (sits.0 j, sits.1 j)) (λ ts. refl) (λ s ts.
    -- [the seat; its fields; its place in three; the web's open token; its token; the invariant; the other tokens]
    let out : Ptr → Fml = λ u. fsep (flft α s) (moves.answered 𝓛 R token code_of holds z s p id m (IsAnsweredPlace op n) then u) in let more : Body = after 4 mir.body in let arm : ℕ → Body = λ i. arm_body i (head (after 3 mir.body)) in
    let goes_on : (Out → SProp 𝓤) → Body → Out → SProp 𝓤 = λ Q rest. after_seq 𝓤 H (Wp 𝓤 H 𝓣.C 𝓣.Λ locals rest Q) Q in let Then = goes_on (at_return 𝓤 H locals Post) more in
    let Ended : Sitter S.Denot V.Denot → List (Item 𝓤) → Type 1 = λ m' Γ. Sq 𝓛 ((‵ (flft κs.0 qs.0) ⊛ ‵ (flft κs.1.0 qs.1.0) ⊛ ‵ others) ∷ ‵ (fsep ftrue (lent_back Seat κs.1.0 (vptr b' o' ∷ []) b' o' a.1.0.ghost_name (seated m') 3)) ∷ Γ) (runs 𝓣.C 𝓣.Λ locals more (at_ret locals Post)) in
    let ends : (q : Ptr) (m' : Sitter S.Denot V.Denot) → IsAnsweredPlace op n q × then q m' → Ended m' (holding 𝓛 locals ((12, ptr_val q) ∷ [])) = λ q m' so. sets ! (of_opd ! (get ! refl)) refl (ptr_good q) $ sets ! (of_opd ! (get ! refl)) refl (ptr_good q) $
    sets ! (agg ! (and_then ! (get ! refl) (no_more !))) refl (Good-round [] ty_ptr _ (ptr_good q)) $
    tells ! (Same (seated m') h × IsAnsweredPlace op n q × then q m') ((sym sits.0, sym sits.1, refl), so.0, so.1) $
    use0 𝓛 (‵ (BlockPtr.own_val (record { ptr = q }) (place_val q ∷ []))) (place_made R 𝓛 q) $
    returns ! (look_at ! 0 refl) $ free_all ! refl $ keep ! (2 ∷ 3 ∷ 0 ∷ 1 ∷ []) $ by ! (leaves 𝓛 goal kept_of c y (place_val q) (record { ptr = q }) (tt, (seated m', (tt, (tt, (tt, tt))))) (tt, (tt, (tt, (tt, (tt, tt)))))) in
    first ! $ blocks ! $ sets_last ! (addr ! (from ! (fld ! refl (hop ! (look_in_at ! 3 (sub ! 0 refl (all_of_it !))) (fld ! refl (stop !)))))) refl (tt, tt) $ exec ! 𝓣.C 𝓣.Λ locals (after 1 mir.body) (at_ret locals Post) $
    sets ! (of_opd ! (get ! refl)) refl (tt, tt) $ sets ! (of_opd ! (get_in ! (fld ! refl (stop !)) (sub ! 0 refl (all_of_it !)))) refl (ptr_good n) $ move ! (8 ∷ 7 ∷ 0 ∷ []) $
    use3 𝓛 (raw (asks_link 𝓛 place n out (link_tag op))) (moves.operates_link 𝓛 R token code_of holds z s p id m op n then allows) $ first ! $ switches ! (get_tag ! (vrt ! refl (fld ! refl (stop !))) (all_of_it !)) (
      (λ e. rewrite ! 0 (λ (i : ℕ). raw (asks_link 𝓛 place n out i)) e refl $ use1 𝓛 (raw (𝓣.C _ (ptr_val place ∷ seq_cst ∷ []) (λ u. mean 𝓛 (pointers.found 𝓛 out u)))) (pointers.loads 𝓛 𝓜 𝓡 (code.calls-std::sync::atomic::raw::ptr::load 𝓡.env wired) u64 word_laws place out) $
          sets ! (agg ! (and_then ! (lit ! tt) (no_more !))) refl pointers.seq_cst_good $ Calls-last ! (fm 𝓛 𝓜 𝓡) (pointers.found 𝓛 out) (and_then ! (get ! refl) (and_then ! (get ! refl) (no_more !))) (λ u. pointers.finds ! out (λ q.
          ends_step ! tt Seat b' o' ts 3 seated (λ x. refl) (λ m'. fpick ! (λ so. drop ! $ lands_last ! refl (ptr_good q) $ exec ! 𝓣.C 𝓣.Λ locals more (at_ret locals Post) $ forget_but ! locals (12 ∷ []) refl $ ends q m' so))))),
      (
        (λ e. rewrite ! 0 (λ (i : ℕ). raw (asks_link 𝓛 place n out i)) e refl $ use1 𝓛 (raw (𝓣.C _ (ptr_val place ∷ ptr_val n ∷ seq_cst ∷ []) (λ u. mean 𝓛 (stored (out n) u)))) (pointers.stores 𝓛 𝓜 𝓡 (code.calls-std::sync::atomic::raw::ptr::store 𝓡.env wired) u64 word_laws place n (out n)) $
            first ! $ blocks ! $ sets ! (agg ! (and_then ! (lit ! tt) (no_more !))) refl pointers.seq_cst_good $ Calls-last ! (fm 𝓛 𝓜 𝓡) (stored (out n)) (and_then ! (get ! refl) (and_then ! (get ! refl) (and_then ! (get ! refl) (no_more !)))) (λ u. has_stored ! (out n) (
            ends_step ! tt Seat b' o' ts 3 seated (λ x. refl) (λ m'. fpick ! (λ so. drop ! $ lands_last ! refl (tt, tt) $ exec ! 𝓣.C 𝓣.Λ locals (after 1 (arm 1)) (any_q Then) $
            sets_last ! (of_opd ! (get ! refl)) refl (ptr_good n) $ exec ! 𝓣.C 𝓣.Λ locals more (at_ret locals Post) $ forget_but ! locals (12 ∷ []) refl $ ends n m' so))))),
        (
          (λ e. rewrite ! 0 (λ (i : ℕ). raw (asks_link 𝓛 place n out i)) e refl $
              use1 𝓛 (raw (𝓣.C _ (ptr_val place ∷ vnull ∷ ptr_val n ∷ seq_cst ∷ seq_cst ∷ []) (λ u. mean 𝓛 (pointers.answered 𝓛 out out u))))
              (pointers.exchanges 𝓛 𝓜 𝓡 (code.calls-std::sync::atomic::raw::ptr::compare_exchange 𝓡.env wired) u64 word_laws place null_ptr n out out) $
              first ! $ blocks ! $ sets ! (agg ! (and_then ! (lit ! tt) (no_more !))) refl pointers.seq_cst_good $ sets ! (agg ! (and_then ! (lit ! tt) (no_more !))) refl pointers.seq_cst_good $ let Last = goes_on Then (after 3 (arm 2)) in
              Calls-last ! (fm 𝓛 𝓜 𝓡) (pointers.answered 𝓛 out out) (and_then ! (get ! refl) (and_then ! (lit ! tt) (and_then ! (get ! refl) (and_then ! (get ! refl) (and_then ! (get ! refl) (no_more !)))))) (λ u. pointers.hears ! out out
              (λ q. ends_step ! tt Seat b' o' ts 3 seated (λ x. refl) (λ m'. fpick ! (λ so. drop ! $ lands_last ! refl (pointers.answer_good (Ok q)) $ exec ! 𝓣.C 𝓣.Λ locals (after 1 (arm 2)) (any_q Then) $ sets ! (of_opd ! (get ! refl)) refl (pointers.answer_good (Ok q)) $
              first ! $ switches_on ! (get_tag ! (vrt ! refl (fld ! refl (stop !))) (all_of_it !)) $ exec ! 𝓣.C 𝓣.Λ locals (arm_body 0 (head (after 2 (arm 2))))
              (any_q Last) $ sets ! (of_opd ! (get_in ! (vrt ! refl (fld ! refl (stop !))) (in_variant ! 0 0 refl refl (all_of_it !)))) refl (ptr_good q) $
              sets_last ! (of_opd ! (get ! refl)) refl (ptr_good q) $ exec ! 𝓣.C 𝓣.Λ locals (after 3 (arm 2)) (any_q Then) $ sets_last ! (of_opd ! (get ! refl)) refl (ptr_good q) $ exec ! 𝓣.C 𝓣.Λ locals more (at_ret locals Post) $ forget_but ! locals (12 ∷ []) refl $ ends q m' so)))
              (λ q. ends_step ! tt Seat b' o' ts 3 seated (λ x. refl) (λ m'. fpick ! (λ so. drop ! $ lands_last ! refl (pointers.answer_good (Err q)) $ exec ! 𝓣.C 𝓣.Λ locals (after 1 (arm 2)) (any_q Then) $ sets ! (of_opd ! (get ! refl)) refl (pointers.answer_good (Err q)) $
              first ! $ switches_on ! (get_tag ! (vrt ! refl (fld ! refl (stop !))) (all_of_it !)) $ exec ! 𝓣.C 𝓣.Λ locals (arm_body 1 (head (after 2 (arm 2))))
              (any_q Last) $ sets ! (of_opd ! (get_in ! (vrt ! refl (fld ! refl (stop !))) (in_variant ! 1 0 refl refl (all_of_it !)))) refl (ptr_good q) $
              sets_last ! (of_opd ! (get ! refl)) refl (ptr_good q) $ exec ! 𝓣.C 𝓣.Λ locals (after 3 (arm 2)) (any_q Then) $ sets_last ! (of_opd ! (get ! refl)) refl (ptr_good q) $ exec ! 𝓣.C 𝓣.Λ locals more (at_ret locals Post) $ forget_but ! locals (12 ∷ []) refl $ ends q m' so))))),
          (λ none. absurd (no_fourth op none.0.0.1 none.0.1 none.1)),
        ),
      ),
    )))))))
