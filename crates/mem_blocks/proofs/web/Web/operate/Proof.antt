-- `operate` is one step on a word, and the seat goes with it.
use Rattle.mem_blocks.proofs.Walks.{ℕ, ◌+◌, ◌*◌, ◌^◌, ◌<◌, [], ◌∷◌, sym, refl, arith, w64, Ty, a_type, dcons, dnil, named, Val, vint, vptr, inst_fn, Coded, SProp, via, Lft, Fml, ftrue, fsep, flft, mean, ‵, raw, ◌⊛◌, given, at_ret, ◌$◌, ◌∵◌, !, qed, by, move, keep, drop, use3}
use Rattle.mem_blocks.proofs.Walks.{split3, learn, stop, from, fld, hop, addr, lit, of_opd, bin, no_more, and_then, first, blocks, exec, Calls-last, returns, alloc_all, pass_all, free_all, look_at, look_in_at, get, sets, lands_last, env, sub, all_of_it, tokens_halve, tables}
use Rattle.mem_blocks.proofs.Walks.{fact, yes, no, RattleType, owns, types_at, plain, Ptr, block_ptr, block_of, count_of, InBlock, param, bounded, RefOf, u64, usize, mut_vals, mut_Tells, shr_vals, shr_Tells, uint_vals, uint_Tells, Stays, stay_dropped, stay_ref, walk_of}
use Rattle.mem_blocks.proofs.Walks.{Goes-dropped, Goes-ref, proved, leaves, fm, found, finds, Sitter, step, Allows, Sits, Same, WebId, age, seat_owns, SLOTS, word_of, after, place_val, place_values, fpick, tells, numbers, begins_step, ends_step, takes_step, enters_at}
use Rattle.mem_blocks.specs.contracts.block.BlockPtr as link
use Rattle.mem_blocks.specs.contracts.web.Web as web
use Rattle.mem_blocks.specs.contracts.web.Seat as seat
use Rattle.mem_blocks.specs.{Words.becomes, Words.answered, Words.IsAnswered, declared.operation.Operation.Operation}
use Rattle.mem_blocks.specs.contracts.operation.Operation as operation
use Rattle.mem_blocks.proofs.{Operations.operation_val, Operations.operation_values, Operations.operation_good, Operations.is_answered, Operating.operates, web.Web.operate.Statement.statement}
use Rattle.mem_blocks.proofs.Moves as moves
use Rattle.mem_blocks.specs.contracts.web.Web.operate.{ended, clauses, Key.name as #self}
use Rattle.mem_blocks.proofs.web.Web.operate.Code as code

pub operate_spec : {M : Type 1} → statement M
unfolding Rattle.mem_blocks.specs.Laid.seal
operate_spec 𝓤 𝓛 𝓜 𝓡 wired S V K P A M _ _ _ _ _ _ g d ga da dd g' d' _ _ _ _ =
    let H = 𝓛.H in let 𝓣 = tables 𝓤 H 𝓜 𝓡 𝓡.env in let R : RattleType = param 0 S in let W : RattleType = param 1 V in let X : RattleType = param 2 K in let Y : RattleType = param 3 P in let Z : RattleType = param 4 A in
    let Web : RattleType = web.the_row R W X Y Z g ga in let Seat : RattleType = seat.the_row R W Z ga in let BlockPtr : RattleType = link.the_row R in let code_of : Coded V.Denot = W.coded in
    let goal = ended S V K P A M g d ga da dd g' d' in let c = clauses S V K P A M g d ga da dd g' d' 𝓛 𝓜.mem 𝓡.returns in
    let at_types = bounded (a_type ∷ a_type ∷ a_type ∷ a_type ∷ a_type ∷ a_type ∷ []) (S, (V, (K, (P, (A, (M, tt)))))) (dcons d (dcons da (dcons dd (dcons d' dnil)))) in let mir = inst_fn at_types code.function in
    let kept_of : Stays goal.signature.params goal.kept = (
      stay_dropped (RefOf (0 ∷ []) tt (plain (λ _. Web)) (λ _. tt)) yes,
      (
        stay_ref (1 ∷ []) tt (plain (λ _. Seat)),
        (stay_dropped (plain (λ _. BlockPtr)) no, (stay_dropped (plain (λ _. usize)) yes, (stay_dropped (plain (λ _. operation.the_row)) yes, (stay_dropped (plain (λ _. u64)) yes, (stay_dropped (plain (λ _. u64)) yes, tt))))),
      ),
    ) in
    proved 𝓛 goal kept_of c 𝓜 𝓡 (
      Goes-dropped 𝓛 8 (RefOf (0 ∷ []) tt (plain (λ _. Web)) (λ _. tt)) yes (λ κs x f. refl),
      (
        Goes-ref 𝓛 8 1 tt (plain (λ _. Seat)),
        (
          Goes-dropped 𝓛 8 (plain (λ _. BlockPtr)) no (λ κs x f. refl),
          (
            Goes-dropped 𝓛 8 (plain (λ _. usize)) yes (λ κs x f. refl),
            (Goes-dropped 𝓛 8 (plain (λ _. operation.the_row)) yes (λ κs x f. refl), (Goes-dropped 𝓛 8 (plain (λ _. u64)) yes (λ κs x f. refl), (Goes-dropped 𝓛 8 (plain (λ _. u64)) yes (λ κs x f. refl), tt))),
          ),
        ),
      ),
    ) (#self at_types) mir
    (code.unfolded 𝓤 H 𝓜 𝓡 wired (S, (V, (K, (P, (A, (M, tt)))))) d da dd d') (λ κs. (shr_vals, (mut_vals, ((λ x. place_val x.ptr ∷ []), (uint_vals w64, ((λ x. operation_val x ∷ []), (uint_vals w64, (uint_vals w64, tt))))))))
    (λ κs. (shr_Tells (named 0) κs.0 Web, (mut_Tells (named 1) κs.1.0 Seat, (place_values R, (uint_Tells w64, (operation_values, (uint_Tells w64, (uint_Tells w64, tt)))))))) (λ κs qs bounds a ghost are.
    let op : Operation = a.1.1.1.1.0 in let n₁ : ℕ = a.1.1.1.1.1.0 in let n₂ : ℕ = a.1.1.1.1.1.1.0 in
    let y : (walk_of 𝓛 goal kept_of c).Ghost =
    ((κs, qs, bounds, a, (vptr a.0.ref_ptr.0 a.0.ref_ptr.1 ∷ [], (vptr a.1.0.ref_ptr.0 a.1.0.ref_ptr.1 ∷ [], (place_val a.1.1.0.ptr ∷ [], (vint w64 a.1.1.1.0 ∷ [], (operation_val op ∷ [], (vint w64 n₁ ∷ [], (vint w64 n₂ ∷ [], tt)))))))), ghost) in
    let Post : Val → SProp 𝓤 = (walk_of 𝓛 goal kept_of c).post y in
    let t : Web.Denot = a.0.now in let z : WebId = t.id in let α : Lft = age z in let token : Ty → Ptr → Fml = ga.dealloc_token t.heap in let holds = g.holds t.key in
    let b' : ℕ = a.1.0.ref_ptr.0 in let o' : ℕ = a.1.0.ref_ptr.1 in let h : Seat.Denot = a.1.0.now in let id : ℕ = h.id in let m : Sitter S.Denot V.Denot = h.sitter in let p : Ptr = a.1.1.0.ptr in
    let i : ℕ = a.1.1.1.0 in let f : ℕ → ℕ = becomes op n₁ n₂ in let then : ℕ → Sitter S.Denot V.Denot → Type 0 = g'.then (step p i n₁ n₂) m in let knows : ℕ → Sitter S.Denot V.Denot → Type 0 = λ n x. IsAnswered op n₁ n × then n x in
    let seated : Sitter S.Denot V.Denot → Seat.Denot = λ x. record { marker = h.marker; web = z; heap = t.heap; id = id; sitter = x } in
    let others : Fml = fsep (flft κs.1.1.0 qs.1.1.0) (fsep (flft κs.1.1.1.0 qs.1.1.1.0) (fsep (flft κs.1.1.1.1.0 qs.1.1.1.1.0)
    (fsep (flft κs.1.1.1.1.1.0 qs.1.1.1.1.1.0) (fsep (flft κs.1.1.1.1.1.1.0 qs.1.1.1.1.1.1.0) (fsep (flft κs.1.1.1.1.1.1.1.0 qs.1.1.1.1.1.1.1.0) (ftrue)))))) in
    qed 𝓛 (((‵ (flft κs.0 qs.0) ⊛ ‵ (flft κs.1.0 qs.1.0) ⊛ ‵ others) ⊛ ‵ (owns (types_at goal.signature.params κs) a y.0.4)) ∷ raw (fact 𝓤 _) ∷ raw (fact 𝓤 _) ∷ raw (fact 𝓤 _) ∷ raw (fact 𝓤 _) ∷ raw (fact 𝓤 _) ∷ raw (fact 𝓤 _)
    ∷ (given (Sits h t) (‵ ftrue) ⊛ given (InBlock p × (i < SLOTS)) (‵ ftrue) ⊛ given (Allows holds id m p i f (λ n. then (answered op n₁ n))) (‵ ftrue)) ∷ []) ∵
    keep ! (7 ∷ 0 ∷ []) $ split3 ! $ learn ! (λ sits. drop ! $ learn ! (λ there. drop ! $ learn ! (λ allows. drop ! $ takes_step ! $
    enters_at ! p there.0 𝓣.C 𝓣.Λ mir (λ u. vptr a.0.ref_ptr.0 a.0.ref_ptr.1 ∷ vptr a.1.0.ref_ptr.0 a.1.0.ref_ptr.1
    ∷ place_val u ∷ vint w64 a.1.1.1.0 ∷ operation_val op ∷ vint w64 n₁ ∷ vint w64 n₂ ∷ []) Post $ alloc_all ! (λ l. pass_all ! refl
    ((tt, tt), ((tt, tt), ((tt, (tt, tt)), ((tt, record { fits = are.1.1.1.0.1 }), (operation_good op, ((tt, record { fits = are.1.1.1.1.1.0.1 }), ((tt, record { fits = are.1.1.1.1.1.1.0.1 }), tt))))))) $
    let locals = env mir.locals l in
    begins_step ! tt Seat h (tokens_halve 𝓛 α) b' o' (λ (x : WebId × A.Denot). seat_owns R (ga.dealloc_token x.1) code_of.code x.0 id m) (λ j. (sits.0 j, sits.1 j)) (λ ts. refl) (λ s ts. first ! $ blocks ! $
    -- [the seat; its fields; its place in three; the web's open token; its token; the invariant; the other tokens]
    let small : i * 8 < 2 ^ 64 = (let near = there.1 in omega arith) in let e : ℕ = i * 8 + (count_of p + 8) in sets ! (addr ! (from ! (fld ! refl (hop ! (look_in_at ! 3 (sub ! 0 refl (all_of_it !))) (fld ! refl (stop !)))))) refl (tt, tt) $
    sets ! (bin ! (get ! refl) (lit ! tt) (record { fits = small })) refl (tt, record { fits = small }) $ sets ! (bin ! (get ! refl) (get ! refl) tt) refl (tt, tt) $ move ! (8 ∷ 7 ∷ 0 ∷ []) $ let out = λ (n : ℕ). fsep (flft α s) (moves.after 𝓛 R token code_of holds z id (knows n)) in
    let allowed : Allows holds id m p i f (λ n. knows (answered op n₁ n)) = λ st so at. let r = allows st so at in (r.0, r.1, λ small. let go = r.2 small in (go.0, go.1, go.2, go.3, (is_answered op n₁ (word_of st.blocks r.0 i), go.4))) in
    use3 𝓛 (raw (𝓣.C _ (vptr (block_of p) e ∷ operation_val op ∷ vint w64 n₁ ∷ vint w64 n₂ ∷ []) (λ u. mean 𝓛 (found out u)))) (via 𝓤 _ (moves.steps 𝓛 R token code_of holds z s p id m i f (λ n. knows (answered op n₁ n)) allowed)
    (operates 𝓛 𝓜 𝓡 (code.calls-mem_blocks::word::operate 𝓡.env wired) op (block_ptr (block_of p) e) n₁ n₂ are.1.1.1.1.1.0.1 are.1.1.1.1.1.1.0.1 out)) $
    Calls-last ! (fm 𝓛 𝓜 𝓡) (found out) (and_then ! (get ! refl) (and_then ! (get ! refl) (and_then ! (get ! refl) (and_then ! (get ! refl) (no_more !))))) (λ u. finds ! out (λ n fits.
    lands_last ! refl (tt, record { fits = fits }) $ exec ! 𝓣.C 𝓣.Λ locals (after 1 mir.body) (at_ret locals Post) $ sets ! (of_opd ! (get ! refl)) refl (tt, record { fits = fits }) $
    ends_step ! tt Seat b' o' ts 5 seated (λ x. refl) (λ m'. fpick ! (λ so. drop ! $ let h' : Seat.Denot = seated m' in tells ! (Same h' h × IsAnswered op n₁ n × then n m') ((sym sits.0, sym sits.1, refl), so.0, so.1) $ numbers ! n fits $
    returns ! (look_at ! 0 refl) $ free_all ! refl $ keep ! (2 ∷ 3 ∷ 0 ∷ 1 ∷ []) $ by ! (leaves 𝓛 goal kept_of c y (vint w64 n) n (tt, (h', (tt, (tt, (tt, (tt, (tt, tt))))))) (tt, (tt, (tt, (tt, (tt, (tt, (tt, tt))))))))))))))))))
