-- `peek` is one load, which leaves the web as it is.
use Rattle.mem_blocks.proofs.Walks.{ℕ, ◌+◌, ◌*◌, ◌^◌, ◌<◌, [], ◌∷◌, refl, arith, lit<, w64, Ty, a_type, dcons, dnil, named, Val, vint, vptr, inst_fn, Coded, SProp, via, Lft, Fml, ftrue, fsep, flft, mean, ‵, raw, ◌⊛◌, given, at_ret, ◌$◌, ◌∵◌, !, qed, by, move, END_WORDS}
use Rattle.mem_blocks.proofs.Walks.{keep, drop, use3, split, join, fsplit, fsplit3, fjoin, learn, stop, from, fld, hop, addr, lit, of_opd, bin, no_more, and_then, first, blocks, exec, Calls-last, returns, alloc_all, pass_all, free_all, look_at, look_in_at, get}
use Rattle.mem_blocks.proofs.Walks.{sets, lands_last, env, agg, sub, all_of_it, shr_bor-open, obor_close, tokens_halve, tables, fact, yes, no, RattleType, owns, types_at, plain, Ptr, block_ptr, block_of, count_of, InBlock, nothing, unhide, param, bounded, RefOf}
use Rattle.mem_blocks.proofs.Walks.{usize, shr_vals, shr_Tells, uint_vals, uint_Tells, Stays, stay_dropped, walk_of, Goes-dropped, proved, leaves, fm, seq_cst, found, finds, loads, StaysIn, WebId, age, after, place_val, place_values, numbers, enters_at}
use Rattle.mem_blocks.specs.contracts.block.BlockPtr as link
use Rattle.mem_blocks.specs.contracts.web.Web as web
use Rattle.mem_blocks.proofs.Moves as moves
use Rattle.mem_blocks.specs.contracts.web.Web.peek.{ended, clauses, Key.name as #self}
use Rattle.mem_blocks.proofs.web.Web.peek.Statement.{statement}
use Rattle.mem_blocks.proofs.web.Web.peek.Code as code

pub peek_spec : {M : Type 1} → statement M
unfolding Rattle.mem_blocks.specs.Laid.seal
peek_spec 𝓤 𝓛 𝓜 𝓡 wired S V K P A _ _ _ _ _ g d ga da dd _ _ _ =
    let H = 𝓛.H in let 𝓣 = tables 𝓤 H 𝓜 𝓡 𝓡.env in let R : RattleType = param 0 S in let W : RattleType = param 1 V in let X : RattleType = param 2 K in let Y : RattleType = param 3 P in let Z : RattleType = param 4 A in
    let Web : RattleType = web.the_row R W X Y Z g ga in let BlockPtr : RattleType = link.the_row R in let code_of : Coded V.Denot = W.coded in
    let goal = ended S V K P A g d ga da dd in let c = clauses S V K P A g d ga da dd 𝓛 𝓜.mem 𝓡.returns in
    let at_types = bounded (a_type ∷ a_type ∷ a_type ∷ a_type ∷ a_type ∷ []) (S, (V, (K, (P, (A, tt))))) (dcons d (dcons da (dcons dd dnil))) in let mir = inst_fn at_types code.function in
    let kept_of : Stays goal.signature.params goal.kept = (stay_dropped (RefOf (0 ∷ []) tt (plain (λ _. Web)) (λ _. tt)) yes, (stay_dropped (plain (λ _. BlockPtr)) no, (stay_dropped (plain (λ _. usize)) yes, tt))) in
    proved 𝓛 goal kept_of c 𝓜 𝓡 (Goes-dropped 𝓛 6 (RefOf (0 ∷ []) tt (plain (λ _. Web)) (λ _. tt)) yes (λ κs x f. refl), (Goes-dropped 𝓛 6 (plain (λ _. BlockPtr)) no (λ κs x f. refl), (Goes-dropped 𝓛 6 (plain (λ _. usize)) yes (λ κs x f. refl), tt))) (#self at_types) mir
    (code.unfolded 𝓤 H 𝓜 𝓡 wired (S, (V, (K, (P, (A, tt))))) d da dd) (λ κs. (shr_vals, ((λ x. place_val x.ptr ∷ []), (uint_vals w64, tt))))
    (λ κs. (shr_Tells (named 0) κs.0 Web, (place_values R, (uint_Tells w64, tt)))) (λ κs qs bounds a ghost are.
    let y : (walk_of 𝓛 goal kept_of c).Ghost = ((κs, qs, bounds, a, (vptr a.0.ref_ptr.0 a.0.ref_ptr.1 ∷ [], (place_val a.1.0.ptr ∷ [], (vint w64 a.1.1.0 ∷ [], tt)))), ghost) in let Post : Val → SProp 𝓤 = (walk_of 𝓛 goal kept_of c).post y in
    let t : Web.Denot = a.0.now in let z : WebId = t.id in let α : Lft = age z in let token : Ty → Ptr → Fml = ga.dealloc_token t.heap in let holds = g.holds t.key in let p : Ptr = a.1.0.ptr in let i : ℕ = a.1.1.0 in
    let others : Fml = fsep (flft κs.1.0 qs.1.0) (fsep (flft κs.1.1.0 qs.1.1.0) (fsep (flft κs.1.1.1.0 qs.1.1.1.0) (fsep (flft κs.1.1.1.1.0 qs.1.1.1.1.0) (fsep (flft κs.1.1.1.1.1.0 qs.1.1.1.1.1.0) (ftrue))))) in
    qed 𝓛 (((‵ (flft κs.0 qs.0) ⊛ ‵ others) ⊛ ‵ (owns (types_at goal.signature.params κs) a y.0.4)) ∷ raw (fact 𝓤 _) ∷ raw (fact 𝓤 _) ∷ raw (fact 𝓤 _) ∷ raw (fact 𝓤 _) ∷ raw (fact 𝓤 _) ∷ (given (InBlock p × (i < END_WORDS)) (‵ ftrue) ⊛ given (StaysIn holds p) (‵ ftrue)) ∷ []) ∵
    keep ! (6 ∷ 0 ∷ []) $ split ! $ learn ! (λ there. drop ! $ learn ! (λ stays. drop ! $ split ! $ split ! $ move ! (2 ∷ []) $ fsplit ! $ fsplit ! $ drop ! $ unhide ! $ fsplit3 ! $ drop ! $ move ! (2 ∷ []) $ drop ! $
    -- [the web's token, shared; its invariant; the token of the reference; the other tokens]
    enters_at ! p there.0 𝓣.C 𝓣.Λ mir (λ u. vptr a.0.ref_ptr.0 a.0.ref_ptr.1 ∷ place_val u ∷ vint w64 a.1.1.0 ∷ []) Post $ alloc_all ! (λ l. pass_all ! refl ((tt, tt), ((tt, (tt, tt)), ((tt, record { fits = are.1.1.0.1 }), tt))) $ let locals = env mir.locals l in
    move ! (0 ∷ 2 ∷ []) $ shr_bor-open ! tt (tokens_halve 𝓛 α) (λ s. first ! $ blocks ! $
    let small : i * 8 < 2 ^ 64 = (let near = there.1 in omega arith) in let e : ℕ = i * 8 + (count_of p + 8) in sets ! (addr ! (from ! (fld ! refl (hop ! (look_in_at ! 2 (sub ! 0 refl (all_of_it !))) (fld ! refl (stop !)))))) refl (tt, tt) $
    sets ! (bin ! (get ! refl) (lit ! tt) (record { fits = small })) refl (tt, record { fits = small }) $ sets ! (bin ! (get ! refl) (get ! refl) tt) refl (tt, tt) $ nothing ! $ move ! (3 ∷ 2 ∷ 0 ∷ []) $ let out : ℕ → Fml = λ n. fsep (flft α s) ftrue in
    use3 𝓛 (raw (𝓣.C _ (vptr (block_of p) e ∷ seq_cst ∷ []) (λ u. mean 𝓛 (found out u)))) (via 𝓤 _ (moves.peeks 𝓛 R token code_of holds z s p i there.1 stays) (loads 𝓛 𝓜 𝓡 (code.calls-std::sync::atomic::raw::load 𝓡.env wired) (block_ptr (block_of p) e) out)) $
    sets ! (agg ! (and_then ! (lit ! tt) (no_more !))) refl (tt, (record { fits = lit< tt }, tt)) $
    Calls-last ! (fm 𝓛 𝓜 𝓡) (found out) (and_then ! (get ! refl) (and_then ! (get ! refl) (no_more !))) (λ u. finds ! out (λ n fits. lands_last ! refl (tt, record { fits = fits }) $ exec ! 𝓣.C 𝓣.Λ locals (after 1 mir.body) (at_ret locals Post) $
    sets ! (of_opd ! (get ! refl)) refl (tt, record { fits = fits }) $ fsplit ! $ move ! (2 ∷ 0 ∷ []) $ obor_close ! tt $ drop ! $ nothing ! $ nothing ! $ fjoin ! $ nothing ! $ fjoin ! $ nothing ! $ fjoin ! $
    -- [what is left of the parameters; the token of the reference; nothing; the other tokens]
    move ! (1 ∷ 3 ∷ []) $ join ! $ nothing ! $ numbers ! n fits $
    returns ! (look_at ! 0 refl) $ free_all ! refl $ keep ! (2 ∷ 3 ∷ 0 ∷ 1 ∷ []) $ by ! (leaves 𝓛 goal kept_of c y (vint w64 n) n (tt, (tt, (tt, tt))) (tt, (tt, (tt, tt)))))))))))
