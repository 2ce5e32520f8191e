-- `operate` is one step for each operation.
use Rattle.mem_blocks.proofs.Walks.{ℕ, ◌^◌, ◌<◌, List, [], ◌∷◌, refl, lit<, w64, a_type, dcons, dnil, Val, vint, inst_fn, SProp, ent, Fml, WpFn, Wp, after_seq, at_return, mean, ‵, raw, ◌⊛◌, at_ret, any_q, ◌$◌, ◌∵◌, !, qed, by, keep, use1, split, stop, fld, lit, of_opd, no_more, and_then, first}
use Rattle.mem_blocks.proofs.Walks.{blocks, exec, Calls-last, returns, enter, alloc_all, pass_all, free_all, look_at, get, get_tag, sets, sets_last, lands_last, env, vrt, agg, all_of_it, switches_on, tables, fact, yes, owns, types_at, plain, Ptr, RawPtr, ptr_val, rawptr_vals, rawptr_Tells, bounded}
use Rattle.mem_blocks.proofs.Walks.{u64, uint_vals, uint_Tells, alive, Stays, stay_dropped, walk_of, Goes-dropped, proved, leaves, fm, seq_cst, found, stored, finds, has_stored, loads, stores, adds, subs, ors, exchanges, asks, always, head, after, arm_body, ptr_good, numbers, spends}
use types.Kit.{Sq, prop}
use Rattle.mem_blocks.specs.{Words.becomes, Words.answered, declared.operation.Operation.Operation, contracts.word.operate.ended, contracts.word.operate.clauses, contracts.word.operate.Key.name as #self}
use Rattle.mem_blocks.specs.declared.operation.Operation.TheVariants as does
use Rattle.mem_blocks.specs.contracts.operation.Operation as operation
use Rattle.mem_blocks.proofs.{Operations.operation_val, Operations.operation_values, Operations.operation_good, word.operate.Statement.statement}
use Rattle.mem_blocks.proofs.word.operate.Code as code

pub operate_spec : {M : Type 1} → statement M
operate_spec 𝓤 𝓛 𝓜 𝓡 wired O _ g d _ =
    let H = 𝓛.H in let 𝓣 = tables 𝓤 H 𝓜 𝓡 𝓡.env in let goal = ended O g d in let c = clauses O g d 𝓛 𝓜.mem 𝓡.returns in let mir = inst_fn (bounded (a_type ∷ []) (O, tt) (dcons d dnil)) code.function in
    let kept_of : Stays goal.signature.params goal.kept = (stay_dropped (plain (λ _. RawPtr)) yes, (stay_dropped (plain (λ _. operation.the_row)) yes, (stay_dropped (plain (λ _. u64)) yes, (stay_dropped (plain (λ _. u64)) yes, tt)))) in
    proved 𝓛 goal kept_of c 𝓜 𝓡 (
      Goes-dropped 𝓛 1 (plain (λ _. RawPtr)) yes (λ κs x f. refl),
      (Goes-dropped 𝓛 1 (plain (λ _. operation.the_row)) yes (λ κs x f. refl), (Goes-dropped 𝓛 1 (plain (λ _. u64)) yes (λ κs x f. refl), (Goes-dropped 𝓛 1 (plain (λ _. u64)) yes (λ κs x f. refl), tt))),
    )
    (#self (bounded (a_type ∷ []) (O, tt) (dcons d dnil))) mir
    (code.unfolded 𝓤 H 𝓜 𝓡 wired (O, tt) d) (λ κs. (rawptr_vals, ((λ x. operation_val x ∷ []), (uint_vals w64, (uint_vals w64, tt)))))
    (λ κs. (rawptr_Tells, (operation_values, (uint_Tells w64, (uint_Tells w64, tt))))) (λ κs qs bounds a ghost are.
    let p : Ptr = a.0 in let x : ℕ = a.1.1.0 in let z : ℕ = a.1.1.1.0 in let W = walk_of 𝓛 goal kept_of c in let y : Operation → W.Ghost = λ op. ((κs, qs, bounds, (p, (op, (x, (z, tt)))), (ptr_val p ∷ [], (operation_val op ∷ [], (vint w64 x ∷ [], (vint w64 z ∷ [], tt))))), ghost) in
    let us : Operation → List Val = λ op. ptr_val p ∷ operation_val op ∷ vint w64 x ∷ vint w64 z ∷ [] in let Post : Operation → Val → SProp 𝓤 = λ op. W.post (y op) in let out : Operation → ℕ → Fml = λ op n. g.after (answered op x n) in let tokens : SProp 𝓤 = alive 𝓛 goal.signature κs qs in
    let Pre : Operation → SProp 𝓤 = λ op. W.pre (y op) in let args : Operation → Fml = λ op. owns (types_at goal.signature.params κs) (p, (op, (x, (z, tt)))) (y op).0.4 in
    let ends : (op : Operation) (n : ℕ) → n < 2 ^ 64 → Sq 𝓛 (‵ (g.after n) ∷ raw tokens ∷ []) (prop (Post op (vint w64 n))) = λ op n fits.
    numbers ! n fits $ spends ! 4 $ keep ! (3 ∷ 0 ∷ 1 ∷ 2 ∷ []) $ by ! (leaves 𝓛 goal kept_of c (y op) (vint w64 n) n (tt, (tt, (tt, (tt, tt)))) (tt, (tt, (tt, (tt, tt))))) in elim a.1.0 as (λ (op : Operation). ent 𝓤 (Pre op) (WpFn 𝓤 H 𝓣.C 𝓣.Λ mir (us op) (Post op))) [
      | does.Load ↦ qed 𝓛 ((raw tokens ⊛ ‵ (args does.Load)) ∷ raw (fact 𝓤 _) ∷ raw (asks 𝓛 p (becomes does.Load x z) always (out does.Load)) ∷ []) ∵ split ! $ keep ! (3 ∷ 0 ∷ []) $
          use1 𝓛 (raw (𝓣.C _ (ptr_val p ∷ seq_cst ∷ []) (λ u. mean 𝓛 (found (out does.Load) u)))) (loads 𝓛 𝓜 𝓡 (code.calls-std::sync::atomic::raw::load 𝓡.env wired) p (out does.Load)) $
          enter ! 𝓣.C 𝓣.Λ mir (us does.Load) (Post does.Load) $ alloc_all ! (λ l. pass_all ! refl
          (ptr_good p, (operation_good does.Load, ((tt, record { fits = are.1.1.0.1 }), ((tt, record { fits = are.1.1.1.0.1 }), tt)))) $ let locals = env mir.locals l in
          let Then = any_q (after_seq 𝓤 H (Wp 𝓤 H 𝓣.C 𝓣.Λ locals (after 1 mir.body) (at_return 𝓤 H locals (Post does.Load))) (at_return 𝓤 H locals (Post does.Load))) in
          first ! $ switches_on ! (get_tag ! (vrt ! refl (fld ! refl (stop !))) (all_of_it !)) $ exec ! 𝓣.C 𝓣.Λ locals (arm_body 0 (head mir.body)) Then $ sets ! (agg ! (and_then ! (lit ! tt) (no_more !))) refl (tt, (record { fits = lit< tt }, tt)) $
          Calls-last ! (fm 𝓛 𝓜 𝓡) (found (out does.Load)) (and_then ! (get ! refl) (and_then ! (get ! refl) (no_more !))) (λ u. finds ! (out does.Load) (λ n fits. lands_last ! refl (tt, record { fits = fits }) $ exec ! 𝓣.C 𝓣.Λ locals (after 1 mir.body) (at_ret locals (Post does.Load)) $
          sets ! (of_opd ! (get ! refl)) refl (tt, record { fits = fits }) $ returns ! (look_at ! 0 refl) $ free_all ! refl $ ends does.Load n fits)))
      | does.Store ↦ qed 𝓛 ((raw tokens ⊛ ‵ (args does.Store)) ∷ raw (fact 𝓤 _) ∷ raw (asks 𝓛 p (becomes does.Store x z) always (out does.Store)) ∷ []) ∵ split ! $ keep ! (3 ∷ 0 ∷ []) $
          use1 𝓛 (raw (𝓣.C _ (ptr_val p ∷ vint w64 x ∷ seq_cst ∷ []) (λ u. mean 𝓛 (stored (g.after x) u)))) (stores 𝓛 𝓜 𝓡 (code.calls-std::sync::atomic::raw::store 𝓡.env wired) p x are.1.1.0.1 (g.after x)) $
          enter ! 𝓣.C 𝓣.Λ mir (us does.Store) (Post does.Store) $ alloc_all ! (λ l. pass_all ! refl
          (ptr_good p, (operation_good does.Store, ((tt, record { fits = are.1.1.0.1 }), ((tt, record { fits = are.1.1.1.0.1 }), tt)))) $ let locals = env mir.locals l in
          let Then = any_q (after_seq 𝓤 H (Wp 𝓤 H 𝓣.C 𝓣.Λ locals (after 1 mir.body) (at_return 𝓤 H locals (Post does.Store))) (at_return 𝓤 H locals (Post does.Store))) in
          first ! $ switches_on ! (get_tag ! (vrt ! refl (fld ! refl (stop !))) (all_of_it !)) $ exec ! 𝓣.C 𝓣.Λ locals (arm_body 1 (head mir.body)) Then $
          first ! $ blocks ! $ sets ! (agg ! (and_then ! (lit ! tt) (no_more !))) refl (tt, (record { fits = lit< tt }, tt)) $
          Calls-last ! (fm 𝓛 𝓜 𝓡) (stored (g.after x)) (and_then ! (get ! refl) (and_then ! (get ! refl) (and_then ! (get ! refl) (no_more !)))) (λ u. has_stored ! (g.after x) (lands_last ! refl (tt, tt) $
          exec ! 𝓣.C 𝓣.Λ locals (after 1 (arm_body 1 (head mir.body))) Then $ sets_last ! (of_opd ! (get ! refl)) refl (tt, record { fits = are.1.1.0.1 }) $ exec ! 𝓣.C 𝓣.Λ locals (after 1 mir.body) (at_ret locals (Post does.Store)) $
          sets ! (of_opd ! (get ! refl)) refl (tt, record { fits = are.1.1.0.1 }) $ returns ! (look_at ! 0 refl) $ free_all ! refl $ ends does.Store x are.1.1.0.1)))
      | does.Add ↦ qed 𝓛 ((raw tokens ⊛ ‵ (args does.Add)) ∷ raw (fact 𝓤 _) ∷ raw (asks 𝓛 p (becomes does.Add x z) always (out does.Add)) ∷ []) ∵ split ! $ keep ! (3 ∷ 0 ∷ []) $
          use1 𝓛 (raw (𝓣.C _ (ptr_val p ∷ vint w64 x ∷ seq_cst ∷ []) (λ u. mean 𝓛 (found (out does.Add) u)))) (adds 𝓛 𝓜 𝓡 (code.calls-std::sync::atomic::raw::fetch_add 𝓡.env wired) p x are.1.1.0.1 (out does.Add)) $
          enter ! 𝓣.C 𝓣.Λ mir (us does.Add) (Post does.Add) $ alloc_all ! (λ l. pass_all ! refl
          (ptr_good p, (operation_good does.Add, ((tt, record { fits = are.1.1.0.1 }), ((tt, record { fits = are.1.1.1.0.1 }), tt)))) $ let locals = env mir.locals l in
          let Then = any_q (after_seq 𝓤 H (Wp 𝓤 H 𝓣.C 𝓣.Λ locals (after 1 mir.body) (at_return 𝓤 H locals (Post does.Add))) (at_return 𝓤 H locals (Post does.Add))) in
          first ! $ switches_on ! (get_tag ! (vrt ! refl (fld ! refl (stop !))) (all_of_it !)) $ exec ! 𝓣.C 𝓣.Λ locals (arm_body 2 (head mir.body)) Then $ sets ! (agg ! (and_then ! (lit ! tt) (no_more !))) refl (tt, (record { fits = lit< tt }, tt)) $
          Calls-last ! (fm 𝓛 𝓜 𝓡) (found (out does.Add)) (and_then ! (get ! refl) (and_then ! (get ! refl) (and_then ! (get ! refl) (no_more !)))) (λ u.
          finds ! (out does.Add) (λ n fits. lands_last ! refl (tt, record { fits = fits }) $ exec ! 𝓣.C 𝓣.Λ locals (after 1 mir.body) (at_ret locals (Post does.Add)) $
          sets ! (of_opd ! (get ! refl)) refl (tt, record { fits = fits }) $ returns ! (look_at ! 0 refl) $ free_all ! refl $ ends does.Add n fits)))
      | does.Subtract ↦ qed 𝓛 ((raw tokens ⊛ ‵ (args does.Subtract)) ∷ raw (fact 𝓤 _) ∷ raw (asks 𝓛 p (becomes does.Subtract x z) always (out does.Subtract)) ∷ []) ∵ split ! $ keep ! (3 ∷ 0 ∷ []) $
          use1 𝓛 (raw (𝓣.C _ (ptr_val p ∷ vint w64 x ∷ seq_cst ∷ []) (λ u. mean 𝓛 (found (out does.Subtract) u)))) (subs 𝓛 𝓜 𝓡 (code.calls-std::sync::atomic::raw::fetch_sub 𝓡.env wired) p x are.1.1.0.1 (out does.Subtract)) $
          enter ! 𝓣.C 𝓣.Λ mir (us does.Subtract) (Post does.Subtract) $ alloc_all ! (λ l.
          pass_all ! refl (ptr_good p, (operation_good does.Subtract, ((tt, record { fits = are.1.1.0.1 }), ((tt, record { fits = are.1.1.1.0.1 }), tt)))) $
          let locals = env mir.locals l in let Then = any_q
          (after_seq 𝓤 H (Wp 𝓤 H 𝓣.C 𝓣.Λ locals (after 1 mir.body) (at_return 𝓤 H locals (Post does.Subtract))) (at_return 𝓤 H locals (Post does.Subtract))) in
          first ! $ switches_on ! (get_tag ! (vrt ! refl (fld ! refl (stop !))) (all_of_it !)) $ exec ! 𝓣.C 𝓣.Λ locals (arm_body 3 (head mir.body)) Then $ sets ! (agg ! (and_then ! (lit ! tt) (no_more !))) refl (tt, (record { fits = lit< tt }, tt)) $
          Calls-last ! (fm 𝓛 𝓜 𝓡) (found (out does.Subtract)) (and_then ! (get ! refl) (and_then ! (get ! refl) (and_then ! (get ! refl) (no_more !)))) (λ u.
          finds ! (out does.Subtract) (λ n fits. lands_last ! refl (tt, record { fits = fits }) $
          exec ! 𝓣.C 𝓣.Λ locals (after 1 mir.body) (at_ret locals (Post does.Subtract)) $
          sets ! (of_opd ! (get ! refl)) refl (tt, record { fits = fits }) $ returns ! (look_at ! 0 refl) $ free_all ! refl $ ends does.Subtract n fits)))
      | does.Or ↦ qed 𝓛 ((raw tokens ⊛ ‵ (args does.Or)) ∷ raw (fact 𝓤 _) ∷ raw (asks 𝓛 p (becomes does.Or x z) always (out does.Or)) ∷ []) ∵ split ! $ keep ! (3 ∷ 0 ∷ []) $
          use1 𝓛 (raw (𝓣.C _ (ptr_val p ∷ vint w64 x ∷ seq_cst ∷ []) (λ u. mean 𝓛 (found (out does.Or) u)))) (ors 𝓛 𝓜 𝓡 (code.calls-std::sync::atomic::raw::fetch_or 𝓡.env wired) p x are.1.1.0.1 (out does.Or)) $
          enter ! 𝓣.C 𝓣.Λ mir (us does.Or) (Post does.Or) $ alloc_all ! (λ l. pass_all ! refl
          (ptr_good p, (operation_good does.Or, ((tt, record { fits = are.1.1.0.1 }), ((tt, record { fits = are.1.1.1.0.1 }), tt)))) $ let locals = env mir.locals l in
          let Then = any_q (after_seq 𝓤 H (Wp 𝓤 H 𝓣.C 𝓣.Λ locals (after 1 mir.body) (at_return 𝓤 H locals (Post does.Or))) (at_return 𝓤 H locals (Post does.Or))) in
          first ! $ switches_on ! (get_tag ! (vrt ! refl (fld ! refl (stop !))) (all_of_it !)) $ exec ! 𝓣.C 𝓣.Λ locals (arm_body 4 (head mir.body)) Then $ sets ! (agg ! (and_then ! (lit ! tt) (no_more !))) refl (tt, (record { fits = lit< tt }, tt)) $
          Calls-last ! (fm 𝓛 𝓜 𝓡) (found (out does.Or)) (and_then ! (get ! refl) (and_then ! (get ! refl) (and_then ! (get ! refl) (no_more !)))) (λ u.
          finds ! (out does.Or) (λ n fits. lands_last ! refl (tt, record { fits = fits }) $ exec ! 𝓣.C 𝓣.Λ locals (after 1 mir.body) (at_ret locals (Post does.Or)) $
          sets ! (of_opd ! (get ! refl)) refl (tt, record { fits = fits }) $ returns ! (look_at ! 0 refl) $ free_all ! refl $ ends does.Or n fits)))
      | does.Exchange ↦ qed 𝓛 ((raw tokens ⊛ ‵ (args does.Exchange)) ∷ raw (fact 𝓤 _) ∷ raw (asks 𝓛 p (becomes does.Exchange x z) always (out does.Exchange)) ∷ []) ∵ split ! $ keep ! (3 ∷ 0 ∷ []) $
          use1 𝓛 (raw (𝓣.C _ (ptr_val p ∷ vint w64 x ∷ vint w64 z ∷ []) (λ u. mean 𝓛 (found (out does.Exchange) u)))) (exchanges 𝓛 𝓜 𝓡 (code.calls-atomic_table::exchange 𝓡.env wired) p x z are.1.1.0.1 are.1.1.1.0.1 (out does.Exchange)) $
          enter ! 𝓣.C 𝓣.Λ mir (us does.Exchange) (Post does.Exchange) $ alloc_all ! (λ l.
          pass_all ! refl (ptr_good p, (operation_good does.Exchange, ((tt, record { fits = are.1.1.0.1 }), ((tt, record { fits = are.1.1.1.0.1 }), tt)))) $
          let locals = env mir.locals l in let Then = any_q
          (after_seq 𝓤 H (Wp 𝓤 H 𝓣.C 𝓣.Λ locals (after 1 mir.body) (at_return 𝓤 H locals (Post does.Exchange))) (at_return 𝓤 H locals (Post does.Exchange))) in
          first ! $ switches_on ! (get_tag ! (vrt ! refl (fld ! refl (stop !))) (all_of_it !)) $ exec ! 𝓣.C 𝓣.Λ locals (arm_body 5 (head mir.body)) Then $
          Calls-last ! (fm 𝓛 𝓜 𝓡) (found (out does.Exchange)) (and_then ! (get ! refl) (and_then ! (get ! refl) (and_then ! (get ! refl) (no_more !)))) (λ u.
          finds ! (out does.Exchange) (λ n fits. lands_last ! refl (tt, record { fits = fits }) $
          exec ! 𝓣.C 𝓣.Λ locals (after 1 mir.body) (at_ret locals (Post does.Exchange)) $
          sets ! (of_opd ! (get ! refl)) refl (tt, record { fits = fits }) $ returns ! (look_at ! 0 refl) $ free_all ! refl $ ends does.Exchange n fits)))
    ])
