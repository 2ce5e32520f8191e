-- `none` makes a handle of nothing.
use Rattle.std.proofs.Common.{◌≡◌, List, [], ◌∷◌, ◌++◌, refl, sym, subst}
use mir.Val.{Val}
use base.{Logic.SProp, Logic.ent, Logic.emp, Logic.id⊢, Fml.ftrue}
use prog.Wp.{WpFn}
use types.Kit.{‵, raw, ◌⊛◌, ◌$◌, ◌∵◌, !, qed, by, move, keep, split, fsplit, fjoin, suffices, use0}
use types.{Run.lit, Run.no_more, Run.and_then, Run.returns, Run.enter, Part.agg}
use types.ByLocal.{alloc_all, pass_all, free_all, look_at, get, sets}
use contract.{Monad.fact, Monad.fact_i, Running.tables}
use denote.{Exit.yes, Steps.nothing, RattleType.owns, RawPtr.null_ptr, RawPtr.ptr_val, Signature.types_at, Signature.plain}
use denote.Triple.Walked.{Stays, stay_dropped, walk_of, Goes-dropped}
use Rattle.core.proofs.alloc.Calls.{handle_tells}
use Rattle.std.{specs.declared.option.Option.TheVariants.None, proofs.raw_atomic.Walks.proved_at, proofs.raw_atomic.Walks.leaves}
use Rattle.queue_c.proofs.{Values.both, handle.Handle.none.Statement.statement, Handles.Z, Handles.E, Handles.al, Handles.handle_in, Handles.null_good}
use Rattle.queue_c.specs.contracts.handle.Handle.none.{ended, clauses, Key.name as #self}
use Rattle.queue_c.proofs.handle.Handle.none.Code as code

pub none_spec : {M : Type 1} → statement M
none_spec 𝓤 𝓛 𝓜 𝓡 wired =
    let H = 𝓛.H in let 𝓣 = tables 𝓤 H 𝓜 𝓡 𝓡.env in let c = clauses 𝓛 𝓜.mem 𝓡.returns in let fn = code.function in
    let hs : Stays ended.signature.params ended.kept = (stay_dropped (plain (λ _. Z)) yes, tt) in
    proved_at 𝓛 ended hs c 𝓜 𝓡 (Goes-dropped 𝓛 0 (plain (λ _. Z)) yes (λ κs x f. refl), tt) #self fn (code.unfolded 𝓤 H 𝓜 𝓡 wired) (λ z are.
    let a = z.0.3.0 in let Post : Val → SProp 𝓤 = (walk_of 𝓛 ended hs c).post z in let Run : List Val → SProp 𝓤 = λ ws. WpFn 𝓤 H 𝓣.C 𝓣.Λ fn ws Post in
    qed 𝓛 ((‵ ftrue ⊛ ‵ (owns (types_at ended.signature.params z.0.0) z.0.3 z.0.4)) ∷ raw ((c z.0.0 z.0.3).requires z.1) ∷ []) ∵ split ! $ move ! (1 ∷ []) $ fsplit ! $ handle_tells al ! a z.0.4.0 (λ h ws fits.
    let w : Val = both (ptr_val null_ptr) h in let nothing_yet : E.Denot = None in let Nothing : Type 0 = nothing_yet ≡ None in
    suffices ! (Run (h ∷ [])) (subst (λ (us : List Val). ent 𝓤 (Run (h ∷ [])) (Run us)) (sym (λ i. ws i ++ [])) (id⊢ 𝓤 (Run (h ∷ [])))) $
    enter ! 𝓣.C 𝓣.Λ fn (h ∷ []) Post $ alloc_all ! (λ l. pass_all ! refl (fits, tt) $
    sets ! (agg ! (and_then ! (lit ! tt) (and_then ! (get ! refl) (no_more !)))) refl (null_good h fits) $ nothing ! $ handle_in ! null_ptr h a None $
    use0 𝓛 (raw (fact 𝓤 Nothing)) (fact_i 𝓤 Nothing (emp 𝓤) refl) $ nothing ! $ nothing ! $ fjoin ! $
    returns ! (look_at ! 0 refl) $ free_all ! refl $ keep ! (4 ∷ 0 ∷ 2 ∷ 1 ∷ []) $ by ! (leaves 𝓛 ended hs c z w (record { at = null_ptr; alloc = a; end = None }) (tt, tt) (tt, tt)))))
