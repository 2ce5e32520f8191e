-- The request is counted, and refused, or passed on to the inner allocator. Assumes `Logic`.
use Rattle.std.proofs.Common.{◌≡◌, ℕ, ◌^◌, ◌<◌, Bool, true, false, Ok, Err, List, [], ◌∷◌, refl, w64, Bor}
use seplogic.Ra.Ura.{Ura}
use mir.Syntax.{Ty, Args, Fn, a_type, dnil, dcons}
use mir.{Val.Val, Val.vbool, Val.vint, Val.vptr, MapTy.inst_fn}
use base.{Logic.SProp, Logic.ent, Fml.Lft, Fml.Share, Fml.ftrue, Fml.flft}
use prog.{Memory.Memory, Memory.size, Memory.align, Memory.capped, Routine.Routine, Wp.WpFn, Wp.Tables}
use types.{Logic.Logic, Part.agg}
use types.Kit.{Sq, prop, ‵, raw, ◌⊛◌, some, later, given, at_ret, pick, drop, use0, ◌$◌, ◌∵◌, !, qed, move, keep, use1, use2, split, join, learn, fsplit, fjoin, suffices, await, done}
use types.Run.{stop, fld, addr, lit, no_more, and_then, first, branches, skips, exec, returns, returns_within, enter}
use types.ByLocal.{alloc_all, pass_all, free_all, look_at, get, through, sets, lands_as, env}
use contract.BorrowLft.{◌⊑◌, ⊑_trans}
use contract.{Monad.Fun, Monad.fact, Running.tables, Running.tables_of}
use sound.WpLaws.{fm_of, WpFn-mono}
use denote.{Exit.yes, Ref.shr_vals, Memory.hidden_shr, RattleType.owns, RawPtr.block_ptr, Param.bounded, Param.param, Steps.heard, Steps.nothing, Plain.uint_vals, Plain.uint_Tells, Builtin.usize, Builtin.RefOf}
use denote.Signature.{Slot, plain, types_at}
use denote.Triple.{Call.calls_at, Spec.triple_of, Statement.Triple, Table.entered, Table.cited, Clauses.Ended, Clauses.Clauses}
use denote.Triple.Walked.{Stays, stay_dropped, walk_of, ends_at, walked, Goes-dropped, walk_Meets}
use Rattle.std.proofs.alloc.Calls.{Al, seen, Answer, answer_val, Answer-typed, Answer-Ok, Answer-err, takes_key, Takes, at_takes, Answered, Takes-goes, Takes-gives, answers}
use Rattle.test_support.proofs.Tallies.{Counted, inner_at, tally_at, fields-seen, later_of, IsRefused, at_refused, IsRefused-goes, IsRefused-gives}
use Rattle.test_support.proofs.allocators.is_refused.Symbol as callee
use Rattle.test_support.proofs.allocators.is_refused.Met as met_callee
use Rattle.test_support.specs.contracts.allocators.Refusing as refusing
use Rattle.test_support.specs.contracts.allocators.RefusingAllocator.allocate as F
use Rattle.test_support.specs.contracts.allocators.RefusingAllocator.allocate.Key as key
use Rattle.test_support.proofs.allocators.RefusingAllocator.allocate.Statement.{statement}
use Rattle.test_support.proofs.allocators.RefusingAllocator.allocate.Code as code

module _ (Z : Al) where
  abbrev args : Args
  args = bounded (a_type ∷ []) (Z.row, tt) (dcons Z.d (dcons Z.drops dnil))

  abbrev here : Fn
  here = inst_fn args code.function

  abbrev self : Slot 2
  self = RefOf (0 ∷ []) tt (plain (λ _. refusing.the_row (param 0 Z.row))) (λ _. tt)

  abbrev ended : Ended
  ended = F.ended Z.row Z.g Z.d Z.drops

  abbrev stayed : Stays ended.signature.params ended.kept
  stayed = (stay_dropped self yes, (stay_dropped (plain (λ _. usize)) yes, (stay_dropped (plain (λ _. usize)) yes, tt)))

module _ (Z : Al) {M : Type 1} {𝓤 : Ura M} (𝓛 : Logic 𝓤) (at_mem : Memory → SProp 𝓤) (run : Routine → Fun 𝓤) (𝓣 : Tables 𝓤 𝓛.H) (inner : Triple 𝓤 (𝓣.C (takes_key Z)) (Takes Z 𝓛 at_mem run)) (counts : Triple 𝓤 (𝓣.C callee.name) (IsRefused 𝓛 at_mem run)) where
  open 𝓛 use {H}

  abbrev held : Clauses 𝓤 (ended Z)
  held = F.clauses Z.row Z.g Z.d Z.drops 𝓛 at_mem run

  module _ (κ₁ κ₂ : Lft) (q₁ q₂ : Share) (within : κ₁ ⊑ κ₂) (r : Bor (refusing.the_row Z.row).Denot) (n a : ℕ) (τ : Ty) where
    abbrev bound : (walk_of 𝓛 (ended Z) (stayed Z) held).Ghost
    bound = (((κ₁, (κ₂, tt)), (q₁, (q₂, tt)), (within, tt), (r, (n, (a, tt))), (shr_vals r, (vint w64 n ∷ [], (vint w64 a ∷ [], tt)))), τ)

    abbrev values : List Val
    values = vptr r.ref_ptr.0 r.ref_ptr.1 ∷ vint w64 n ∷ vint w64 a ∷ []

    abbrev Post : Val → SProp 𝓤
    Post = (walk_of 𝓛 (ended Z) (stayed Z) held).post bound

    walk : n < 2 ^ 64 → a < 2 ^ 64 → ent 𝓤 ((walk_of 𝓛 (ended Z) (stayed Z) held).pre bound) (WpFn 𝓤 H 𝓣.C 𝓣.Λ (here Z) values Post)
    walk fits_n fits_a =
        let h : Z.row.Denot = r.now.inner in
        let p : ℕ × ℕ = inner_at Z r.ref_ptr in
        let c : ℕ × ℕ = tally_at Z r.ref_ptr in
        let t : Counted.Denot = r.now.tally in
        let y : (Takes Z 𝓛 at_mem run).Ghost = at_takes Z 𝓛 at_mem run κ₁ q₁ p h n a τ in
        let no_block : Sq 𝓛 (‵ (flft κ₁ q₁) ∷ (‵ (flft κ₂ q₂) ⊛ ‵ ftrue) ∷ []) (prop (Post (answer_val false 0 0))) =
        suffices ! _ (ends_at 𝓛 (ended Z) (stayed Z) held bound (answer_val false 0 0) (Err (record {})) (tt, (tt, (tt, tt))) (tt, (tt, (tt, tt)))) $
        nothing ! $ use0 𝓛 (‵ (Answer.own_val (Err (record {})) (answer_val false 0 0 ∷ []))) (Answer-err 𝓛) $ nothing ! $ nothing ! $ fjoin ! $ nothing ! $ fjoin ! $ nothing ! $ fjoin ! $ join ! $
        move ! (2 ∷ 3 ∷ []) $ join ! $ join ! $ done ! in
        let Sized : Type 0 = (capped (size τ) ≡ n) × (capped (align τ) ≡ a) in
        qed 𝓛 (((‵ (flft κ₁ q₁) ⊛ ‵ (flft κ₂ q₂) ⊛ ‵ ftrue) ⊛ ‵ (owns (types_at (ended Z).signature.params bound.0.0) bound.0.3 bound.0.4)) ∷ (raw (fact 𝓤 (κ₂ ⊑ Z.row.lives)) ⊛ raw (fact 𝓤 Sized)) ∷ []) ∵
        move ! (1 ∷ []) $ split ! $ heard ! (κ₂ ⊑ Z.row.lives) (λ lives. heard ! Sized (λ sized.
        split ! $ split ! $ move ! (2 ∷ []) $ fsplit ! $ fsplit ! $ move ! (1 ∷ []) $ use1 𝓛 (‵ (seen Z κ₁ p h) ⊛ ‵ (hidden_shr Counted κ₁ t c.0 c.1)) (fields-seen Z 𝓛 κ₁ r.ref_ptr r.now) $ split ! $ keep ! (1 ∷ 4 ∷ 0 ∷ 5 ∷ []) $
        enter ! 𝓣.C 𝓣.Λ (here Z) values _ $ alloc_all ! (λ l. pass_all ! refl ((tt, tt), ((tt, record { fits = fits_n }), ((tt, record { fits = fits_a }), tt))) $
        sets ! (addr ! (through ! refl (fld ! refl (stop !)))) refl (tt, tt) $
        use2 𝓛 (raw ((IsRefused 𝓛 at_mem run).pre (at_refused 𝓛 at_mem run κ₁ q₁ c t n a))) (IsRefused-goes 𝓛 at_mem run κ₁ q₁ c t n a fits_n fits_a) $
        calls_at ! (fm_of 𝓤 H 𝓛.laws 𝓣) (IsRefused 𝓛 at_mem run) counts (at_refused 𝓛 at_mem run κ₁ q₁ c t n a) (and_then ! (get ! refl) (and_then ! (get ! refl) (and_then ! (get ! refl) (no_more !)))) (λ u.
        use1 𝓛 (later (some (λ (f : Bool). given (u ≡ vbool f) (‵ (flft κ₁ q₁))))) (IsRefused-gives 𝓛 at_mem run κ₁ q₁ c t n a u) $ await ! tt $ pick ! (λ f. learn ! (λ eu.
        lands_as ! eu refl (tt, tt) $ move ! (1 ∷ []) $
        first ! $ branches ! (get ! refl)
        (λ yes_refused. drop ! $
        sets ! (agg ! (no_more !)) refl (tt, tt) $ sets ! (agg ! (and_then ! (lit ! tt) (and_then ! (get ! refl) (no_more !)))) refl (Answer-typed false 0 0) $
        returns_within ! Post refl (look_at ! 0 refl) $ free_all ! refl $
        no_block)
        (λ not_refused. skips ! $ exec ! 𝓣.C 𝓣.Λ (env (here Z).locals l) (later_of 3 (here Z).body) (at_ret _ Post) $
        sets ! (addr ! (through ! refl (fld ! refl (stop !)))) refl (tt, tt) $
        use2 𝓛 (raw ((Takes Z 𝓛 at_mem run).pre y)) (Takes-goes Z 𝓛 at_mem run κ₁ q₁ p h (⊑_trans κ₁ κ₂ Z.row.lives within lives) n a τ sized.0 sized.1 fits_n fits_a) $
        calls_at ! (fm_of 𝓤 H 𝓛.laws 𝓣) (Takes Z 𝓛 at_mem run) inner y (and_then ! (get ! refl) (and_then ! (get ! refl) (and_then ! (get ! refl) (no_more !)))) (λ v.
        use1 𝓛 (later (raw (Answered Z 𝓛 at_mem run h τ v) ⊛ ‵ (flft κ₁ q₁))) (Takes-gives Z 𝓛 at_mem run κ₁ q₁ p h n a τ v) $ await ! tt $ split ! $
        answers Z ! at_mem run h τ v
        (λ b o e. fjoin ! $ lands_as ! e refl (Answer-typed true b o) $ returns ! (look_at ! 0 refl) $ free_all ! refl $
        suffices ! _ (ends_at 𝓛 (ended Z) (stayed Z) held bound (answer_val true b o) (Ok (block_ptr b o)) (tt, (tt, (tt, tt))) (tt, (tt, (tt, tt)))) $
        use0 𝓛 (‵ (Answer.own_val (Ok (block_ptr b o)) (answer_val true b o ∷ []))) (Answer-Ok 𝓛 b o) $ nothing ! $ nothing ! $ fjoin ! $ nothing ! $ fjoin ! $ nothing ! $ fjoin ! $ join ! $
        move ! (2 ∷ 3 ∷ []) $ join ! $ join ! $ done !)
        (λ e. lands_as ! e refl (Answer-typed false 0 0) $ returns ! (look_at ! 0 refl) $ free_all ! refl $
        no_block)))))))))

pub allocate_spec : {M : Type 1} → statement M
unfolding tables_of
allocate_spec 𝓤 𝓛 𝓜 𝓡 wired Y L g d d' met _ =
    let Z : Al = record { row = Y; laws = L; g = g; d = d; drops = d' } in
    let A = 𝓛.A in
    let 𝓣 : Tables 𝓤 𝓛.H = tables_of 𝓤 𝓛.H 𝓜 (tables 𝓤 𝓛.H 𝓜 𝓡 𝓡.env) in
    let c = F.clauses Y g d d' 𝓛 𝓜.mem 𝓡.returns in
    let goes = Goes-dropped 𝓛 2 (plain (λ _. usize)) yes (λ κs x f. refl) in
    entered 𝓤 𝓛.H (triple_of 𝓛 (F.signature Y) (F.spec Y g d d' 𝓛 𝓜.mem 𝓡.returns)) 𝓣.C 𝓣.Λ (key.name (args Z)) (here Z) (code.unfolded 𝓤 𝓛.H 𝓜 𝓡 wired (Y, tt) d d')
    (walk_Meets 𝓛 (ended Z) (stayed Z) (Goes-dropped 𝓛 2 (self Z) yes (λ κs x f. refl), (goes, (goes, tt))) c (WpFn 𝓤 𝓛.H 𝓣.C 𝓣.Λ (here Z)) (WpFn-mono 𝓤 𝓛.H 𝓛.laws 𝓣 (here Z))
    (walked 𝓛 (ended Z) (stayed Z) c (WpFn 𝓤 𝓛.H 𝓣.C 𝓣.Λ (here Z)) (λ κs. (shr_vals, (uint_vals w64, (uint_vals w64, tt)))) (λ κs. ((λ r vs s. s.0), (uint_Tells w64, (uint_Tells w64, tt))))
    (λ κs qs bounds a τ are.
    walk Z 𝓛 𝓜.mem 𝓡.returns 𝓣 (met.allocate d') (cited 𝓤 𝓛.H _ 𝓜 𝓡 𝓡.env callee.name (𝓡.env callee.name) refl (met_callee.met 𝓤 𝓛 𝓜 𝓡 (code.calls-test_support::allocators::is_refused 𝓡.env wired)))
    κs.0 κs.1.0 qs.0 qs.1.0 bounds.0 a.0 a.1.0 a.1.1.0 τ are.1.0.1 are.1.1.0.1)))
