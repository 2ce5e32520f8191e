-- A call of `test`: what it is handed, a `&` to the allocator, a token of its lifetime and the right to free the block, and what a caller has of it. Assumes `Logic`.
use Rattle.mem_blocks.proofs.Walks.{◌≡◌, ℕ, List, [], ◌∷◌, refl, ap, Ty, Val, vunit, vptr, left, right, SProp, ent, sep, emp, guard, id⊢, Lft, Share, ftrue, fsep, flft, Logic, sem, ‵, raw, ◌⊛◌, some, later, ◌$◌, ◌∵◌, !, qed, move, keep}
use Rattle.mem_blocks.proofs.Walks.{drop, use0, use1, use2, split, split3, join, fjoin, pick, check, await, done, feq_i, fact, fact_i, ◌⊑◌, ⊑_refl, Ptr, ptr_val, Testable, nothing, heard, only, unit, triple_of, Ura}
use mir.Syntax.{Dict}
use prog.{Memory.Memory, Routine.Routine}
use types.Kit.{feq_l, updating, now}
use contract.Monad.{Fun}
use denote.Triple.Statement.{Contract}
use Rattle.std.proofs.alloc.Calls.{Al, token, seen}
use Rattle.mem_blocks.specs.declared.null_testable.NullTestable.{Ghosts}
use Rattle.mem_blocks.specs.contracts.null_testable.NullTestable.test as Test

module _ (Z : Al) (g : Ghosts Z.row.Denot) (d : Dict) {M : Type 1} {𝓤 : Ura M} (𝓛 : Logic 𝓤) (at_mem : Memory → SProp 𝓤) (run : Routine → Fun 𝓤) where
  open 𝓛 use {H, A}

  abbrev pub Asks : Contract 𝓤
  Asks = triple_of 𝓛 (Test.signature Z.row) (Test.spec Z.row g d Z.g Z.d Z.drops 𝓛 at_mem run)

  module _ (κ : Lft) (q : Share) (p : ℕ × ℕ) (a : Z.row.Denot) (x : Ptr) (τ : Ty) where
    abbrev pub asked_at : Asks.Ghost
    asked_at = (((κ, (κ, tt)), (left q, (right q, tt)), (⊑_refl κ, tt), (record { ref_ptr = p; now = a }, (x, tt)), (vptr p.0 p.1 ∷ [], (ptr_val x ∷ [], tt))), τ)

    pub asks_of : κ ⊑ Z.row.lives → ent 𝓤 (sep 𝓤 (sem 𝓛 (token Z a τ x)) (sep 𝓤 (sem 𝓛 (seen Z κ p a)) (A.lft κ q))) (Asks.pre asked_at)
    asks_of le = qed 𝓛 (‵ (token Z a τ x) ∷ ‵ (seen Z κ p a) ∷ ‵ (flft κ q) ∷ []) ∵ use0 𝓛 (raw (fact 𝓤 (κ ⊑ Z.row.lives))) (fact_i 𝓤 (κ ⊑ Z.row.lives) (emp 𝓤) le) $ join ! $
        nothing ! $ feq_i ! (List Val) (ptr_val x ∷ []) (ptr_val x ∷ []) refl $ fjoin ! $ move ! (2 ∷ []) $ feq_i ! (List Val) (vptr p.0 p.1 ∷ []) (vptr p.0 p.1 ∷ []) refl $ fjoin ! $ fjoin ! $
        move ! (2 ∷ []) $ use1 𝓛 (‵ (flft κ (left q)) ⊛ ‵ (flft κ (right q))) (𝓛.lfts.lft_split κ q) $ split ! $ nothing ! $ move ! (2 ∷ 0 ∷ []) $ join ! $ move ! (1 ∷ 0 ∷ []) $ join ! $ join ! $ done !

    pub told_of : (v : Val) → ent 𝓤 (Asks.post asked_at v) (H.⇛ (guard 𝓤 ((v ≡ vunit) × Testable x) (sep 𝓤 (A.lft κ q) (sem 𝓛 (token Z a τ x)))))
    told_of v = qed 𝓛 (raw (Asks.post asked_at v) ∷ []) ∵ updating ! $
        use1 𝓛 (later (some (λ (r : Unit {0}). ((‵ (flft κ (left q)) ⊛ ‵ (flft κ (right q)) ⊛ ‵ ftrue) ⊛ ‵ (unit.own_val r (v ∷ []))) ⊛ some (λ (ws : Unit {0} × (Unit {0} × Unit {0})). ‵ (fsep ftrue (fsep ftrue ftrue)) ⊛ raw (fact 𝓤 (Testable x)) ⊛ ‵ (token Z a τ x))))) (id⊢ 𝓤 _) $
        await ! tt $ pick ! (λ r. split ! $ split ! $ move ! (1 ∷ []) $ feq_l ! (λ e. split3 ! $ use2 𝓛 (‵ (flft κ q)) (𝓛.lfts.lft_join κ q) $ move ! (2 ∷ []) $ pick ! (λ ws. split3 ! $ drop ! $ heard ! (Testable x) (λ low.
        now ! $ check ! (ap only e, low) $ keep ! (1 ∷ 0 ∷ []) $ done !))))
