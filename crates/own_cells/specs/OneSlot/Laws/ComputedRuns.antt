-- A call on cells that leave no choice ends as a run does that can be computed.
use Rattle.std.specs.Prelude.{◌≡◌, ℕ, zero, suc, Option, Some, None, refl, Bool, true, false, ◌&&◌, if◌then◌else◌}
use Rattle.std.proofs.Common.{sym, subst}
use Rattle.queue_steps.specs.declared.{model.Reply.Reply, steps.types.Kind.Kind, steps.types.Answer.Answer, steps.types.Local.Local, steps.types.Next.Next, steps.types.Next.Next as next, steps.types.Op.Op, steps.types.Touch.Touch}
use Rattle.queue_steps.specs.Next.{CanNext, next_of}
use Rattle.call_driver.specs.EndsIn.{EndsIn}
use Rattle.own_cells.specs.OneSlot.ComputedSteps.{CanTouch, Touches, CanPerform, Performs}

-- how a call ended
pub record Outcome (T B M : Type 0) : Type 0 where
  pub reply : Reply Unit
  pub spare : Option B
  pub carried : Option T
  pub cells : M

module _ {T B M : Type 0} (touchable : M → Touch → Op B → Bool) (touched : M → Touch → Op B → Option T → M × Option T) (operable : M → Op B → Bool) (performed : M → Op B → Answer B × M) where
  -- the call ends within so many steps, with what P says of its reply, its spare, what it carries and the cells
  abbrev EndsThere : ℕ → Kind → Next B → M → Option T → (Reply Unit → Option B → Option T → M → Type 0) → Type 0
  EndsThere = EndsIn (CanTouch touchable touched operable performed) (Touches touchable touched operable performed) (CanPerform touchable touched operable performed) (Performs touchable touched operable performed)

  -- a call whose step may be done, and that ends from there, ends
  pub EndsIn-step : (n : ℕ) (k : Kind) (l : Local B) (t : Touch) (q : Op B) (cells : M) (carried : Option T) (P : Reply Unit → Option B → Option T → M → Type 0)
      → touchable cells t q ≡ true → operable (touched cells t q carried).0 q ≡ true
      → CanNext k l (performed (touched cells t q carried).0 q).0
      → EndsThere n k (next_of k l (performed (touched cells t q carried).0 q).0) (performed (touched cells t q carried).0 q).1 (touched cells t q carried).1 P
      → EndsThere (suc n) k (next.Step l t q) cells carried P
  EndsIn-step n k l t q cells carried P can_touch can_perform can_next ends = (
    can_touch,
    λ after left is.
        let here : Done (after, left) = subst Done (sym is) (can_perform, (can_next, ends)) in (
          here.0,
          λ x finish was.
              let F : Answer B × M → Type 0 = λ y. Rest y.0 y.1 left in
              subst F (sym was) here.1,
        ),
  )
    where
      Rest : Answer B → M → Option T → Type 0
      Rest x y z = CanNext k l x × EndsThere n k (next_of k l x) y z P

      Done : M × Option T → Type 0
      Done v = (operable v.0 q ≡ true) × Rest (performed v.0 q).0 (performed v.0 q).1 v.1

  -- how the call ends, if it does before n steps and each of them may be done, by a test of `CanNext`
  module _ (can_next : Kind → Local B → Answer B → Bool) (can_next-is : (k : Kind) (l : Local B) (a : Answer B) → can_next k l a ≡ true → CanNext k l a) where
    abbrev pub run_from : ℕ → Kind → Next B → M → Option T → Option (Outcome T B M)
    run_from zero k todo cells carried = None
    run_from (suc n) k (next.Reply r spare) cells carried = Some (record { reply = r; spare = spare; carried = carried; cells = cells })
    run_from (suc n) k (next.Step l t o) cells carried =
        let u = touched cells t o carried in
        let a = performed u.0 o in
        if touchable cells t o && (operable u.0 o && can_next k l a.0) then run_from n k (next_of k l a.0) a.1 u.1 else None

    -- a computed run ends
    pub EndsIn-run : (n : ℕ) (k : Kind) (todo : Next B) (cells : M) (carried : Option T) (P : Reply Unit → Option B → Option T → M → Type 0) (o : Outcome T B M)
        → run_from n k todo cells carried ≡ Some o → P o.reply o.spare o.carried o.cells
        → EndsThere n k todo cells carried P
    EndsIn-run zero k todo cells carried P o runs p = cc
    EndsIn-run (suc n) k (next.Reply r spare) cells carried P o runs p =
        let ended : Outcome T B M = record { reply = r; spare = spare; carried = carried; cells = cells } in
        let same : ended ≡ o = cc in
        let F : Outcome T B M → Type 0 = λ x. P x.reply x.spare x.carried x.cells in
        subst F (sym same) p
    EndsIn-run (suc n) k (next.Step l t q) cells carried P o runs p =
        done (touchable cells t q) (operable u.0 q) (can_next k l a.0) refl refl refl runs (λ r. EndsIn-run n k (next_of k l (performed (touched cells t q carried).0 q).0) (performed (touched cells t q carried).0 q).1 (touched cells t q carried).1 P o r p)
      where
        u : M × Option T
        u = touched cells t q carried

        a : Answer B × M
        a = performed u.0 q

        done : (b1 b2 b3 : Bool) → touchable cells t q ≡ b1 → operable u.0 q ≡ b2 → can_next k l a.0 ≡ b3
            → (if b1 && (b2 && b3) then run_from n k (next_of k l a.0) a.1 u.1 else None) ≡ Some o
            → (run_from n k (next_of k l a.0) a.1 u.1 ≡ Some o → EndsThere n k (next_of k l a.0) a.1 u.1 P)
            → EndsThere (suc n) k (next.Step l t q) cells carried P
        done false b2 b3 e1 e2 e3 runs more = cc
        done true false b3 e1 e2 e3 runs more = cc
        done true true false e1 e2 e3 runs more = cc
        done true true true e1 e2 e3 runs more = EndsIn-step n k l t q cells carried P e1 e2 (can_next-is k l a.0 e3) (more runs)
