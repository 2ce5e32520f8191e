-- The first party of a queue: it is at nothing, and has all of the share.
use Rattle.std.proofs.Common.{◌≡◌, ℕ, zero, suc, ◌≤◌, true, [], ◌∷◌, Option, refl, ap, sym, subst, arith}
use mathlib.Core.Option.{some, some-injective, some-ne-none}
use lib.ListN.{get_elem?}
use Rattle.queue_steps.specs.Shares.{entire}
use Rattle.shared_parties.specs.{declared.known.Known.Known, declared.known.CallState.CallState, Known.party, Known.IsTrueOf, Known.Kept, CallStates.idle, CallStates.is_busy}
use Rattle.shared_parties.proofs.Totals.{once_none}

module _ {T : Type 0} (cap : Option ℕ) where
  abbrev first : Known T
  first = party cap [] [] entire

  pub first_rests : (j : ℕ) (d : CallState T) → get_elem? (idle first ∷ []) j ≡ some d → is_busy d.work ≡ true → ⊥
  first_rests zero d e busy = let h = ap (λ (x : CallState T). is_busy x.work) (some-injective (idle first) d e) in cc
  first_rests (suc j) d e busy = some-ne-none d (sym e)

  pub first_kept : Kept cap [] 1 (first ∷ [])
  first_kept = record {
    legal = tt;
    true_of = first_true;
    owned = λ p. omega (arith, once_none p);
    counted = refl;
    limited = omega arith;
    divided = record { depth = 0; shallow = first_shallow; one = refl };
  }
    where
      first_shallow : (j : ℕ) (v : Known T) → get_elem? (first ∷ []) j ≡ some v → (v.share.1 ≤ 0) × (v.second_share.1 ≤ 0)
      first_shallow zero v e = subst (λ (z : Known T). (z.share.1 ≤ 0) × (z.second_share.1 ≤ 0)) (some-injective first v e) (omega arith, omega arith)
      first_shallow (suc j) v e = absurd (some-ne-none v (sym e))

      first_true : (j : ℕ) (v : Known T) → get_elem? (first ∷ []) j ≡ some v → IsTrueOf cap [] v
      first_true zero v e = subst (IsTrueOf cap []) (some-injective first v e)
          record {
            capped = λ _. refl;
            begins = ([], refl);
            heard = ([], refl);
            within = λ p m. absurd (omega arith);
            empty = λ none. absurd (omega arith);
            surplus = omega arith;
            poor = λ none. absurd (omega arith);
            some = λ _. omega arith;
            alone = λ _. refl;
            both = λ more. absurd (omega arith);
          }
      first_true (suc j) v e = absurd (some-ne-none v (sym e))
