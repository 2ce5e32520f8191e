-- Cases: a place before another or not; a glance at the middle of a displacement or none.
use Rattle.std.proofs.Common.{◌≡◌, ◌⊎◌, ℕ, ◌<◌, ◌≤◌, Option, Some, None, refl, inl, inr, arith}
use Rattle.queue_steps.specs.State.{State}
use Rattle.queue_laws.specs.{Common.Vocabulary.Call, Moment.Moments.IsGlance}

pub cases_before : (k n : ℕ) → (k < n) ⊎ (n ≤ k)
cases_before k n = grind arith

module _ {T : Type 0} where
  glance_or : (c : Call T) → IsGlance c ⊎ (IsGlance c → ⊥)
  glance_or Call.Pop = inr (λ h. h)
  glance_or c = search (inl, inr)

  coming_or : (o : Option T) → (o ≡ None) ⊎ ((v : T) × (o ≡ Some v))
  coming_or None = inl refl
  coming_or (Some v) = inr (v, refl)

  pub middle_or : (c : Call T) (Q : State T) → (IsGlance c → Q.coming ≡ None) ⊎ (IsGlance c × ((v : T) × (Q.coming ≡ Some v)))
  middle_or c Q =
      elim (glance_or c) [
        | inr other ↦ inl (λ g. absurd (other g))
        | inl g ↦ elim (coming_or Q.coming) [ inl none ↦ inl (λ any. none) | inr some ↦ inr (g, some) ]
      ]
