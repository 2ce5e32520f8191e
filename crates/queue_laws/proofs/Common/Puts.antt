-- What a function is that has another value at one number: there, and elsewhere.
use Rattle.std.proofs.Common.{ℕ, ◌≡◌, ◌≢◌, inl, inr, refl, sym, ap}
use Rattle.std.proofs.lemmas.Bool.Decides.{eqb_tells}
use Rattle.queue_laws.specs.Common.Puts.{put}

pub put_ok : {X : Type 0} (f : ℕ → X) (i j : ℕ) (x : X) (P : ℕ → X → Type 0) → P i x → (j ≢ i → P j (f j)) → P j (put f i x j)
put_ok f i j x P here there = elim (eqb_tells j i) [ inl t ↦ rw (t.0, t.1) here | inr n ↦ rw n.0 (there n.1) ]

pub put_same : {X : Type 0} (f : ℕ → X) (i : ℕ) (x : X) → put f i x i ≡ x
put_same f i x = put_ok f i i x (λ j d. j ≡ i → d ≡ x) (λ e. refl) (λ ne e. absurd (ne e)) refl

pub put_other : {X : Type 0} (f : ℕ → X) (i j : ℕ) (x : X) → j ≢ i → put f i x j ≡ f j
put_other f i j x ne = put_ok f i j x (λ k d. k ≡ j → d ≡ f j) (λ e. absurd (ne (sym e))) (λ no e. ap f e) refl
