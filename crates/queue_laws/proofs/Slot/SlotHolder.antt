-- A step of one party leaves what the others have of the lock.
use Rattle.std.proofs.Common.{ℕ, ◌≡◌, ◌≢◌, ◌==◌, ◌∙◌, inl, inr, Bool, true, false, if◌then◌else◌, refl, sym}
use Rattle.std.proofs.lemmas.Bool.{eq-eqb, Decides.eqb_tells}
use Rattle.queue_laws.specs.Slot.SlotHolder.{SlotHolder, Nobody, Filling, Swapping, Taking, LockHolder, own_of, Idle}
use Rattle.queue_laws.specs.Slot.SlotRows.{Share, idle, fills, swaps, takes, Passes, stays, changes}

share_whole : {T : Type 0} (h : SlotHolder T) → Share h h
share_whole Nobody = idle Nobody
share_whole (Filling v) = fills v
share_whole (Swapping old v) = swaps old v
share_whole (Taking x) = takes x

pub share_of : {T : Type 0} (b : Bool) (h : SlotHolder T) → Share (if b then h else Nobody) h
share_of true h = share_whole h
share_of false h = idle h

pub next_who : {T : Type 0} {own h own' h' : SlotHolder T} → Passes own h own' h' → ℕ → ℕ → ℕ
next_who (stays own h) who p = who
next_who (changes h g) who p = p

pub own_self : {T : Type 0} {own h own' h' : SlotHolder T} (pass : Passes own h own' h') (who p : ℕ) → own ≡ own_of who h p → own' ≡ own_of (next_who pass who p) h' p
unfolding next_who
own_self (stays own h) who p e = e
own_self (changes h g) who p e = rw (eq-eqb p p refl) refl

pub own_other : {T : Type 0} {own h own' h' : SlotHolder T} (pass : Passes own h own' h') (who p j : ℕ) → own ≡ own_of who h p → j ≢ p → own_of (next_who pass who p) h' j ≡ own_of who h j
unfolding next_who
own_other (stays own h) who p j e ne = refl
own_other (changes h g) who p j e ne =
    elim (eqb_tells j p) [
      | inl t ↦ absurd (ne t.1)
      | inr f ↦ rw f.0 (elim (eqb_tells j who) as (λ _. Nobody ≡ (if j == who then h else Nobody)) [
        | inl t ↦ rw t.0 (elim (eqb_tells p who) [ inl u ↦ absurd (ne (t.1 ∙ sym u.1)) | inr u ↦ sym (rw u.0 at e) ])
        | inr u ↦ rw u.0 refl
      ])
    ]

pub own_alone : {T : Type 0} (g : LockHolder T) (p : ℕ) → ((j : ℕ) → j ≢ p → Idle g j) → own_of g.who g.hold p ≡ g.hold
own_alone g p others =
    elim (eqb_tells p g.who) [
      | inl t ↦ rw t.0 refl
      | inr f ↦ rw f.0 (sym (rw (eq-eqb g.who g.who refl) at (others g.who (λ e. f.1 (sym e)))))
    ]
