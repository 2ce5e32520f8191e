-- A party whose call stays pending.
use Rattle.std.proofs.Common.{◌≡◌, ℕ, false, Option, Some, None, sym, ap, subst, ◌∙◌}
use Rattle.std.proofs.lemmas.Bool.{false≢true}
use Rattle.queue_steps.specs.WaitFree.{is_wait_free}
use Rattle.concurrent_queue.specs.{Begun.Begun, Shared.QueueId, Shared.PartyView}
use Rattle.queue_c.specs.{declared.end.Turn.Turn, Fits.queue_at, Fits.is_within_at, Fits.IsTurnOf}

-- the pending call is of this queue's party, and no wait-free one
pends : (x : Option (PartyView ℕ)) (y : Option (Begun ℕ)) (p : Begun ℕ) (q : QueueId) → y ≡ Some p → queue_at x y ≡ q → is_within_at x y ≡ false → (p.party.queue ≡ q) × (is_wait_free p.call ≡ false)
pends None y p q is of fits = (subst (λ z. queue_at None z ≡ q) is of, subst (λ z. is_within_at None z ≡ false) is fits)
pends (Some v) y p q is of fits = absurd (false≢true (sym (subst (λ z. is_within_at (Some v) z ≡ false) is fits)))

-- the turn fits where the call stays pending
pub still_fits : (t u : Turn) (p r : Begun ℕ) (q : QueueId) → t.pending ≡ Some p → IsTurnOf t q → u.party ≡ None → u.pending ≡ Some r → r ≡ p → IsTurnOf u q
still_fits t u p r q is fits party pending same =
    let h = pends t.party t.pending p q is fits.0 fits.1 in let now : u.pending ≡ Some p = pending ∙ ap Some same in (
      subst (λ z. queue_at z u.pending ≡ q) (sym party) (subst (λ z. queue_at None z ≡ q) (sym now) h.0),
      subst (λ z. is_within_at z u.pending ≡ false) (sym party) (subst (λ z. is_within_at None z ≡ false) (sym now) h.1),
    )
