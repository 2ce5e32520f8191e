-- Who holds which slot, for a keeper of the slots that lends them out: what a step takes, passes on or gives back.
use Rattle.std.proofs.Common.{ℕ, ◌<◌, ◌≡◌, ◌≢◌, ◌∙◌, Option, Some, None, List, [], ◌∷◌, ap}
use Rattle.queue_laws.specs.{Common.Vocabulary.Touch, Common.Puts.put, Common.Effects.Touches, Ring.RingCells.Cell, Ring.RingCells.Ring, Ring.RingCells.owner, Ring.RingCells.HoldsNone, Ring.RingPasses.Passes, Ring.RingPasses.Lent, Ring.RingWords.item_in}
use Rattle.queue_laws.proofs.Ring.RingPasses.{none_stays}

-- What a step with this touch does to the slots, where v is carried: nothing; it claims one that is nobody's; it goes on with its own; it gives its own back with v
pub data Shift {A : Type 0} (cap who : ℕ) (r s : Ring A) (t : Touch) (v : Option A) : Type 0 where
  Rests : t ≡ Touch.Nothing → s.cells ≡ r.cells → Shift cap who r s t v
  Claims : (i : ℕ) (c : Cell A) → i < cap → t ≡ Touch.Nothing → HoldsNone r.cells who → owner (r.cells i) ≡ None → owner c ≡ Some who → item_in c ≡ item_in (r.cells i) → s.cells ≡ put r.cells i c → Shift cap who r s t v
  GoesOn : (i : ℕ) (c : Cell A) → t ≡ Touch.Nothing → owner (r.cells i) ≡ Some who → owner c ≡ Some who → item_in c ≡ item_in (r.cells i) → s.cells ≡ put r.cells i c → Shift cap who r s t v
  Returns : (i : ℕ) (c : Cell A) → i < cap → Touches t i → owner (r.cells i) ≡ Some who → owner c ≡ None → item_in c ≡ v → s.cells ≡ put r.cells i c → Shift cap who r s t v

-- what a party has stays with it at the steps of others
pub lent_stays : {A : Type 0} {r s : Ring A} (who other : ℕ) (xs : List (ℕ × Option A)) → other ≢ who → Passes who r s → Lent r other xs → Lent s other xs
lent_stays who other [] ne pass none = none_stays who other ne pass none
lent_stays who other (x ∷ []) ne pass h =
    let same = pass.held x.0 other ne h.0 in (ap owner same ∙ h.0, ap item_in same ∙ h.1, λ k e. h.2 k (pass.owned k other ne e))
lent_stays who other (x ∷ y ∷ zs) ne pass h = absurd h
