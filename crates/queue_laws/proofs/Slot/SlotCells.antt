-- Where a call on one slot stands, what a step of another party leaves of it, and that who has the lock has the slot.
use Rattle.std.proofs.Common.{ℕ, ◌≡◌, ◌≢◌, ◌∙◌, Bool, Option, Some, None, List, [], ◌∷◌, refl, sym, ap, subst}
use Rattle.std.proofs.lemmas.Bool.{eq-eqb}
use Rattle.queue_laws.specs.{Common.Effects.IsBetween, Common.Effects.Touches, Common.Stand.Stand, Common.Operations.OnWord, Common.Vocabulary.Op, Slot.SlotShared.IsLock, Slot.SlotShared.CanOperate, Slot.SlotHolder.SlotHolder, Slot.SlotHolder.Nobody}
use Rattle.queue_laws.specs.Slot.SlotCells.{Slot, own_in, Passes, lent_by, Lent, IsHeld}
use Rattle.queue_laws.specs.Slot.SlotRows.{Codes, free_empty, free_full, At, push_try, push_put, force_put_empty, force_put_full, pop_take}

pub nobody_if : {T : Type 0} (h : SlotHolder T) → [] ≡ lent_by h → h ≡ Nobody
nobody_if Nobody e = refl
nobody_if h e = cc

-- where nobody has the slot nobody has the lock
pub all_nobody : {T : Type 0} (g : Slot T) → ((who : ℕ) → Lent g who []) → g.keeps.hold ≡ Nobody
all_nobody g none = nobody_if g.keeps.hold (rw (eq-eqb g.keeps.who g.keeps.who refl) at (none g.keeps.who))

-- whoever has the lock has the slot, with what lies in it
pub held_lent : {T : Type 0} {word : ℕ} {slot : Option T} {h : SlotHolder T} {items : List T} {c : Bool} → Codes word slot h items c → IsHeld h → lent_by h ≡ (0, slot) ∷ []
held_lent (free_empty c) held = absurd held
held_lent (free_full c x) held = absurd held
held_lent x held = refl

-- a step of another party leaves a call where it stands
pub at_stays : {T : Type 0} (g s : Slot T) (who other : ℕ) {x : Stand T}
    → other ≢ who → Passes who g s → At x (own_in g other) → At x (own_in s other)
at_stays g s who other {x = x} ne pass here = subst (At x) (sym (pass other ne)) here

pub lent_stays : {T : Type 0} (g s : Slot T) (who other : ℕ) (xs : List (ℕ × Option T)) → other ≢ who → Passes who g s → Lent g other xs → Lent s other xs
lent_stays g s who other xs ne pass lent = lent ∙ ap lent_by (sym (pass other ne))

-- no call on one slot takes the front off before its own item arrives
pub at_whole : {T : Type 0} {x : Stand T} {own : SlotHolder T} → At x own → IsBetween x.effects → ⊥
at_whole (push_try v) b = b
at_whole x b = b

-- each operation is one on the lock
pub at_lock : {T : Type 0} {x : Stand T} {own : SlotHolder T} → At x own → CanOperate x.op
at_lock (push_try v) = tt
at_lock x = tt

pub on_lock : (o : Op ℕ) → CanOperate o → OnWord IsLock o
on_lock (Op.Store w x) can = absurd can
on_lock (Op.Add w x) can = absurd can
on_lock o can = can

-- the slot is touched by the party who has it
pub at_touches : {T : Type 0} {x : Stand T} {own : SlotHolder T} (i : ℕ) → At x own → Touches x.touch i → (y : Option T) × (lent_by own ≡ (i, y) ∷ [])
at_touches i (push_put v) e = (None, ap (λ n. (n, None) ∷ []) e)
at_touches i (force_put_empty v) e = (None, ap (λ n. (n, None) ∷ []) e)
at_touches i (force_put_full old v) e = (Some old, ap (λ n. (n, Some old) ∷ []) e)
at_touches i (pop_take x) e = (Some x, ap (λ n. (n, Some x) ∷ []) e)
at_touches i x e = absurd e
