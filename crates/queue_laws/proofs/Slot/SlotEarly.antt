-- A call on one slot that has had no effect yet has nothing of the lock, and still carries its own value: so its party may give it up.
use Rattle.std.proofs.Common.{◌≡◌, true, false, [], refl}
use Rattle.queue_steps.specs.Kinds.{call_value}
use Rattle.queue_laws.specs.{Common.Vocabulary.Look, Common.Stand.Stand, Slot.SlotEarly.IsEarly, Slot.SlotHolder.SlotHolder, Slot.SlotHolder.Nobody, Slot.SlotRows.At, Slot.SlotRows.push_put, Slot.SlotRows.force_put_empty, Slot.SlotRows.force_put_full, Slot.SlotRows.pop_take, Slot.SlotRows.look_at}

pub early : {T : Type 0} {x : Stand T} {own : SlotHolder T}
    → IsEarly x.local → At x own → (x.effects ≡ []) × (own ≡ Nobody) × (x.carried ≡ call_value x.call)
early is (push_put v) = absurd (let f : false ≡ true = is in cc)
early is (force_put_empty v) = absurd (let f : false ≡ true = is in cc)
early is (force_put_full old v) = absurd (let f : false ≡ true = is in cc)
early is (pop_take x) = absurd (let f : false ≡ true = is in cc)
early is (look_at Look.Len) = (refl, refl, refl)
early is x = (refl, refl, refl)
