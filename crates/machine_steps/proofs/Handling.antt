-- What the code of an event makes is what the event makes of the machine as a value.
use Rattle.std.proofs.Common.{◌≡◌, ◌∙◌, ◌&&◌, ℕ, Bool, true, false, Option, Some, None, List, refl, sym, ap, slice_set}
use Rattle.std.proofs.lemmas.List.{set-set}
use Rattle.queue_steps.specs.declared.steps.types.Kind.{Kind}
use Rattle.machine_memory.specs.{declared.calls.Running.Running, declared.types.Event.TheVariants.Step, declared.types.Told.Told, SharedMemory.MemoryState}
use Rattle.machine_steps.specs.{Steps.step_of, Machine.Handles, Machine.event_of, World.World, World.call_at, World.stepped}

-- a request that the event refuses is not granted
and_if : (granted ok : Bool) → (granted ≡ false → ok ≡ false) → (granted && ok) ≡ ok
and_if true ok refused = refl
and_if false ok refused = sym (refused refl)

-- where a request that the event grants is granted, what the event grants decides
pub met_if : (granted ok : Bool) → (granted ≡ false → ok ≡ false) → (granted ≡ true → ok ≡ true) → (granted && true) ≡ ok
met_if true ok refused met = sym (met refl)
met_if false ok refused met = sym (refused refl)

-- the calls after the step of a call that was taken out of them for it
put_back : {T : Type 0} (w : World (MemoryState T) (Running T)) (p : ℕ) (call : Option (Running T)) (calls : List (Option (Running T))) → calls ≡ slice_set w.calls p None → slice_set calls p call ≡ slice_set w.calls p call
put_back w p call calls out = ap (λ l. slice_set l p call) out ∙ set-set w.calls p None call

-- the step of a call that was taken out of the calls for it
pub handles-step : {T : Type 0} (k : Kind) (w after : World (MemoryState T) (Running T)) (p : ℕ) (granted ok : Bool) (r : Running T) (told : Told T) (calls : List (Option (Running T)))
    → (granted ≡ false → ok ≡ false) → call_at w p ≡ Some r → calls ≡ slice_set w.calls p None
    → after ≡ (stepped (record { shared = w.shared; calls = calls }) p (step_of k ok w.shared r)).0
    → told ≡ (stepped (record { shared = w.shared; calls = calls }) p (step_of k ok w.shared r)).1
    → Handles k w (Step p granted) after told
handles-step k w after p granted ok r told calls refused there out after_is told_is =
    let t = step_of k ok w.shared r in
    record {
      ok = ok;
      world = rw (there, and_if granted ok refused) (after_is ∙ ap (λ l. record { shared = t.shared; calls = l }) (put_back w p t.call calls out));
      told_is = rw (there, and_if granted ok refused) told_is;
    }

-- that step, where a request that the event grants is granted
pub handles-met : {T : Type 0} (k : Kind) (w after : World (MemoryState T) (Running T)) (p : ℕ) (granted ok : Bool) (r : Running T) (told : Told T) (calls : List (Option (Running T)))
    → (granted && true) ≡ ok → call_at w p ≡ Some r → calls ≡ slice_set w.calls p None
    → after ≡ (stepped (record { shared = w.shared; calls = calls }) p (step_of k ok w.shared r)).0
    → told ≡ (stepped (record { shared = w.shared; calls = calls }) p (step_of k ok w.shared r)).1
    → (after ≡ (event_of k true w (Step p granted)).0) × (told ≡ (event_of k true w (Step p granted)).1)
handles-met k w after p granted ok r told calls met there out after_is told_is =
    let t = step_of k ok w.shared r in
    (rw (there, met) (after_is ∙ ap (λ l. record { shared = t.shared; calls = l }) (put_back w p t.call calls out)), rw (there, met) told_is)
