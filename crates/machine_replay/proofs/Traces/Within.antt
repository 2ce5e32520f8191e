-- Nothing is appended within a displacement.
use Rattle.std.proofs.Common.{◌≡◌, Some, List, [], ◌∷◌, refl}
use Rattle.std.specs.List.{AllByRecursion}
use Rattle.queue_steps.specs.{State.State, Effect.made, Effect.Runs}
use Rattle.machine_replay.specs.{Vocabulary.Effect, Within.IsNotArrive, Within.IsNotAppend, Within.NothingAppendedWithin}

-- while an item is on its way in
coming-within : {T : Type 0} (Q : State T) (v : T) (es : List (Effect T)) → Q.coming ≡ Some v → Runs Q es → AllByRecursion IsNotArrive es → AllByRecursion IsNotAppend es
coming-within Q v [] is runs all = tt
coming-within Q v (Effect.Append w ∷ es) is runs all = absurd (let none = runs.0.1 in cc)
coming-within Q v (Effect.Front old w ∷ es) is runs all = absurd (let none = runs.0.2 in cc)
coming-within Q v (Effect.Arrive ∷ es) is runs all = absurd all.0
coming-within Q v (x ∷ es) is runs all = (tt, coming-within (made x Q) v es is runs.1 all.1)

pub nothing_appended : {T : Type 0} → NothingAppendedWithin T
nothing_appended Q old v es runs all = coming-within (made (Effect.Front old v) Q) v es refl runs.1 all
