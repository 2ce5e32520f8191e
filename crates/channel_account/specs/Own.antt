-- The effects of a party's own calls.
use Rattle.std.specs.Prelude.{ℕ, List, [], ◌∷◌}
use mathlib.Core.Option.{Option, none, some}
use lib.ListN.{get_elem?}
use Rattle.queue_steps.specs.{declared.model.Effect.Effect, Parties.View}

-- the effect that was found, before others
abbrev pub found_before : {T : Type 0} → Option (Effect T) → List (Effect T) → List (Effect T)
found_before none es = es
found_before (some e) es = e ∷ es

-- the effects that stand at these places
abbrev pub at_places : {T : Type 0} → List (Effect T) → List ℕ → List (Effect T)
at_places seen [] = []
at_places seen (p ∷ ps) = found_before (get_elem? seen p) (at_places seen ps)

-- the effects of the party's calls, in their order
abbrev pub own : {T : Type 0} → View T → List (Effect T)
own v = at_places v.seen v.mine
