-- A call is told by its kind and its value.
use Rattle.std.proofs.Common.{◌≡◌, refl}
use Rattle.queue_laws.specs.Common.Vocabulary.{Call}
use Rattle.queue_steps.specs.Kinds.{call_kind, call_value, with_value}

-- the kind and the value of a call are all of it
pub whole : {T : Type 0} (c : Call T) → with_value (call_kind c) (call_value c) ≡ c
whole (Call.Push v) = refl
whole c = refl
