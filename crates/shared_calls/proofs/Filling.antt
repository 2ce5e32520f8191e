-- A reply that is put together of its kind and the value that the call ended with.
use Rattle.std.proofs.Common.{IsSome, ◌≡◌, Option, Some, refl, sym, ◌∙◌}
use Rattle.queue_laws.specs.Common.Vocabulary.{Reply}
use Rattle.queue_steps.specs.Kinds.{filled}

module _ {T : Type 0} (kind : Reply Unit) (y : Option T) (whole : Reply T) (fits : filled kind y ≡ Some whole) where
  -- the two fit
  pub is_filled : IsSome (filled kind y)
  is_filled = rw fits refl

  -- and it is that reply
  pub filled_as : (reply : Reply T) → filled kind y ≡ Some reply → whole ≡ reply
  filled_as reply is = let both : Some whole ≡ Some reply = sym fits ∙ is in cc
