-- A call that has left its fast steps and is not to wait: it ends, or it is given up.
use Rattle.std.specs.Prelude.{◌≡◌, ℕ, Option}
use Rattle.std.specs.{ControlFlow.MatchControlFlow, declared.ops.ControlFlow.ControlFlow}
use Rattle.queue_laws.specs.Common.Vocabulary.{Call, Reply}
use Rattle.queue_steps.specs.Kinds.{call_value}
use Rattle.call_driver.specs.declared.site.Site.{Ghosts}
use Rattle.shared_calls.specs.{Leaving.IsLeft, declared.left.Left.Left}

module _ {O M T B S K : Type 0} (m : Ghosts O M T B S K) where
  -- some call that is one of these stands there
  abbrev pub SomeLeft : (Call T → Type 0) → M → Left T B → S → Type 0
  SomeLeft Is site left seat = (c : Call T) × Is c × (first : S) × IsLeft m site first c left seat

  -- whichever call stood there has ended; or what it carried has come back, and to its party it is as if it had asked for the capacity
  abbrev pub EndsOrQuits : Option ℕ → M → Left T B → S → ControlFlow (Reply T) (Option T) → S → Type 0
  EndsOrQuits cap site left before told after =
      (c : Call T) (first : S) → IsLeft m site first c left before
      → MatchControlFlow told (λ value. m.ended site first Call.Capacity (Reply.Capacity cap) after × (value ≡ call_value c)) (λ answer. m.ended site first c answer after)
