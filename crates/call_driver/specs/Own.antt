-- One owner's cells as a site: what a step of the driver is on them, and where a call stands that ends right.
use Rattle.std.specs.Prelude.{ℕ, Option}
use Rattle.queue_steps.specs.declared.{model.Call.Call, model.Reply.Reply, steps.types.Kind.Kind, steps.types.Answer.Answer, steps.types.Op.Op, steps.types.Touch.Touch, steps.types.Local.Local}
use Rattle.queue_steps.specs.{Next.CanNext, Next.next_of, Sequential.Owned, Sequential.Sequential}
use Rattle.call_driver.specs.EndsIn.{EndsIn, Answered}

module _ {T B C : Type 0} (can_touch : C → Touch → Op B → Type 0) (touches : C → Touch → Op B → Option T → C → Option T → Type 0)
    (can_perform : C → Op B → Type 0) (performs : C → Op B → Answer B → C → Type 0) where
  -- the touch may be done, and the operation behind it
  abbrev pub MayTake : C → Touch → Op B → Option T → Type 0
  MayTake cells t o x = can_touch cells t o × ((touched : C) (left : Option T) → touches cells t o x touched left → can_perform touched o)

  -- the touch was done, and the operation behind it
  abbrev pub Took : C → Touch → Op B → Option T → Answer B → C → Option T → Type 0
  Took cells t o x a after left = (touched : C) × touches cells t o x touched left × performs touched o a after

  -- the call c, which began at the cells `first`, ends right before n more steps
  abbrev pub EndsRightFrom : (C → B → Type 0) → (C → B → C → Type 0) → (C → Type 0) → (C → Owned T) → (C → Kind) → ℕ → C → Call T → Local B → Answer B → C → Option T → Type 0
  EndsRightFrom can_release releases idle owned kind_of n first c l a cells x =
      CanNext (kind_of first) l a × EndsIn can_touch touches can_perform performs n (kind_of first) (next_of (kind_of first) l a) cells x (Answered can_release releases idle owned c first)

-- no call is on its way, and the reply is that of the one-owner table
abbrev pub Ended : {T C : Type 0} → (C → Type 0) → (C → Owned T) → C → Call T → Reply T → C → Type 0
Ended idle owned first c reply after = idle after × Sequential (owned first) c reply (owned after)
