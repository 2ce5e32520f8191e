-- What the steps of a call do on cells that leave no choice: functions compute what is touched and performed, and test whether it may be.
use Rattle.std.specs.Prelude.{◌≡◌, Option, Bool, true}
use Rattle.queue_steps.specs.declared.steps.types.{Answer.Answer, Op.Op, Touch.Touch}

module _ {T B M : Type 0} (touchable : M → Touch → Op B → Bool) (touched : M → Touch → Op B → Option T → M × Option T) (operable : M → Op B → Bool) (performed : M → Op B → Answer B × M) where
  abbrev pub CanTouch : M → Touch → Op B → Type 0
  CanTouch cells t o = touchable cells t o ≡ true

  abbrev pub Touches : M → Touch → Op B → Option T → M → Option T → Type 0
  Touches cells t o carried after left = (after, left) ≡ touched cells t o carried

  abbrev pub CanPerform : M → Op B → Type 0
  CanPerform cells o = operable cells o ≡ true

  abbrev pub Performs : M → Op B → Answer B → M → Type 0
  Performs cells o a after = (a, after) ≡ performed cells o
