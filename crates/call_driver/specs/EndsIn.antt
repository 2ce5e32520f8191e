-- A call that is run by one owner on some cells: it ends within so many steps, whatever the operations answer.
use Rattle.std.specs.Prelude.{ℕ, zero, suc, Option, Some, None}
use Rattle.queue_steps.specs.declared.{sizes.TheConstants.STEPS_ALONE, model.Call.Call, model.Reply.Reply, steps.types.Kind.Kind, steps.types.Answer.Answer, steps.types.Answer.Answer as answer, steps.types.Next.Next, steps.types.Next.Next as next, steps.types.Op.Op, steps.types.Touch.Touch}
use Rattle.queue_steps.specs.{Next.CanNext, Next.next_of, Next.first_local, Kinds.call_kind, Kinds.call_value, Sequential.Owned}
use Rattle.call_driver.specs.Apart.{AnswersApart}

module _ {T B M : Type 0} (can_touch : M → Touch → Op B → Type 0) (touches : M → Touch → Op B → Option T → M → Option T → Type 0)
    (can_perform : M → Op B → Type 0) (performs : M → Op B → Answer B → M → Type 0) where
  -- the call ends before n steps, and what it ends with meets P
  abbrev pub EndsIn : ℕ → Kind → Next B → M → Option T → (Reply Unit → Option B → Option T → M → Type 0) → Type 0
  EndsIn zero k todo cells carried P = ⊥
  EndsIn (suc n) k (next.Reply r spare) cells carried P = P r spare carried cells
  EndsIn (suc n) k (next.Step l t o) cells carried P =
      can_touch cells t o
      × ((touched : M) (left : Option T) → touches cells t o carried touched left
      → can_perform touched o
      × ((a : Answer B) (done : M) → performs touched o a done → CanNext k l a × EndsIn n k (next_of k l a) done left P))

-- no call is on its way, and the reply of the call c, which began at the cells `first`, is that of the one-owner table
abbrev pub Replied : {T M : Type 0} → (M → Type 0) → (M → Owned T) → Call T → M → Reply Unit → Option T → M → Type 0
Replied idle owned c first r carried left = idle left × AnswersApart (owned first) c r carried (owned left)

module _ {B M : Type 0} (can_release : M → B → Type 0) (releases : M → B → M → Type 0) where
  -- P holds once the block that the call gives up, if there is one, is released
  abbrev pub Released : Option B → M → (M → Type 0) → Type 0
  Released None cells P = P cells
  Released (Some block) cells P = can_release cells block × ((after : M) → releases cells block after → P after)

  -- what a call c that began at the cells `first` has to end with
  abbrev pub Answered : {T : Type 0} → (M → Type 0) → (M → Owned T) → Call T → M → Reply Unit → Option B → Option T → M → Type 0
  Answered idle owned c first r block carried left = Released block left (Replied idle owned c first r carried)

module _ {T B M : Type 0} (can_touch : M → Touch → Op B → Type 0) (touches : M → Touch → Op B → Option T → M → Option T → Type 0)
    (can_perform : M → Op B → Type 0) (performs : M → Op B → Answer B → M → Type 0) (can_release : M → B → Type 0) (releases : M → B → M → Type 0) where
  -- a call that begins at these cells ends with its reply
  abbrev pub EndsRight : (M → Type 0) → (M → Owned T) → Kind → Call T → M → Type 0
  EndsRight idle owned k c cells =
      CanNext k (first_local {B = B} (call_kind c)) answer.Start
      × EndsIn can_touch touches can_perform performs STEPS_ALONE k (next_of k (first_local (call_kind c)) answer.Start) cells (call_value c) (Answered can_release releases idle owned c cells)
