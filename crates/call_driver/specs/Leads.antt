-- A call that is on its way: each of its steps may be done, and whatever the step answers, the call goes on or ends right.
use Rattle.std.specs.Prelude.{◌≡◌, ℕ, suc, Option, Some, None}
use Rattle.queue_steps.specs.{declared.sizes.TheConstants.STEPS_ALONE, declared.model.Call.Call, declared.model.Reply.Reply, Next.CanNext, Next.next_of, Next.first_local, Kinds.call_kind, Kinds.call_value, Kinds.filled}
use Rattle.queue_steps.specs.declared.steps.types.{Kind.Kind, Answer.Answer, Answer.Answer as answer, Next.Next, Next.Next as next, Op.Op, Touch.Touch, Local.Local}

-- the block that a reply hands out may be given up
abbrev pub MayGive : {B M S : Type 0} → (M → S → B → Type 0) → M → S → Option B → Type 0
MayGive spares m s None = Unit {0}
MayGive spares m s (Some block) = spares m s block

-- the seat once it is given up
abbrev pub Gave : {B M S : Type 0} → (M → S → B → S → Type 0) → M → S → Option B → S → Type 0
Gave gives m s None after = after ≡ s
Gave gives m s (Some block) after = gives m s block after

module _ {T B M S : Type 0} (can : M → S → Call Unit → Local B → Touch → Op B → Option T → Type 0) (does : M → S → Call Unit → Local B → Touch → Op B → Option T → Answer B → S → Option T → Type 0)
    (spares : M → S → B → Type 0) (gives : M → S → B → S → Type 0)
    (stands : ℕ → M → S → Call T → Local B → Answer B → S → Option T → Type 0) (ended : M → S → Call T → Reply T → S → Type 0) where
  -- what is to be done may be done and leads the call c, begun by the seat `first`, on, to end before n steps more; or it ends right, once a block that the reply hands out is given up
  abbrev pub Leads : ℕ → M → S → Call T → Next B → S → Option T → Type 0
  Leads n m first c (next.Reply r spare) s carried =
      MayGive spares m s spare × ((after : S) → Gave gives m s spare after → (reply : Reply T) × (filled r carried ≡ Some reply) × ended m first c reply after)
  Leads n m first c (next.Step l t o) s carried =
      can m s (call_kind c) l t o carried × ((a : Answer B) (after : S) (left : Option T) → does m s (call_kind c) l t o carried a after left → stands n m first c l a after left)

  -- a call that stands at l leads on
  abbrev pub GoesOn : ℕ → Kind → M → S → Call T → Local B → Answer B → S → Option T → Type 0
  GoesOn n k m first c l a s x = CanNext k l a × Leads n m first c (next_of k l a) s x

  -- a call that begins leads on, and its steps are no more than a call takes that runs alone
  abbrev pub Begins : Kind → M → S → Call T → Type 0
  Begins k m s c = (n : ℕ) → suc n ≡ STEPS_ALONE → GoesOn n k m s c (first_local (call_kind c)) answer.Start s (call_value c)
