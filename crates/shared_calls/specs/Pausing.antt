-- A call that stands before one of its steps, after another of them.
use Rattle.std.specs.Prelude.{◌-◌}
use Rattle.queue_laws.specs.Common.Vocabulary.{Call, Next, STEPS_ALONE}
use Rattle.queue_steps.specs.Next.{next_of}
use Rattle.call_driver.specs.{OnWay.Stood, declared.site.Site.Ghosts}
use Rattle.shared_calls.specs.declared.left.Left.{Left}

-- a step is to be done, and no reply is due
abbrev pub IsStep : {B : Type 0} → Next B → Type 0
IsStep (Next.Step l t o) = Unit {0}
IsStep (Next.Reply r spare) = ⊥

module _ {O M T B S K : Type 0} (m : Ghosts O M T B S K) where
  -- the call c, begun by the seat `first`, has taken a step, and stands there
  abbrev pub IsStood : M → S → Call T → Left T B → S → Type 0
  IsStood site first c left seat = Stood m (STEPS_ALONE - 1) left.kind left.call site first c left.progress left.carried seat

  -- and it is to take another one
  abbrev pub IsPaused : M → S → Call T → Left T B → S → Type 0
  IsPaused site first c left seat = IsStood site first c left seat × IsStep (next_of left.kind left.progress.local left.progress.answer)
