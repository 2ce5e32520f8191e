-- A machine, whatever is shared and whatever its steps are: what is shared, the call that each party is in, and what an event makes of them.
use Rattle.std.specs.Prelude.{ℕ, ◌&&◌, nat_lt, Bool, if◌then◌else◌, Option, Some, None, is_none, List, length, slice_index_or, slice_set}
use Rattle.queue_steps.specs.declared.model.{Call.Call, Reply.Reply}
use Rattle.machine_memory.specs.declared.types.{Told.Told, Told.TheVariants.Skipped, Told.TheVariants.Ran, Event.Event, Event.TheVariants.Begin, Event.TheVariants.Step, EffectKind.EffectKind}

-- what is shared, and the call that each party is in
pub record World (S R : Type 0) : Type 0 where
  pub shared : S
  pub calls : List (Option R)

-- what a step makes: what is shared then, the kind of its effect, and the call as it goes on or its reply
pub record StepOutcome (S R T : Type 0) : Type 0 where
  pub shared : S
  pub effect : Option EffectKind
  pub call : Option R
  pub reply : Option (Reply T)

-- what a beginning makes: the call before its first step, or the reply of a call without steps
pub record Begun (R T : Type 0) : Type 0 where
  pub call : Option R
  pub reply : Option (Reply T)

-- the party's call, if it is in one
abbrev pub call_at : {S R : Type 0} → World S R → ℕ → Option R
call_at w p = slice_index_or w.calls p None

-- after the step that the party p took
abbrev pub stepped : {S R T : Type 0} → World S R → ℕ → StepOutcome S R T → World S R × Told T
stepped w p t = (record { shared = t.shared; calls = slice_set w.calls p t.call }, Ran t.effect t.reply)

abbrev pub stepped_if : {S R T : Type 0} → (Bool → S → R → StepOutcome S R T) → World S R → Bool → ℕ → Option R → World S R × Told T
stepped_if step w ok p None = (w, Skipped)
stepped_if step w ok p (Some r) = stepped w p (step ok w.shared r)

-- after the party p began a call
abbrev pub began : {S R T : Type 0} → World S R → ℕ → Option R → Option (Reply T) → World S R × Told T
began w p (Some r) x = (record { shared = w.shared; calls = slice_set w.calls p (Some r) }, Ran None x)
began w p None x = (w, Ran None x)

abbrev pub began_by : {S R T : Type 0} → World S R → ℕ → Begun R T → World S R × Told T
began_by w p b = began w p b.call b.reply

-- the party begins where it is between calls
abbrev pub can_begin : {S R : Type 0} → World S R → ℕ → Bool
can_begin w p = nat_lt p (length w.calls) && is_none (call_at w p)

-- one event, where `ok` says whether the allocator grants what is asked for
abbrev pub world_event : {S R T : Type 0} → (Bool → S → R → StepOutcome S R T) → (Call T → Begun R T) → World S R → Bool → Event T → World S R × Told T
world_event step start w ok (Begin p c) = if can_begin w p then began_by w p (start c) else (w, Skipped)
world_event step start w ok (Step p granted) = stepped_if step w (granted && ok) p (call_at w p)
