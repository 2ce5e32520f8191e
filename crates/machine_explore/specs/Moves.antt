-- How a run of a program goes on.
use Rattle.std.specs.Prelude.{ℕ, ◌+◌, Bool, true, Option, Some, None, List, [], ◌∷◌, ◌++◌, length, slice_get, slice_set}
use Rattle.queue_steps.specs.declared.{model.Call.Call, model.Reply.Reply, steps.types.Kind.Kind}
use Rattle.machine_memory.specs.declared.types.{Event.Event, Event.TheVariants.Begin, Event.TheVariants.Step, Told.Told, Told.TheVariants.Ran}
use Rattle.machine_replay.specs.Conforms.{party_of}
use Rattle.machine_steps.specs.{Steps.step_of, Steps.start_of, World.StepOutcome, World.Begun, World.call_at, World.world_event}
use Rattle.machine_explore.specs.Positions.{Configuration, Progress, Standing, calls_of, progress_of}

-- the call that the event began, if it was not skipped
abbrev pub call_in : {T : Type 0} → Event T → Told T → List (Call T)
call_in (Begin p c) (Ran k r) = c ∷ []
call_in e t = []

-- the reply that ended a call there
abbrev pub reply_in : {T : Type 0} → Told T → List (Reply T)
reply_in (Ran k (Some r)) = r ∷ []
reply_in t = []

-- how a party goes on: by a step of the call that it is in, or else by the beginning of its next call, if it has one
abbrev pub event_for : {R T : Type 0} → ℕ → Bool → Option R → Option (Call T) → Option (Event T)
event_for p granted (Some r) c = Some (Step p granted)
event_for p granted None (Some c) = Some (Begin p c)
event_for p granted None None = None

abbrev pub event_at : {S R T : Type 0} → List (List (Call T)) → Configuration S R T → ℕ → Bool → Option (Event T)
event_at calls s p granted = event_for p granted (call_at s.world p) (slice_get (calls_of calls p) (progress_of s p).begun)

-- how far a party is after its event, of which this was told
abbrev pub advanced : {T : Type 0} → Progress T → Event T → Told T → Progress T
advanced g e t = record { begun = g.begun + length (call_in e t); replies = g.replies ++ reply_in t }

-- where the event leads, on any machine, whose requests are granted where the event does not refuse them
abbrev pub led_by : {S R T : Type 0} → (Bool → S → R → StepOutcome S R T) → (Call T → Begun R T) → Configuration S R T → Event T → Configuration S R T
led_by step start s e = record {
  kind = s.kind;
  world = (world_event step start s.world true e).0;
  parties = slice_set s.parties (party_of e) (advanced (progress_of s (party_of e)) e (world_event step start s.world true e).1);
}

-- where the event leads on a queue of this kind
abbrev pub led : Kind → Standing → Event ℕ → Standing
led k s e = led_by (step_of k) (start_of k) s e
