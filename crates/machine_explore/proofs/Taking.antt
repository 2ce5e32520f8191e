-- By the event by which a party goes on its call goes on: it is not skipped.
use Rattle.std.proofs.Common.{◌≡◌, ◌≢◌, ◌∙◌, ◌<◌, ◌&&◌, ◌∷◌, [], ℕ, zero, suc, Bool, true, false, if◌then◌else◌, ◌⊎◌, List, Option, Some, None, length, refl, subst, ap, inl, inr, arith}
use Rattle.std.{specs.Prelude.slice_get, specs.Prelude.slice_index_or, proofs.lemmas.Bool.lt-ltb, proofs.lemmas.List.length-replicate}
use Rattle.queue_steps.specs.declared.{model.Call.Call, model.Reply.Reply, steps.types.Kind.Kind}
use Rattle.machine_steps.specs.{Left.opening_world, Steps.start_of, Steps.step_of, World.Begun, World.StepOutcome, World.World, World.began, World.began_by, World.call_at, World.can_begin, World.stepped_if, World.world_event}
use Rattle.machine_memory.specs.{SharedMemory.MemoryState, declared.calls.Running.Running, declared.types.Event.Event, declared.types.Event.TheVariants.Begin, declared.types.Event.TheVariants.Step, declared.types.Told.TheVariants.Skipped}
use Rattle.machine_explore.specs.{Moves.event_at, Moves.event_for, Positions.Configuration, Positions.calls_of, Positions.progress_of, Starts.IsStart, Positions.Standing}
use Rattle.machine_replay.specs.Played.{world_by}
use Rattle.machine_explore.proofs.Walks.{WentOn, went_on}

taken-step : {S R T : Type 0} (step : Bool → S → R → StepOutcome S R T) (w : World S R) (p : ℕ) (ok : Bool) (o : Option R) (r : R) → o ≡ Some r → (stepped_if step w ok p o).1 ≢ Skipped
taken-step step w p ok (Some s) r is = λ e. cc
taken-step step w p ok None r is = λ e. cc

taken-began : {S R T : Type 0} (w : World S R) (p : ℕ) (o : Option R) (x : Option (Reply T)) → (began w p o x).1 ≢ Skipped
taken-began w p (Some r) x = λ e. cc
taken-began w p None x = λ e. cc

taken-begin : {S R T : Type 0} (w : World S R) (p : ℕ) (b : Begun R T) (can : Bool) → can ≡ true → (if can then began_by w p b else (w, Skipped)).1 ≢ Skipped
taken-begin w p b true is = taken-began w p b.call b.reply
taken-begin w p b false is = λ e. cc

-- a party that has a call left to begin is one of the program's
has_calls : {X : Type 0} (xs : List (List X)) (p begun : ℕ) (c : X) → slice_get (slice_index_or xs p []) begun ≡ Some c → p < length xs
has_calls [] p begun c e = cc
has_calls (y ∷ ys) zero begun c e = omega arith
has_calls (y ∷ ys) (suc p) begun c e = let h = has_calls ys p begun c e in omega (arith, h)

may_begin : {S R : Type 0} (w : World S R) (p : ℕ) → p < length w.calls → call_at w p ≡ None → can_begin w p ≡ true
may_begin w p inside none = rw (lt-ltb p (length w.calls) inside, none) refl

-- by the event by which its party goes on the machine goes on
pub event_taken : {S R T : Type 0} (step : Bool → S → R → StepOutcome S R T) (start : Call T → Begun R T) (calls : List (List (Call T))) (s : Configuration S R T) (p : ℕ) (granted : Bool) (e : Event T)
    → length s.world.calls ≡ length calls → event_at calls s p granted ≡ Some e → (world_event step start s.world true e).1 ≢ Skipped
event_taken {S} {R} {T} step start calls s p granted e size is = by_call (call_at s.world p) (slice_get (calls_of calls p) (progress_of s p).begun) refl refl is
  where
    NotSkipped : Event T → Type 0
    NotSkipped x = (world_event step start s.world true x).1 ≢ Skipped

    by_call : (o : Option R) (next : Option (Call T)) → call_at s.world p ≡ o → slice_get (calls_of calls p) (progress_of s p).begun ≡ next → event_for p granted o next ≡ Some e → NotSkipped e
    by_call (Some r) next at there goes =
        let same : Step p granted ≡ e = cc in
        subst NotSkipped same (taken-step step s.world p (granted && true) (call_at s.world p) r at)
    by_call None (Some c) at there goes =
        let same : Begin p c ≡ e = cc in
        let inside : p < length s.world.calls = let h = has_calls calls p (progress_of s p).begun c there in omega (arith, h, size) in
        subst NotSkipped same (taken-begin s.world p (start c) (can_begin s.world p) (may_begin s.world p inside at))
    by_call None None at there goes = λ skips. cc

module _ {S R T : Type 0} (step : Bool → S → R → StepOutcome S R T) (start : Call T → Begun R T) where
  -- the machine has as many parties after an event as before
  pub same_count : (w : World S R) (e : Event T) → length (world_event step start w true e).0.calls ≡ length w.calls
  same_count w e = by_event (went_on step start w e)
    where
      by_event : (world_event step start w true e ≡ (w, Skipped)) ⊎ WentOn w e (world_event step start w true e) → length (world_event step start w true e).0.calls ≡ length w.calls
      by_event (inl skips) = ap (λ m. length m.0.calls) skips
      by_event (inr went) = went.room

  pub count_after : (es : List (Event T)) (w : World S R) → length (world_by step start w es).calls ≡ length w.calls
  count_after [] w = refl
  count_after (e ∷ es) w = count_after es (world_event step start w true e).0 ∙ same_count w e

-- where runs start there are as many parties as the program has
pub count_first : (k : Kind) (before : List (Call ℕ)) (parties : ℕ) (s : Standing) → IsStart k before parties s → length s.world.calls ≡ parties
count_first k before parties s start =
    ap (λ (w : World (MemoryState ℕ) (Running ℕ)). length w.calls) start.prepared.2
    ∙ count_after (step_of k) (start_of k) start.prepared.0 (opening_world k parties)
    ∙ length-replicate parties None
