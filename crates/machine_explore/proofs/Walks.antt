-- What an event does to a machine: it is skipped, or its party goes on by it.
use Rattle.std.proofs.Common.{◌≡◌, ◌∙◌, ◌+◌, ◌<◌, ◌++◌, ◌∷◌, [], ℕ, suc, zero, Bool, true, false, if◌then◌else◌, ◌⊎◌, List, Option, Some, None, length, refl, sym, ap, inl, inr, arith, drop, ◌&&◌, nat_lt}
use Rattle.std.specs.Prelude.{slice_get, slice_index_or, is_none}
use Rattle.std.proofs.lemmas.{Bool.ltb-true, List.length-set, List.drop-drop, List.drop_at}
use Rattle.queue_steps.specs.declared.model.{Call.Call, Reply.Reply}
use Rattle.machine_replay.specs.Conforms.{party_of}
use Rattle.machine_steps.specs.World.{Begun, StepOutcome, World, began, began_by, call_at, can_begin, stepped_if, world_event}
use Rattle.machine_memory.specs.declared.types.{EffectKind.EffectKind, Event.Event, Event.TheVariants.Begin, Event.TheVariants.Step, Told.Told, Told.TheVariants.Skipped, Told.TheVariants.Ran}

-- a party that is in this call, or in none, may take this event
abbrev pub CanTake : {R T : Type 0} → Option R → Event T → Type 0
CanTake (Some r) (Step p granted) = Unit {0}
CanTake None (Begin p c) = Unit {0}
CanTake _ _ = ⊥

-- the event was not skipped
pub record WentOn {S R T : Type 0} (w : World S R) (e : Event T) (made : World S R × Told T) : Type 0 where
  pub effect : Option EffectKind
  pub reply : Option (Reply T)
  pub told : made.1 ≡ Ran effect reply
  pub inside : party_of e < length w.calls
  pub room : length made.0.calls ≡ length w.calls
  pub takes : CanTake (call_at w (party_of e)) e

in_range : {X : Type 0} (xs : List (Option X)) (p : ℕ) (x : X) → slice_index_or xs p None ≡ Some x → p < length xs
in_range [] p x e = cc
in_range (y ∷ ys) zero x e = omega arith
in_range (y ∷ ys) (suc p) x e = let h = in_range ys p x e in omega (arith, h)

takes-step : {R : Type 0} (T : Type 0) (o : Option R) (r : R) (p : ℕ) (granted : Bool) → o ≡ Some r → CanTake {T = T} o (Step p granted)
takes-step T (Some r) s p granted e = tt
takes-step T None s p granted e = cc

takes-begin : {R T : Type 0} (o : Option R) (p : ℕ) (c : Call T) → is_none o ≡ true → CanTake o (Begin p c)
takes-begin (Some r) p c e = cc
takes-begin None p c e = tt

went_on-step : {S R T : Type 0} (step : Bool → S → R → StepOutcome S R T) (w : World S R) (p : ℕ) (granted : Bool) (o : Option R) → call_at w p ≡ o
    → (stepped_if step w (granted && true) p o ≡ (w, Skipped)) ⊎ WentOn w (Step p granted) (stepped_if step w (granted && true) p o)
went_on-step step w p granted None is = inl refl
went_on-step {S} {R} {T} step w p granted (Some r) is = inr (record {
  effect = (step (granted && true) w.shared r).effect;
  reply = (step (granted && true) w.shared r).reply;
  told = refl;
  inside = in_range w.calls p r is;
  room = length-set w.calls p (step (granted && true) w.shared r).call;
  takes = takes-step T (call_at w p) r p granted is;
})

went_on-begun : {S R T : Type 0} (w : World S R) (p : ℕ) (c : Call T) (b : Begun R T) → p < length w.calls → CanTake (call_at w p) (Begin p c) → WentOn w (Begin p c) (began_by w p b)
went_on-begun {S} {R} {T} w p c b inside takes = by_call b.call
  where
    by_call : (o : Option R) → WentOn w (Begin p c) (began w p o b.reply)
    by_call None = record { effect = None; reply = b.reply; told = refl; inside = inside; room = refl; takes = takes }
    by_call (Some r) = record { effect = None; reply = b.reply; told = refl; inside = inside; room = length-set w.calls p (Some r); takes = takes }

and-left : (a b : Bool) → (a && b) ≡ true → a ≡ true
and-left true b e = refl
and-left false b e = e

and-right : (a b : Bool) → (a && b) ≡ true → b ≡ true
and-right true b e = e
and-right false b e = cc

went_on-begin : {S R T : Type 0} (start : Call T → Begun R T) (w : World S R) (p : ℕ) (c : Call T) (can : Bool) → can_begin w p ≡ can
    → ((if can then began_by w p (start c) else (w, Skipped)) ≡ (w, Skipped)) ⊎ WentOn w (Begin p c) (if can then began_by w p (start c) else (w, Skipped))
went_on-begin start w p c false is = inl refl
went_on-begin start w p c true is =
    inr (went_on-begun w p c (start c) (ltb-true p (length w.calls) (and-left _ _ is)) (takes-begin (call_at w p) p c (and-right (nat_lt p (length w.calls)) _ is)))

-- an event is skipped, and nothing happens, or it goes on
pub went_on : {S R T : Type 0} (step : Bool → S → R → StepOutcome S R T) (start : Call T → Begun R T) (w : World S R) (e : Event T)
    → (world_event step start w true e ≡ (w, Skipped)) ⊎ WentOn w e (world_event step start w true e)
went_on step start w (Step p granted) = went_on-step step w p granted (call_at w p) refl
went_on step start w (Begin p c) = went_on-begin start w p c (can_begin w p) refl

-- the call that comes next among those that are left to begin
pub next_call : {T : Type 0} (calls : List (Call T)) (begun : ℕ) (c : Call T) (rest : List (Call T)) → c ∷ rest ≡ drop begun calls → slice_get calls begun ≡ Some c
next_call [] zero c rest e = cc
next_call [] (suc n) c rest e = cc
next_call (x ∷ xs) zero c rest e = cc
next_call (x ∷ xs) (suc n) c rest e = next_call xs n c rest e

-- what is left to begin once these were begun
pub left_over : {X : Type 0} (calls xs ys : List X) (begun : ℕ) → xs ++ ys ≡ drop begun calls → ys ≡ drop (begun + length xs) calls
left_over calls xs ys begun e = sym (drop_at xs ys (length xs) refl) ∙ ap (λ l. drop (length xs) l) e ∙ drop-drop (length xs) begun calls

-- the event that goes on is the one by which its party may go on
abbrev pub granted_of : {T : Type 0} → Event T → Bool
granted_of (Step p granted) = granted
granted_of (Begin p c) = true
