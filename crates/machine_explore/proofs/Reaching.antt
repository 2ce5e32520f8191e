-- A table of standings that no move leaves has where every run comes, on any machine.
use Rattle.std.proofs.Common.{◌≡◌, ◌≢◌, ◌∙◌, ◌+◌, ◌<◌, ◌==◌, ◌++◌, ◌∷◌, [], ℕ, Bool, true, false, if◌then◌else◌, ◌⊎◌, List, Option, Some, None, length, length-append, refl, subst, sym, ap, inl, inr, arith, append_assoc, append-nil, drop}
use Rattle.std.specs.{Prelude.slice_get, Prelude.Contains, Prelude.⊤, Prelude.MatchOption, List.All}
use Rattle.std.proofs.lemmas.{Bool.eq-eqb, Bool.Decides.eqb_tells, List.get_or-set_same, List.get_or-set_other, List.length-set, List.Elements.All-contains, List.Elements.All-head, List.Elements.All-tail}
use Rattle.queue_steps.specs.declared.model.Call.{Call}
use Rattle.machine_replay.specs.{Conforms.party_of, Played.told_by, Played.world_by}
use Rattle.machine_steps.specs.World.{Begun, StepOutcome, World, call_at, world_event}
use Rattle.machine_memory.specs.declared.types.{Event.Event, Event.TheVariants.Begin, Event.TheVariants.Step, Told.Told, Told.TheVariants.Skipped}
use Rattle.machine_explore.specs.{Explored.begun_by, Explored.replies_by, Explored.IsGranted, Tables.StaysForAll, Moves.advanced, Moves.call_in, Moves.event_at, Moves.event_for, Moves.led_by, Moves.reply_in}
use Rattle.machine_explore.specs.Positions.{Configuration, Progress, calls_of, no_progress, progress_of}
use Rattle.machine_explore.proofs.Walks.{CanTake, WentOn, granted_of, left_over, next_call, went_on}

-- the run of these events from s ends there
pub record Arrives {S R T : Type 0} (step : Bool → S → R → StepOutcome S R T) (start : Call T → Begun R T) (calls : List (List (Call T))) (s : Configuration S R T) (events : List (Event T)) (end : Configuration S R T) : Type 0 where
  pub kind : end.kind ≡ s.kind
  pub world : end.world ≡ world_by step start s.world events
  pub parties : length end.parties ≡ length calls
  pub begun : (p : ℕ) → p < length calls → (progress_of end p).begun ≡ (progress_of s p).begun + length (begun_by p events (told_by step start s.world events))
  pub replies : (p : ℕ) → p < length calls → (progress_of end p).replies ≡ (progress_of s p).replies ++ replies_by p events (told_by step start s.world events)

-- of the calls that are left to it to begin each party begins the first, and so many are left behind them
abbrev pub Begins : {S R T : Type 0} → (Bool → S → R → StepOutcome S R T) → (Call T → Begun R T) → List (List (Call T)) → (ℕ → List (Call T)) → Configuration S R T → List (Event T) → Type 0
Begins step start calls left s events = (p : ℕ) → p < length calls → begun_by p events (told_by step start s.world events) ++ left p ≡ drop (progress_of s p).begun (calls_of calls p)

-- there are as many parties as lists of calls
pub record HasParties {S R T : Type 0} (calls : List (List (Call T))) (s : Configuration S R T) : Type 0 where
  pub parties : length s.parties ≡ length calls
  pub calls_are : length s.world.calls ≡ length calls

call_in-skipped : {T : Type 0} (e : Event T) → call_in e Skipped ≡ []
call_in-skipped (Begin p c) = refl
call_in-skipped (Step p granted) = refl

pub if-nothing : {X : Type 0} (b : Bool) → (let none : List X = [] in if b then none else none) ≡ []
if-nothing true = refl
if-nothing false = refl

match_some : {X : Type 0} (o : Option X) (x : X) (P : X → Type 0) → o ≡ Some x → MatchOption o ⊤ P → P x
match_some o x P e h = rw e at h

taken : {R T : Type 0} (o : Option R) (e : Event T) (next : Option (Call T)) → CanTake o e → ((p : ℕ) (c : Call T) → e ≡ Begin p c → next ≡ Some c) → event_for (party_of e) (granted_of e) o next ≡ Some e
taken (Some r) (Step p granted) next can is = refl
taken None (Begin p c) next can is = rw (is p c refl) refl
taken (Some r) (Begin p c) next can is = absurd can
taken None (Step p granted) next can is = absurd can

granted_if : {T : Type 0} (e : Event T) → IsGranted e → granted_of e ≡ true
granted_if (Begin p c) h = refl
granted_if (Step p granted) h = h

pub same_party : (p : ℕ) → (p == p) ≡ true
same_party p = eq-eqb p p refl

pub if-true : {X : Type 0} (b : Bool) (x y : X) → b ≡ true → (if b then x else y) ≡ x
if-true b x y e = rw e refl

pub if-false : {X : Type 0} (b : Bool) (x y : X) → b ≡ false → (if b then x else y) ≡ y
if-false b x y e = rw e refl

-- an event that went on is one by which its party may go on
event_fits : {S R T : Type 0} (calls : List (List (Call T))) (s : Configuration S R T) (e : Event T) (made : World S R × Told T) (rest : List (Call T))
    → WentOn s.world e made → call_in e made.1 ++ rest ≡ drop (progress_of s (party_of e)).begun (calls_of calls (party_of e)) → event_at calls s (party_of e) (granted_of e) ≡ Some e
event_fits {S} {R} {T} calls s e made rest went begins =
    taken (call_at s.world (party_of e)) e (slice_get (calls_of calls (party_of e)) (progress_of s (party_of e)).begun) went.takes
    (λ p c is. by_call p c is)
  where
    by_call : (p : ℕ) (c : Call T) → e ≡ Begin p c → slice_get (calls_of calls (party_of e)) (progress_of s (party_of e)).begun ≡ Some c
    by_call p c is =
        let first : call_in e made.1 ≡ c ∷ [] = ap (λ x. call_in x made.1) is ∙ ap (λ t. call_in (Begin p c) t) went.told in
        next_call (calls_of calls (party_of e)) (progress_of s (party_of e)).begun c rest (ap (λ l. l ++ rest) (sym first) ∙ begins)

-- what an event adds to the progress of a party
pub progress-own : {S R T : Type 0} (step : Bool → S → R → StepOutcome S R T) (start : Call T → Begun R T) (s : Configuration S R T) (e : Event T) → party_of e < length s.parties
    → progress_of (led_by step start s e) (party_of e) ≡ advanced (progress_of s (party_of e)) e (world_event step start s.world true e).1
progress-own step start s e inside = get_or-set_same s.parties (party_of e) _ no_progress inside

pub progress-other : {S R T : Type 0} (step : Bool → S → R → StepOutcome S R T) (start : Call T → Begun R T) (s : Configuration S R T) (e : Event T) (q : ℕ) → party_of e ≢ q
    → progress_of (led_by step start s e) q ≡ progress_of s q
progress-other step start s e q other = get_or-set_other s.parties (party_of e) q _ no_progress (λ is. other (sym is))

-- what is begun, and what is replied, by the party whose event it is, and by another
pub begun-own : {T : Type 0} (e : Event T) (t : Told T) (es : List (Event T)) (ts : List (Told T)) → begun_by (party_of e) (e ∷ es) (t ∷ ts) ≡ call_in e t ++ begun_by (party_of e) es ts
begun-own e t es ts = ap (λ l. l ++ begun_by (party_of e) es ts) (if-true (party_of e == party_of e) (call_in e t) [] (same_party (party_of e)))

begun-other : {T : Type 0} (e : Event T) (t : Told T) (es : List (Event T)) (ts : List (Told T)) (q : ℕ) → (party_of e == q) ≡ false → begun_by q (e ∷ es) (t ∷ ts) ≡ begun_by q es ts
begun-other e t es ts q other = ap (λ l. l ++ begun_by q es ts) (if-false (party_of e == q) (call_in e t) [] other)

replied-own : {T : Type 0} (e : Event T) (t : Told T) (es : List (Event T)) (ts : List (Told T)) → replies_by (party_of e) (e ∷ es) (t ∷ ts) ≡ reply_in t ++ replies_by (party_of e) es ts
replied-own e t es ts = ap (λ l. l ++ replies_by (party_of e) es ts) (if-true (party_of e == party_of e) (reply_in t) [] (same_party (party_of e)))

replied-other : {T : Type 0} (e : Event T) (t : Told T) (es : List (Event T)) (ts : List (Told T)) (q : ℕ) → (party_of e == q) ≡ false → replies_by q (e ∷ es) (t ∷ ts) ≡ replies_by q es ts
replied-other e t es ts q other = ap (λ l. l ++ replies_by q es ts) (if-false (party_of e == q) (reply_in t) [] other)

-- a skipped event begins nothing, and nothing is replied
pub begun-skipped : {T : Type 0} (e : Event T) (es : List (Event T)) (ts : List (Told T)) (q : ℕ) → begun_by q (e ∷ es) (Skipped ∷ ts) ≡ begun_by q es ts
begun-skipped e es ts q = ap (λ l. (if party_of e == q then l else []) ++ begun_by q es ts) (call_in-skipped e) ∙ ap (λ l. l ++ begun_by q es ts) (if-nothing (party_of e == q))

replied-skipped : {T : Type 0} (e : Event T) (es : List (Event T)) (ts : List (Told T)) (q : ℕ) → replies_by q (e ∷ es) (Skipped ∷ ts) ≡ replies_by q es ts
replied-skipped e es ts q = ap (λ l. l ++ replies_by q es ts) (if-nothing (party_of e == q))

module _ {S R T : Type 0} (step : Bool → S → R → StepOutcome S R T) (start : Call T → Begun R T) (calls : List (List (Call T))) (left : ℕ → List (Call T)) where
  -- past an event that was skipped
  begins-skipped : (s : Configuration S R T) (e : Event T) (es : List (Event T)) → world_event step start s.world true e ≡ (s.world, Skipped) → Begins step start calls left s (e ∷ es) → Begins step start calls left s es
  begins-skipped s e es skips begins p h =
      ap (λ l. l ++ left p) (sym (begun-skipped e es (told_by step start s.world es) p)
      ∙ ap (λ m. begun_by p (e ∷ es) (m.1 ∷ told_by step start m.0 es)) (sym skips))
      ∙ begins p h

  arrives-skipped : (s end : Configuration S R T) (e : Event T) (es : List (Event T)) → world_event step start s.world true e ≡ (s.world, Skipped) → Arrives step start calls s es end → Arrives step start calls s (e ∷ es) end
  arrives-skipped s end e es skips to = record {
    kind = to.kind;
    world = to.world ∙ ap (λ m. world_by step start m.0 es) (sym skips);
    parties = to.parties;
    begun = λ p h. to.begun p h ∙ ap (λ l. (progress_of s p).begun + length l)
        (sym (begun-skipped e es (told_by step start s.world es) p) ∙ ap (λ m. begun_by p (e ∷ es) (m.1 ∷ told_by step start m.0 es)) (sym skips));
    replies = λ p h. to.replies p h ∙ ap (λ l. (progress_of s p).replies ++ l)
        (sym (replied-skipped e es (told_by step start s.world es) p) ∙ ap (λ m. replies_by p (e ∷ es) (m.1 ∷ told_by step start m.0 es)) (sym skips));
  }

  -- the call that the event begins is the first of those that are left
  first-begun : (s : Configuration S R T) (e : Event T) (es : List (Event T)) → party_of e < length calls → Begins step start calls left s (e ∷ es)
      → call_in e (world_event step start s.world true e).1 ++ (begun_by (party_of e) es (told_by step start (world_event step start s.world true e).0 es) ++ left (party_of e)) ≡ drop (progress_of s (party_of e)).begun (calls_of calls (party_of e))
  first-begun s e es counted begins =
      let t = (world_event step start s.world true e).1 in
      let ts = told_by step start (world_event step start s.world true e).0 es in
      sym (append_assoc (call_in e t) (begun_by (party_of e) es ts) (left (party_of e))) ∙ ap (λ l. l ++ left (party_of e)) (sym (begun-own e t es ts)) ∙ begins (party_of e) counted

  -- past an event that went on
  begins-on : (s : Configuration S R T) (e : Event T) (es : List (Event T)) → party_of e < length s.parties → party_of e < length calls → Begins step start calls left s (e ∷ es) → Begins step start calls left (led_by step start s e) es
  begins-on s e es inside counted begins q h = elim (eqb_tells (party_of e) q) [ inl same ↦ subst Goal same.1 own | inr other ↦ by_other other.0 other.1 ]
    where
      made : World S R × Told T
      made = world_event step start s.world true e

      Goal : ℕ → Type 0
      Goal z = begun_by z es (told_by step start (world_event step start s.world true e).0 es) ++ left z ≡ drop (progress_of (led_by step start s e) z).begun (calls_of calls z)

      own : Goal (party_of e)
      own =
          let t = (world_event step start s.world true e).1 in
          let ts = told_by step start (world_event step start s.world true e).0 es in
          left_over (calls_of calls (party_of e)) (call_in e t) (begun_by (party_of e) es ts ++ left (party_of e)) (progress_of s (party_of e)).begun (first-begun s e es counted begins)
          ∙ ap (λ (g : Progress T). drop g.begun (calls_of calls (party_of e))) (sym (progress-own step start s e inside))

      by_other : (party_of e == q) ≡ false → party_of e ≢ q → Goal q
      by_other unequal other =
          ap (λ l. l ++ left q) (sym (begun-other e (world_event step start s.world true e).1 es (told_by step start (world_event step start s.world true e).0 es) q unequal))
          ∙ begins q h
          ∙ ap (λ (g : Progress T). drop g.begun (calls_of calls q)) (sym (progress-other step start s e q other))

  arrives-on : (s end : Configuration S R T) (e : Event T) (es : List (Event T)) → party_of e < length s.parties → Arrives step start calls (led_by step start s e) es end → Arrives step start calls s (e ∷ es) end
  arrives-on s end e es inside to = record {
    kind = to.kind;
    world = to.world;
    parties = to.parties;
    begun = λ q h. elim (eqb_tells (party_of e) q) [ inl same ↦ subst Count same.1 (counted-own (rw same.1 h)) | inr other ↦ counted-other q h other.0 other.1 ];
    replies = λ q h. elim (eqb_tells (party_of e) q) [ inl same ↦ subst Goal same.1 (own (rw same.1 h)) | inr other ↦ by_other q h other.0 other.1 ];
  }
    where
      Count : ℕ → Type 0
      Count z = (progress_of end z).begun ≡ (progress_of s z).begun + length (begun_by z (e ∷ es) ((world_event step start s.world true e).1 ∷ told_by step start (world_event step start s.world true e).0 es))

      counted-own : party_of e < length calls → Count (party_of e)
      counted-own h =
          let t = (world_event step start s.world true e).1 in
          let rest = told_by step start (world_event step start s.world true e).0 es in
          let more : length (begun_by (party_of e) (e ∷ es) (t ∷ rest)) ≡ length (call_in e t) + length (begun_by (party_of e) es rest) = ap (λ l. length l) (begun-own e t es rest) ∙ length-append (call_in e t) (begun_by (party_of e) es rest) in
          let on : (progress_of (led_by step start s e) (party_of e)).begun ≡ (progress_of s (party_of e)).begun + length (call_in e t) = ap (λ (g : Progress T). g.begun) (progress-own step start s e inside) in
          let last = to.begun (party_of e) h in
          omega (arith, last, on, more)

      counted-other : (q : ℕ) → q < length calls → (party_of e == q) ≡ false → party_of e ≢ q → Count q
      counted-other q h unequal other =
          let t = (world_event step start s.world true e).1 in
          let rest = told_by step start (world_event step start s.world true e).0 es in
          to.begun q h
          ∙ ap (λ (g : Progress T). g.begun + length (begun_by q es rest)) (progress-other step start s e q other)
          ∙ ap (λ l. (progress_of s q).begun + length l) (sym (begun-other e t es rest q unequal))

      Goal : ℕ → Type 0
      Goal z = (progress_of end z).replies ≡ (progress_of s z).replies ++ replies_by z (e ∷ es) ((world_event step start s.world true e).1 ∷ told_by step start (world_event step start s.world true e).0 es)

      own : party_of e < length calls → Goal (party_of e)
      own h =
          let t = (world_event step start s.world true e).1 in
          let rest = told_by step start (world_event step start s.world true e).0 es in
          to.replies (party_of e) h
          ∙ ap (λ (g : Progress T). g.replies ++ replies_by (party_of e) es rest) (progress-own step start s e inside)
          ∙ append_assoc (progress_of s (party_of e)).replies (reply_in t) (replies_by (party_of e) es rest)
          ∙ ap (λ l. (progress_of s (party_of e)).replies ++ l) (sym (replied-own e t es rest))

      by_other : (q : ℕ) → q < length calls → (party_of e == q) ≡ false → party_of e ≢ q → Goal q
      by_other q h unequal other =
          let t = (world_event step start s.world true e).1 in
          let rest = told_by step start (world_event step start s.world true e).0 es in
          to.replies q h
          ∙ ap (λ (g : Progress T). g.replies ++ replies_by q es rest) (progress-other step start s e q other)
          ∙ ap (λ l. (progress_of s q).replies ++ l) (sym (replied-other e t es rest q unequal))

  -- wherever a run comes, the table has it
  pub reaches : (refuses : Bool) (table : List (Configuration S R T)) → All (StaysForAll (led_by step start) refuses calls table) table
      → (es : List (Event T)) (s : Configuration S R T) → Contains table s → HasParties calls s → (refuses ≡ false → All IsGranted es) → Begins step start calls left s es
      → (end : Configuration S R T) × Contains table end × Arrives step start calls s es end
  reaches refuses table closed [] s within has grants begins =
      (s, within, record { kind = refl; world = refl; parties = has.parties; begun = λ p h. omega arith; replies = λ p h. sym (append-nil (progress_of s p).replies) })
  reaches refuses table closed (e ∷ es) s within has grants begins =
      by_event (λ (x : Configuration S R T) (in_table : Contains table x) (has_x : HasParties calls x) (begins_x : Begins step start calls left x es). reaches refuses table closed es x in_table has_x (λ h. All-tail IsGranted e es (grants h)) begins_x) (went_on step start s.world e)
    where
      by_event : ((x : Configuration S R T) → Contains table x → HasParties calls x → Begins step start calls left x es → (end : Configuration S R T) × Contains table end × Arrives step start calls x es end)
          → (world_event step start s.world true e ≡ (s.world, Skipped)) ⊎ WentOn s.world e (world_event step start s.world true e) → (end : Configuration S R T) × Contains table end × Arrives step start calls s (e ∷ es) end
      by_event again (inl skips) =
          let r = again s within has (begins-skipped s e es skips begins) in
          (r.0, r.1, arrives-skipped s r.0 e es skips r.2)
      by_event again (inr went) =
          let counted : party_of e < length calls = omega (arith, went.inside, has.calls_are) in
          let inside : party_of e < length s.parties = omega (arith, counted, has.parties) in
          let rest = told_by step start (world_event step start s.world true e).0 es in
          let fits = event_fits calls s e (world_event step start s.world true e) (begun_by (party_of e) es rest ++ left (party_of e)) went (first-begun s e es counted begins) in
          let stays = All-contains (StaysForAll (led_by step start) refuses calls table) table s closed within (party_of e) counted (granted_of e) (λ h. granted_if e (All-head IsGranted e es (grants h))) in
          let next = match_some (event_at calls s (party_of e) (granted_of e)) e (λ x. Contains table (led_by step start s x)) fits stays in
          let has_next : HasParties calls (led_by step start s e) = record { parties = length-set s.parties (party_of e) _ ∙ has.parties; calls_are = went.room ∙ has.calls_are } in
          let r = again (led_by step start s e) next has_next (begins-on s e es inside counted begins) in
          (r.0, r.1, arrives-on s r.0 e es inside r.2)
