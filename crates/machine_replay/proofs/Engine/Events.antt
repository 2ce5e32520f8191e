-- Any machine whose steps are steps of the queue: its events are events of the book. Nothing here knows a kind of queue.
use Rattle.std.proofs.Common.{ℕ, ◌+◌, ◌-◌, ◌<◌, ◌≡◌, ◌≢◌, ◌&&◌, ◌∙◌, inl, inr, nat_lt, Bool, true, false, if◌then◌else◌, Option, Some, None, is_some, is_none, List, length, refl, sym, ap, arith, get_or, set, get_or-set_same, get_or-set_other}
use Rattle.std.proofs.lemmas.{List.get_or_past, List.length-set, Bool.ltb-true, Bool.ltb-false, Bool.Decides.eqb_tells}
use Rattle.queue_laws.proofs.Common.Tests.{and_true, is_none_true}
use Rattle.queue_steps.specs.{State.State, Replies.IsRightAt}
use Rattle.machine_replay.specs.Vocabulary.{Call, Reply, Effect, Event, Begin, Step, Skipped}
use Rattle.machine_replay.specs.Book.{Book, Open, Moves, GoesOn, Stays, MayEnd, Steps, Happens, put, watched, joined, at_open, after_own, begun, has_steps}
use Rattle.machine_steps.specs.World.{World, StepOutcome, Begun, call_at, can_begin, stepped, stepped_if, began, began_by, world_event}
use Rattle.machine_memory.{specs.Present.present, proofs.Busy.busy_set, proofs.Busy.one_if, proofs.Busy.one_busy}

and_false : (a : Bool) → (a && false) ≡ false
and_false true = refl
and_false false = refl

-- What a kind of queue, of capacity cap, proves of its steps. G is what its proof keeps, as who has the lock. `Holds` says
-- how the shared part stands for the queue, `Idle` what is so of a party between calls, `Fits` what is so of a party in a
-- call, by how many calls are in progress. `CanStep` is what the step's code owes.
module _ (T S R G : Type 0) (cap : Option ℕ) (step : Bool → S → R → StepOutcome S R T) (start : Call T → Begun R T) (CanStep : Bool → S → R → Type 0)
    (Holds : S → State T → G → Type 0) (Idle : G → ℕ → Type 0) (Fits : ℕ → S → State T → G → ℕ → R → Open T → Type 0) where
  -- the call goes on and fits, or it replies and its party is idle
  abbrev pub NextFits : ℕ → S → State T → G → ℕ → Open T → Option R → Option (Reply T) → Type 0
  NextFits busy s Q g p o (Some r) None = Fits busy s Q g p r o × Stays o
  NextFits busy s Q g p o None (Some x) = Idle g p × MayEnd o x
  NextFits busy s Q g p o _ _ = ⊥

  -- the step of party p leads to a state of the queue for which the shared part stands, is right, and leaves the others as they were
  pub record StepsWell (busy : ℕ) (s : S) (Q : State T) (g : G) (p : ℕ) (o : Open T) (t : StepOutcome S R T) : Type 0 where
    pub after : State T
    pub kept : G
    pub effects : List (Effect T)
    pub holds : Holds t.shared after kept
    pub moves : Moves Q o t.effect after effects
    pub goes : NextFits busy t.shared after kept p (after_own busy o after effects) t.call t.reply
    pub idle : (j : ℕ) → j ≢ p → Idle g j → Idle kept j
    pub others : (busy' j : ℕ) (r : R) (m : Open T) → j ≢ p → busy ≢ 1 → Fits busy s Q g j r m → Fits busy' t.shared after kept j r (watched after m)

  abbrev pub BeginsWell : S → State T → G → ℕ → Call T → Option R → Option (Reply T) → Type 0
  BeginsWell s Q g p k (Some r) None = (has_steps cap k ≡ true) × ((busy : ℕ) → Fits busy s Q g p r (begun k))
  BeginsWell s Q g p k None (Some x) = (has_steps cap k ≡ false) × IsRightAt Q k x
  BeginsWell s Q g p k _ _ = ⊥

  pub record Laws : Type 0 where
    -- the code of a step owes nothing more
    pub can_step : (busy : ℕ) (ok : Bool) (s : S) (Q : State T) (g : G) (p : ℕ) (r : R) (o : Open T)
        → Holds s Q g → Fits busy s Q g p r o → CanStep ok s r
    -- each step of a call in progress; where it is the only one, the other parties are idle
    pub steps_well : (busy : ℕ) (ok : Bool) (s : S) (Q : State T) (g : G) (p : ℕ) (r : R) (o : Open T)
        → Holds s Q g → Fits busy s Q g p r o → (busy ≡ 1 → (j : ℕ) → j ≢ p → Idle g j) → StepsWell busy s Q g p o (step ok s r)
    -- a call that an idle party begins
    pub begins_well : (s : S) (Q : State T) (g : G) (p : ℕ) (k : Call T) → Holds s Q g → Idle g p → BeginsWell s Q g p k (start k).call (start k).reply
    -- a call that is in progress where another begins
    pub joins_well : (busy busy' : ℕ) (s : S) (Q : State T) (g : G) (p : ℕ) (r : R) (o : Open T) → Fits busy s Q g p r o → Fits busy' s Q g p r (joined o)

  -- what is so of a party, in a call or not
  abbrev pub Party : ℕ → S → State T → G → ℕ → Option R → Option (Open T) → Type 0
  Party busy s Q g p None None = Idle g p
  Party busy s Q g p (Some r) (Some o) = Fits busy s Q g p r o
  Party busy s Q g p _ _ = ⊥

  -- the machine stands for the book
  pub record Simulates (parties : ℕ) (w : World S R) (b : Book T) : Type 0 where
    pub g : G
    pub parties_are : length w.calls ≡ parties
    pub busy_is : b.busy ≡ present w.calls
    pub holds : Holds w.shared b.queue g
    pub each : (p : ℕ) → Party b.busy w.shared b.queue g p (call_at w p) (b.open_call p)

  pub party_none : (busy : ℕ) (s : S) (Q : State T) (g : G) (p : ℕ) (r : Option R) (o : Option (Open T)) → Party busy s Q g p r o → is_none o ≡ is_none r
  party_none busy s Q g p None (Some o) h = absurd h
  party_none busy s Q g p (Some r) None h = absurd h
  party_none busy s Q g p r o h = refl

  party_joined : (laws : Laws) (busy busy' : ℕ) (s : S) (Q : State T) (g : G) (p : ℕ) (r : Option R) (o : Option (Open T))
      → Party busy s Q g p r o → Party busy' s Q g p r (at_open joined o)
  party_joined laws busy busy' s Q g p None None h = h
  party_joined laws busy busy' s Q g p (Some r) (Some o) h = laws.joins_well busy busy' s Q g p r o h
  party_joined laws busy busy' s Q g p r o h = absurd h

  each_after : (P : Option R → Option (Open T) → Type 0) (calls : List (Option R)) (p j : ℕ) (x : Option R) (y : Option (Open T)) (f : ℕ → Option (Open T))
      → p < length calls → (j ≡ p → P x y) → (j ≢ p → P (get_or calls j None) (f j))
      → P (get_or (set calls p x) j None) (put f p y j)
  each_after P calls p j x y f within same other =
      elim (eqb_tells j p) [
        | inl t ↦ rw (t.0, ap (λ i. get_or (set calls p x) i None) t.1 ∙ get_or-set_same calls p x None within) (same t.1)
        | inr t ↦ rw (t.0, get_or-set_other calls p j x None t.1) (other t.1)
      ]

  pub within : (w : World S R) (p : ℕ) (r : R) → call_at w p ≡ Some r → nat_lt p (length w.calls) ≡ true
  within w p r e =
      elim (nat_lt p (length w.calls)) as (λ b. nat_lt p (length w.calls) ≡ b → b ≡ true) [
        | true ↦ λ is. refl
        | false ↦ λ is. let past = get_or_past w.calls p None (ltb-false p (length w.calls) is) in cc
      ] refl

  idle_if : (busy : ℕ) (s : S) (Q : State T) (g : G) (p : ℕ) (r : Option R) (o : Option (Open T)) → r ≡ None → Party busy s Q g p r o → Idle g p
  idle_if busy s Q g p None None e h = h
  idle_if busy s Q g p (Some r) o e h = cc
  idle_if busy s Q g p None (Some o) e h = absurd h

  -- how the count of calls in progress goes on
  busy_after : (calls : List (Option R)) (p : ℕ) (r : R) (busy : ℕ) (x : Option R) (y : Option (Reply T)) (s : S) (Q : State T) (g : G) (o : Open T)
      → NextFits busy s Q g p o x y → p < length calls → get_or calls p None ≡ Some r → busy ≡ present calls
      → (if is_some y then busy - 1 else busy) ≡ present (set calls p x)
  busy_after calls p r busy (Some r') None s Q g o goes lt there is =
      let e = busy_set calls p (Some r') lt in
      let f : one_if (get_or calls p None) ≡ 1 = rw there refl in
      omega (arith, e, f)
  busy_after calls p r busy None (Some y) s Q g o goes lt there is =
      let e = busy_set calls p None lt in
      let f : one_if (get_or calls p None) ≡ 1 = rw there refl in
      omega (arith, e, f)
  busy_after calls p r busy x y s Q g o goes lt there is = absurd goes

  -- the party after its step
  party_after : (busy : ℕ) (s : S) (Q : State T) (g : G) (p : ℕ) (o : Open T) (x : Option R) (y : Option (Reply T))
      → NextFits busy s Q g p o x y → Party (if is_some y then busy - 1 else busy) s Q g p x (if is_some y then None else Some o)
  party_after busy s Q g p o None None goes = absurd goes
  party_after busy s Q g p o (Some r) (Some y) goes = absurd goes
  party_after busy s Q g p o x y goes = goes.0

  goes_on : (busy : ℕ) (s : S) (Q : State T) (g : G) (p : ℕ) (o : Open T) (x : Option R) (y : Option (Reply T)) → NextFits busy s Q g p o x y → GoesOn o y
  goes_on busy s Q g p o None None goes = absurd goes
  goes_on busy s Q g p o (Some r) (Some y) goes = absurd goes
  goes_on busy s Q g p o x y goes = goes.1

  step_event : (laws : Laws) (parties : ℕ) (w : World S R) (b : Book T) (ok : Bool) (p : ℕ) (sim : Simulates parties w b) (r : R) (o : Open T)
      → call_at w p ≡ Some r → b.open_call p ≡ Some o
      → (c : Book T) × Steps b p (step ok w.shared r).effect (step ok w.shared r).reply c × Simulates parties (stepped w p (step ok w.shared r)).0 c
  step_event laws parties w b ok p sim r o in_w in_b =
      let t = step ok w.shared r in
      let here : Party b.busy w.shared b.queue sim.g p (Some r) (Some o) = rw (in_w, in_b) at (sim.each p) in
      let alone : b.busy ≡ 1 → (j : ℕ) → j ≢ p → Idle sim.g j = λ one j ne.
      idle_if b.busy w.shared b.queue sim.g j (call_at w j) (b.open_call j) (one_busy w.calls p j r (sym sim.busy_is ∙ one) in_w ne) (sim.each j) in
      let well = laws.steps_well b.busy ok w.shared b.queue sim.g p r o sim.holds here alone in
      let lt : p < length w.calls = ltb-true p (length w.calls) (within w p r in_w) in
      let mine = after_own b.busy o well.after well.effects in
      let busy' = if is_some t.reply then b.busy - 1 else b.busy in
      let next_open = if is_some t.reply then None else Some mine in (
        record { queue = well.after; busy = busy'; open_call = put (λ j. at_open (watched well.after) (b.open_call j)) p next_open },
        record {
          o = o;
          effects = well.effects;
          in_call = in_b;
          moves = well.moves;
          goes = goes_on b.busy t.shared well.after well.kept p mine t.call t.reply well.goes;
          busy = refl;
          calls = refl;
        },
        record {
          g = well.kept;
          parties_are = length-set w.calls p t.call ∙ sim.parties_are;
          busy_is = busy_after w.calls p r b.busy t.call t.reply t.shared well.after well.kept mine well.goes lt in_w sim.busy_is;
          holds = well.holds;
          each = λ j. each_after (Party busy' t.shared well.after well.kept j) w.calls p j t.call next_open (λ j. at_open (watched well.after) (b.open_call j)) lt
              (λ e. rw e (party_after b.busy t.shared well.after well.kept p mine t.call t.reply well.goes))
              (λ ne. other_party parties w b sim p j r o t well busy' in_w ne (call_at w j) refl (b.open_call j) (sim.each j));
        },
      )
    where
      other_party : (parties : ℕ) (w : World S R) (b : Book T) (sim : Simulates parties w b) (p j : ℕ) (r : R) (o : Open T) (t : StepOutcome S R T) (well : StepsWell b.busy w.shared b.queue sim.g p o t) (busy' : ℕ)
          → call_at w p ≡ Some r → j ≢ p → (x : Option R) → call_at w j ≡ x → (y : Option (Open T)) → Party b.busy w.shared b.queue sim.g j x y → Party busy' t.shared well.after well.kept j x (at_open (watched well.after) y)
      other_party parties w b sim p j r o t well busy' in_w ne None e None h = well.idle j ne h
      other_party parties w b sim p j r o t well busy' in_w ne (Some x) e (Some y) h =
          well.others busy' j x y ne (λ one. let none = one_busy w.calls p j r (sym sim.busy_is ∙ one) in_w ne in cc) h
      other_party parties w b sim p j r o t well busy' in_w ne x e y h = absurd h

  same_fit : (parties : ℕ) (w : World S R) (b : Book T) (sim : Simulates parties w b) (p : ℕ) → (nat_lt p parties && is_none (b.open_call p)) ≡ can_begin w p
  same_fit parties w b sim p = rw (sim.parties_are, party_none b.busy w.shared b.queue sim.g p (call_at w p) (b.open_call p) (sim.each p)) refl

  busy_begun : (calls : List (Option R)) (p : ℕ) (r : R) (busy : ℕ) → p < length calls → get_or calls p None ≡ None → busy ≡ present calls → busy + 1 ≡ present (set calls p (Some r))
  busy_begun calls p r busy lt there is =
      let e = busy_set calls p (Some r) lt in
      let f : one_if (get_or calls p None) ≡ 0 = rw there refl in
      omega (arith, e, f)

  begin_event : (laws : Laws) (parties : ℕ) (w : World S R) (b : Book T) (sim : Simulates parties w b) (p : ℕ) (k : Call T) (x : Option R) (y : Option (Reply T))
      → can_begin w p ≡ true → BeginsWell w.shared b.queue sim.g p k x y
      → (c : Book T) × Happens cap parties b (Begin p k) (began w p x y).1 c × Simulates parties (began w p x y).0 c
  begin_event laws parties w b sim p k None (Some y) fit well = (b, (same_fit parties w b sim p ∙ fit, well.0, well.1, refl), sim)
  begin_event laws parties w b sim p k (Some r) None fit well =
      let tests = and_true (nat_lt p (length w.calls)) (is_none (call_at w p)) fit in
      let lt = ltb-true p (length w.calls) tests.0 in (
        record { queue = b.queue; busy = b.busy + 1; open_call = put (λ j. at_open joined (b.open_call j)) p (Some (begun k)) },
        (same_fit parties w b sim p ∙ fit, well.0, refl),
        record {
          g = sim.g;
          parties_are = length-set w.calls p (Some r) ∙ sim.parties_are;
          busy_is = busy_begun w.calls p r b.busy lt (is_none_true (call_at w p) tests.1) sim.busy_is;
          holds = sim.holds;
          each = λ j. each_after (Party (b.busy + 1) w.shared b.queue sim.g j) w.calls p j (Some r) (Some (begun k)) (λ j. at_open joined (b.open_call j)) lt
              (λ e. rw e (well.1 (b.busy + 1)))
              (λ ne. party_joined laws b.busy (b.busy + 1) w.shared b.queue sim.g j (get_or w.calls j None) (b.open_call j) (sim.each j));
        },
      )
  begin_event laws parties w b sim p k x y fit well = absurd well

  -- the code of any event owes nothing more
  pub can_take : (laws : Laws) (parties : ℕ) (w : World S R) (b : Book T) → Simulates parties w b → (ok : Bool) (p : ℕ) (r : R) → call_at w p ≡ Some r → CanStep ok w.shared r
  can_take laws parties w b sim ok p r in_w = takes (b.open_call p) (rw in_w at (sim.each p))
    where
      takes : (y : Option (Open T)) → Party b.busy w.shared b.queue sim.g p (Some r) y → CanStep ok w.shared r
      takes None h = absurd h
      takes (Some o) h = laws.can_step b.busy ok w.shared b.queue sim.g p r o sim.holds h

  pub simulates_event : (laws : Laws) (parties : ℕ) (w : World S R) (b : Book T) → Simulates parties w b → (ok : Bool) (e : Event T)
      → (c : Book T) × Happens cap parties b e (world_event step start w ok e).1 c × Simulates parties (world_event step start w ok e).0 c
  simulates_event laws parties w b sim ok (Begin p k) =
      elim (can_begin w p) as (λ t. can_begin w p ≡ t → (c : Book T) × Happens cap parties b (Begin p k) (if t then began_by w p (start k) else (w, Skipped)).1 c × Simulates parties (if t then began_by w p (start k) else (w, Skipped)).0 c) [
        | true ↦ λ is.
            let tests = and_true (nat_lt p (length w.calls)) (is_none (call_at w p)) is in
            let free = idle_if b.busy w.shared b.queue sim.g p (call_at w p) (b.open_call p) (is_none_true (call_at w p) tests.1) (sim.each p) in
            begin_event laws parties w b sim p k (start k).call (start k).reply is (laws.begins_well w.shared b.queue sim.g p k sim.holds free)
        | false ↦ λ is. (b, (same_fit parties w b sim p ∙ is, refl), sim)
      ] refl
  simulates_event laws parties w b sim ok (Step p granted) =
      step_fits (call_at w p) refl (b.open_call p) refl
    where
      step_fits : (x : Option R) → call_at w p ≡ x → (y : Option (Open T)) → b.open_call p ≡ y
          → (c : Book T) × Happens cap parties b (Step p granted) (stepped_if step w (granted && ok) p x).1 c × Simulates parties (stepped_if step w (granted && ok) p x).0 c
      step_fits None e None f = (b, (rw f (and_false (nat_lt p parties)), refl), sim)
      step_fits (Some r) e (Some o) f =
          let t = step_event laws parties w b (granted && ok) p sim r o e f in
          (t.0, (rw (f, sym sim.parties_are, within w p r e) refl, t.1), t.2)
      step_fits x e y f = absurd (rw (e, f) at (sim.each p))
