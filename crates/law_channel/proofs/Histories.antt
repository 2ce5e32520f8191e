-- Each history of the queue is that of a run, in which each party acts once.
use Rattle.std.proofs.Common.{◌≡◌, ◌≢◌, ℕ, zero, suc, ◌+◌, ◌-◌, ◌<◌, ◌≤◌, ◌==◌, Bool, true, false, if◌then◌else◌, Option, Some, None, List, [], ◌∷◌, length, replicate, slice_get, refl, ap, ◌∙◌, arith}
use Rattle.queue_steps.specs.Effect as history
use Rattle.queue_laws.specs.Common.Vocabulary.{Effect}
use Rattle.event_count.specs.declared.wakes.steps.{Phase.Phase, Phase.TheVariants.Idle, Phase.TheVariants.Prepared, Phase.TheVariants.Given, Phase.TheVariants.Clearing, Step.Step, Step.TheVariants.Rest}
use Rattle.event_count.{specs.Sleep.Steps.step_of, specs.Sleep.Steps.looked_of, proofs.Sleep.Counts.set_other, proofs.Sleep.Telling.acts_keeps}
use Rattle.event_count.specs.Sleep.World.{Awake, World, Looks, Leaves, Gives, Tells, put, looks, leaves, gives, tells, run}
use Rattle.event_count.specs.Sleep.World as wakes
use Rattle.law_channel.specs.Machine.{Channel, MayAct, takes_place, acts_on_items, acts_on_room, open_channel, Event, Acts, happens, Runs}
use Rattle.law_channel.specs.Laws.{effects_of, EachHistoryRuns}

-- the party at j is the same
abbrev Untouched : ℕ → World → World → Type 0
Untouched j w v = slice_get v.parties j ≡ slice_get w.parties j

module _ (w : World) (k j : ℕ) (ne : j ≢ k) where
  untouched_if : (b : Bool) (u v : World) → Untouched j w u → Untouched j w v → Untouched j w (if b then u else v)
  untouched_if true u v a c = a
  untouched_if false u v a c = c

  looks_other : (p : Phase) (s : Step) → Untouched j w (looks w k p s)
  looks_other p Rest =
      untouched_if (w.items == 0) (put w k (Awake (looked_of p false) w.times)) (put (record w { items = w.items - 1 }) k (Awake (looked_of p true) w.times))
      (set_other w.parties k j (Awake (looked_of p false) w.times) ne) (set_other w.parties k j (Awake (looked_of p true) w.times) ne)
  looks_other p other = refl

  leaves_other : (m : ℕ) (p : Phase) → Untouched j w (leaves w k m p)
  leaves_other m (Prepared t) = set_other w.parties k j (Awake Idle m) ne
  leaves_other m other = refl

  gives_other : (m : ℕ) (p : Phase) → Untouched j w (gives w k m p)
  gives_other m Idle = set_other w.parties k j (Awake Given m) ne
  gives_other m other = refl

  tells_other : (m : ℕ) (p : Phase) → Untouched j w (tells w k m p)
  tells_other m Idle = set_other w.parties k j (Awake Clearing (w.times + 1)) ne
  tells_other m other = refl

  looked : Untouched j w (wakes.happens w (Looks k))
  looked = acts_keeps (Untouched j w) w (λ p m. looks w k p (step_of p)) (slice_get w.parties k) (λ p m at. looks_other p (step_of p)) refl

  left : Untouched j w (wakes.happens w (Leaves k))
  left = acts_keeps (Untouched j w) w (λ p m. leaves w k m p) (slice_get w.parties k) (λ p m at. leaves_other m p) refl

  gave : Untouched j w (wakes.happens w (Gives k))
  gave = acts_keeps (Untouched j w) w (λ p m. gives w k m p) (slice_get w.parties k) (λ p m at. gives_other m p) refl

  told : Untouched j w (wakes.happens w (Tells k))
  told = acts_keeps (Untouched j w) w (λ p m. tells w k m p) (slice_get w.parties k) (λ p m at. tells_other m p) refl

module _ (w : World) (k j : ℕ) (ne : j ≢ k) where
  left_gave : Untouched j w (run (Leaves k ∷ Gives k ∷ []) w)
  left_gave = gave (wakes.happens w (Leaves k)) k j ne ∙ left w k j ne

  left_told : Untouched j w (run (Leaves k ∷ Tells k ∷ []) w)
  left_told = told (wakes.happens w (Leaves k)) k j ne ∙ left w k j ne

  looked_gave : Untouched j w (run (Looks k ∷ Gives k ∷ []) w)
  looked_gave = gave (wakes.happens w (Looks k)) k j ne ∙ looked w k j ne

  placed : (cap : Option ℕ) → Untouched j w (run (takes_place cap k) w)
  placed None = left w k j ne
  placed (Some capacity) = looked w k j ne

module _ {T : Type 0} where
  receivers : (w : World) (k j : ℕ) → j ≢ k → (e : Effect T) → Untouched j w (run (acts_on_items k e) w)
  receivers w k j ne (Effect.Append v) = left_gave w k j ne
  receivers w k j ne (Effect.Take v) = looked w k j ne
  receivers w k j ne (Effect.Replace old v) = looked_gave w k j ne
  receivers w k j ne (Effect.Front old v) = looked w k j ne
  receivers w k j ne Effect.Arrive = left_gave w k j ne
  receivers w k j ne Effect.Close = left_told w k j ne
  receivers w k j ne Effect.SelfClose = left_told w k j ne

  senders : (w : World) (k j : ℕ) → j ≢ k → (cap : Option ℕ) (e : Effect T) → Untouched j w (run (acts_on_room cap k e) w)
  senders w k j ne cap (Effect.Append v) = placed w k j ne cap
  senders w k j ne cap (Effect.Take v) = left_gave w k j ne
  senders w k j ne cap (Effect.Replace old v) = left w k j ne
  senders w k j ne cap (Effect.Front old v) = left w k j ne
  senders w k j ne cap Effect.Arrive = left w k j ne
  senders w k j ne cap Effect.Close = left_told w k j ne
  senders w k j ne cap Effect.SelfClose = left_told w k j ne

  -- the parties from i on have not acted
  abbrev Waiting : Channel T → ℕ → ℕ → Type 0
  Waiting c i n = (j : ℕ) → i ≤ j → j < n → (slice_get c.items.parties j ≡ Some (Awake Idle 0)) × (slice_get c.room.parties j ≡ Some (Awake Idle 0))

  may_act : (c : Channel T) (k : ℕ) (e : Effect T) → slice_get c.items.parties k ≡ Some (Awake Idle 0) → slice_get c.room.parties k ≡ Some (Awake Idle 0) → MayAct c k e
  may_act c k (Effect.Append v) a b = ((Awake Idle 0, a, refl), (Awake Idle 0, b, refl))
  may_act c k (Effect.Take v) a b = ((Awake Idle 0, a, refl), (Awake Idle 0, b, refl))
  may_act c k (Effect.Replace old v) a b = ((Awake Idle 0, a, refl), (Awake Idle 0, b, refl))
  may_act c k (Effect.Front old v) a b = ((Awake Idle 0, a, refl), (Awake Idle 0, b, refl))
  may_act c k other a b = ((Awake Idle 0, a, refl), (Awake Idle 0, b, refl))

  -- one effect after another, each of another party
  abbrev each_acts : ℕ → List (Effect T) → List (Event T)
  each_acts i [] = []
  each_acts i (e ∷ es) = Acts i e ∷ each_acts (suc i) es

  same_effects : (i : ℕ) (es : List (Effect T)) → effects_of (each_acts i es) ≡ es
  same_effects i [] = refl
  same_effects i (e ∷ es) = ap (λ (l : List (Effect T)). e ∷ l) (same_effects (suc i) es)

  may_run : (c : Channel T) (i n : ℕ) (es : List (Effect T)) → i + length es ≤ n → Waiting c i n → history.Runs c.queue es → Runs c (each_acts i es)
  may_run c i n [] room waiting runs = tt
  may_run c i n (e ∷ es) room waiting runs =
      let here = waiting i (omega arith) (omega (arith, room)) in
      let d = happens c (Acts i e) in
      let next : Waiting d (suc i) n = λ j from below.
      let ne : j ≢ i = λ same. (omega (arith, from, same)) in
      let was = waiting j (omega (arith, from)) below in
      (receivers c.items i j ne e ∙ was.0, senders c.room i j ne c.queue.cap e ∙ was.1) in
      ((runs.0, may_act c i e here.0 here.1), may_run d (suc i) n es (omega (arith, room)) next runs.1)

here_in : {X : Type 0} (n j : ℕ) (x : X) → j < n → slice_get (replicate n x) j ≡ Some x
here_in zero j x below = absurd (omega (arith, below))
here_in (suc n) zero x below = refl
here_in (suc n) (suc j) x below = here_in n j x (omega (arith, below))

pub each_history_runs : {T : Type 0} → EachHistoryRuns T
each_history_runs {T} cap es history =
    let n = length es in
    let waiting : Waiting (open_channel {T = T} cap n) 0 n = λ j from below. (here_in n j (Awake Idle 0) below, here_in n j (Awake Idle 0) below) in
    (n, each_acts 0 es, may_run (open_channel cap n) 0 n es (omega arith) waiting history, same_effects 0 es)
