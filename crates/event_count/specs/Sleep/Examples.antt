-- Short runs, in which the first party waits and the others notify.
use Rattle.std.specs.Prelude.{◌≡◌, ℕ, List, [], ◌∷◌, ◌++◌}
use Rattle.event_count.specs.declared.wakes.steps.{Phase.TheVariants.Idle, Phase.TheVariants.Returned, Phase.TheVariants.Taking, Phase.TheVariants.Moving, Phase.TheVariants.Waking, Whom.TheVariants.One, Whom.TheVariants.All}
use Rattle.event_count.specs.Sleep.World.{Party, Awake, Asleep, Event, Steps, Prepares, Looks, Gives, Tells, start, run}

-- the first party prepares, and misses what it waits for
abbrev pub misses : List Event
misses = Prepares 0 ∷ Steps 0 0 ∷ Steps 0 0 ∷ Looks 0 ∷ []

-- then it parks
abbrev pub parks : List Event
parks = Steps 0 0 ∷ []

-- the second party gives an item and notifies one, step by step
abbrev pub gives : List Event
gives = Gives 1 ∷ Steps 1 0 ∷ Steps 1 0 ∷ Steps 1 0 ∷ Steps 1 0 ∷ []

-- it notifies all
abbrev pub tells : List Event
tells = Tells 1 ∷ Steps 1 0 ∷ Steps 1 0 ∷ Steps 1 0 ∷ []

-- so many parties end so
abbrev pub EndsAs : ℕ → List Event → List Party → Type 0
EndsAs n es ps = (run es (start n 0)).parties ≡ ps

pub record Examples : Type 0 where
  pub sleeps : EndsAs 2 (misses ++ parks) (Asleep 0 0 0 ∷ Awake Idle 0 ∷ [])
  -- the cases in which the laws' second parts are needed: a notify has not ended
  pub still_asleep : EndsAs 2 (misses ++ parks ++ Gives 1 ∷ Steps 1 0 ∷ []) (Asleep 0 0 0 ∷ Awake (Taking 1) 0 ∷ [])
  pub all_still_asleep : EndsAs 2 (misses ++ parks ++ Tells 1 ∷ Steps 1 0 ∷ Steps 1 0 ∷ []) (Asleep 0 0 0 ∷ Awake (Waking All) 1 ∷ [])
  -- a notify that goes to wake the only sleeper: the next one has nobody to wake, and ends at once
  pub taken : EndsAs 3 (misses ++ parks ++ Gives 1 ∷ Steps 1 0 ∷ Steps 1 0 ∷ Gives 2 ∷ Steps 2 0 ∷ []) (Asleep 0 0 0 ∷ Awake (Moving One) 0 ∷ Awake Idle 0 ∷ [])
  -- it is woken
  pub one_woken : EndsAs 2 (misses ++ parks ++ gives) (Awake Returned 0 ∷ Awake Idle 0 ∷ [])
  pub all_woken : EndsAs 2 (misses ++ parks ++ tells) (Awake Returned 0 ∷ Awake Idle 1 ∷ [])
  -- a notify of all leaves no count in `SLEEPERS`: a notify of one after it ends at its load
  pub none_counted : (run (misses ++ parks ++ tells) (start 2 0)).sleepers ≡ 0
  pub ends_at_its_load : EndsAs 3 (misses ++ parks ++ tells ++ Gives 2 ∷ Steps 2 0 ∷ []) (Awake Returned 0 ∷ Awake Idle 1 ∷ Awake Idle 0 ∷ [])
  -- but for a party that prepares after all were taken off and before `EVENTS` moves: it is counted still, and does not sleep
  pub counted_still : (run (Tells 1 ∷ Steps 1 0 ∷ misses ++ Steps 1 0 ∷ parks) (start 2 0)).sleepers ≡ 1
  pub counted_awake : EndsAs 2 (Tells 1 ∷ Steps 1 0 ∷ misses ++ Steps 1 0 ∷ parks) (Awake Returned 1 ∷ Awake (Waking All) 1 ∷ [])
  -- the notify comes between its look and its park, so it does not sleep
  pub does_not_sleep : EndsAs 2 (misses ++ gives ++ parks) (Awake Returned 0 ∷ Awake Idle 0 ∷ [])
