-- Laws of runs: what stands within a displacement, and how soon a call replies.
use Rattle.std.specs.Prelude.{◌≡◌, ◌≢◌, ℕ, ◌<◌, ◌≤◌, ◌==◌, Bool, true, false, Option, List, ◌∷◌, length, drop, take, count_by}
use Rattle.std.specs.List.{AllByRecursion}
use Rattle.machine_replay.specs.{Vocabulary.Reply, Vocabulary.Effect, Vocabulary.STEPS_ALONE, Vocabulary.WAIT_FREE_STEPS, Vocabulary.Event, Vocabulary.Replay, Vocabulary.Begin, Vocabulary.Step, Book.is_wait_free, Conforms.Conforms, InCall.IsInCall}
use Rattle.queue_steps.specs.{State.State, Effect.Runs}

abbrev pub IsNotArrive : {T : Type 0} → Effect T → Type 0
IsNotArrive Effect.Arrive = ⊥
IsNotArrive _ = Unit {0}

-- neither an append nor the beginning of another displacement
abbrev pub IsNotAppend : {T : Type 0} → Effect T → Type 0
IsNotAppend (Effect.Append v) = ⊥
IsNotAppend (Effect.Front old v) = ⊥
IsNotAppend _ = Unit {0}

-- from a front on, up to its arrival, nothing is appended
abbrev pub NothingAppendedWithin : Type 0 → Type 0
NothingAppendedWithin T = (Q : State T) (old v : T) (es : List (Effect T)) → Runs Q (Effect.Front old v ∷ es) → AllByRecursion IsNotArrive es → AllByRecursion IsNotAppend es

-- the event is a step of party p
abbrev pub is_step_of : {T : Type 0} → ℕ → Event T → Bool
is_step_of p (Begin q call) = false
is_step_of p (Step q granted) = q == p

-- How many steps of party p stand from the event `first` on, before the event `last`. None is skipped while the party is in a call.
abbrev pub steps_between : {T : Type 0} → List (Event T) → ℕ → ℕ → ℕ → ℕ
steps_between events p first last = count_by (is_step_of p) (drop first (take last events))

-- from the event `first` on, up to the event `last`, no party but p is in a call
abbrev pub IsAloneBetween : {T : Type 0} → List (Event T) → List ℕ → List (ℕ × ℕ × Reply T) → ℕ → ℕ → ℕ → Type 0
IsAloneBetween events skipped replies p first last = (q n : ℕ) → q ≢ p → first ≤ n → n ≤ last → IsInCall events skipped replies q n → ⊥

-- A call that is in progress before the event `last`, and since the event `since` is the only one, has taken fewer than STEPS_ALONE steps in that
-- time: so it replies by the step of that number.
abbrev pub CallsAloneReply : Type 0 → Type 0 → Type 0
CallsAloneReply T A = (cap : Option ℕ) (parties : ℕ) (events : List (Event T)) (r : Replay T A) → Conforms cap parties events r
    → (p since last : ℕ) (c : IsInCall events r.skipped.items r.replies.items p last) → last ≤ length events → c.first ≤ since
    → IsAloneBetween events r.skipped.items r.replies.items p since last → steps_between events p since last < STEPS_ALONE

-- A wait-free call that is in progress before the event `last` has taken one step at most: so it replies by its second.
abbrev pub WaitFreeCallsReply : Type 0 → Type 0 → Type 0
WaitFreeCallsReply T A = (cap : Option ℕ) (parties : ℕ) (events : List (Event T)) (r : Replay T A) → Conforms cap parties events r
    → (p last : ℕ) (c : IsInCall events r.skipped.items r.replies.items p last) → last ≤ length events → is_wait_free c.call ≡ true
    → steps_between events p c.first last < WAIT_FREE_STEPS
