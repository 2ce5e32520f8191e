-- What a reader of a run keeps, and what an event may do to it.
use Rattle.std.specs.Prelude.{◌≡◌, ℕ, ◌+◌, ◌-◌, ◌<◌, ◌==◌, ◌&&◌, ◌||◌, nat_lt, Bool, true, false, not, if◌then◌else◌, Option, Some, None, is_some, is_none, List, [], ◌∷◌, ◌++◌}
use Rattle.std.specs.List.{Any}
use Rattle.machine_replay.specs.Vocabulary.{Call, Reply, Effect, STEPS_ALONE, WAIT_FREE_STEPS, Event, Told, EffectKind, Begin, Step, Skipped, Ran}
use Rattle.queue_steps.specs.{State.State, State.start, Effect.Fits, Effect.made, Replies.IsRightAt, Replies.Tells}
pub use Rattle.queue_steps.specs.Replies.{Allows}
pub use Rattle.queue_steps.specs.Looks.{is_wait_free, has_steps}

-- an effect without its values
abbrev pub kind_of : {T : Type 0} → Effect T → EffectKind
kind_of (Effect.Append v) = EffectKind.Append
kind_of (Effect.Take v) = EffectKind.Take
kind_of (Effect.Replace old v) = EffectKind.Replace
kind_of (Effect.Front old v) = EffectKind.Front
kind_of Effect.Arrive = EffectKind.Arrive
kind_of Effect.Close = EffectKind.Close
kind_of Effect.SelfClose = EffectKind.SelfClose

-- A call that was begun and not ended: its effects so far; its moments so far, the latest first, which are the states
-- after each step of any party since its own first step; whether the queue was open after one of its own steps; how
-- many steps of its own it took; and how many of them since it was last not alone.
pub record Open (T : Type 0) : Type 0 where
  pub call : Call T
  pub effects : List (Effect T)
  pub moments : List (State T)
  pub was_open : Bool
  pub steps : ℕ
  pub alone : ℕ

-- what a reader of the run keeps: the queue, how many calls are in progress, and the open call of each party
pub record Book (T : Type 0) : Type 0 where
  pub queue : State T
  pub busy : ℕ
  pub open_call : ℕ → Option (Open T)

-- before the first event the queue is empty and open, and no party is in a call
abbrev pub opening : {T : Type 0} → Option ℕ → Book T
opening cap = record { queue = start cap 0; busy = 0; open_call = λ k. None }

-- a call just begun has no step and no moment
abbrev pub begun : {T : Type 0} → Call T → Open T
begun c = record { call = c; effects = []; moments = []; was_open = false; steps = 0; alone = 0 }

-- the state Q is a moment of each call that has taken its first step
abbrev pub seen_by : {T : Type 0} → State T → List (State T) → List (State T)
seen_by Q [] = []
seen_by Q (m ∷ ms) = Q ∷ m ∷ ms

-- another party's step left the queue at Q
abbrev pub watched : {T : Type 0} → State T → Open T → Open T
watched Q o = record o { moments = seen_by Q o.moments }

-- another party began a call, so this one is not alone
abbrev pub joined : {T : Type 0} → Open T → Open T
joined o = record o { alone = 0 }

-- the call after its own step, which left the queue at Q and the call with these effects. Only one call is in progress where it is alone
abbrev pub after_own : {T : Type 0} → ℕ → Open T → State T → List (Effect T) → Open T
after_own busy o Q es =
    record { call = o.call; effects = es; moments = Q ∷ o.moments; was_open = o.was_open || not Q.closed; steps = o.steps + 1; alone = if busy == 1 then o.alone + 1 else 0 }

-- what holds of an open call, if there is one
abbrev pub at_open : {T : Type 0} → (Open T → Open T) → Option (Open T) → Option (Open T)
at_open f None = None
at_open f (Some o) = Some (f o)

-- the calls of the parties, with that of one party changed
abbrev pub put : {T : Type 0} → (ℕ → Option (Open T)) → ℕ → Option (Open T) → ℕ → Option (Open T)
put f p o k = if k == p then o else f k

-- the event fits: the party is one of these, and between calls where it begins one, in a call where it takes a step
abbrev pub fits : {T : Type 0} → ℕ → Book T → Event T → Bool
fits parties b (Begin p c) = nat_lt p parties && is_none (b.open_call p)
fits parties b (Step p granted) = nat_lt p parties && is_some (b.open_call p)

-- a front may leave by a displacing call only once the call has seen the queue open, at a step before
abbrev pub MayMake : {T : Type 0} → EffectKind → Open T → Type 0
MayMake EffectKind.Front o = o.was_open ≡ true
MayMake _ o = Unit {0}

-- the effect of this kind, if there is one, leads the queue from Q to R, and the call has the effects es then
abbrev pub Moves : {T : Type 0} → State T → Open T → Option EffectKind → State T → List (Effect T) → Type 0
Moves Q o None R es = (R ≡ Q) × (es ≡ o.effects)
Moves {T} Q o (Some k) R es = (e : Effect T) × (kind_of e ≡ k) × MayMake k o × Fits e Q × (R ≡ made e Q) × (es ≡ o.effects ++ e ∷ [])

-- the call may end with this reply: its effects are those that the reply stands for; without effects one of its moments allows the reply
abbrev pub MayEnd : {T : Type 0} → Open T → Reply T → Type 0
MayEnd o r = Tells o.call r o.effects × (o.effects ≡ [] → Any (Allows o.call r) o.moments)

-- these effects begin those of some reply of the call
abbrev pub IsBegun : {T : Type 0} → Call T → List (Effect T) → Type 0
IsBegun {T} c es = (r : Reply T) × (more : List (Effect T)) × Tells c r (es ++ more)

-- the call goes on after its step: not after so many steps alone, nor after its second step if it is wait-free
pub record Stays {T : Type 0} (o : Open T) : Type 0 where
  pub is_begun : IsBegun o.call o.effects
  pub alone : o.alone < STEPS_ALONE
  pub wait_free : is_wait_free o.call ≡ true → o.steps < WAIT_FREE_STEPS

-- the call goes on, or ends with the reply
abbrev pub GoesOn : {T : Type 0} → Open T → Option (Reply T) → Type 0
GoesOn o None = Stays o
GoesOn o (Some r) = MayEnd o r

-- a step of party p, with its effect and its reply, leads from the book b to the book c
pub record Steps {T : Type 0} (b : Book T) (p : ℕ) (k : Option EffectKind) (r : Option (Reply T)) (c : Book T) : Type 0 where
  pub o : Open T
  pub effects : List (Effect T)
  pub in_call : b.open_call p ≡ Some o
  pub moves : Moves b.queue o k c.queue effects
  pub goes : GoesOn (after_own b.busy o c.queue effects) r
  pub busy : c.busy ≡ (if is_some r then b.busy - 1 else b.busy)
  pub calls : c.open_call ≡ put (λ j. at_open (watched c.queue) (b.open_call j)) p (if is_some r then None else Some (after_own b.busy o c.queue effects))

-- from the book b, on a queue of this capacity, this may be told of the event, and it leads to the book c
abbrev pub Happens : {T : Type 0} → Option ℕ → ℕ → Book T → Event T → Told T → Book T → Type 0
Happens cap parties b e Skipped c = (fits parties b e ≡ false) × (c ≡ b)
Happens cap parties b (Begin p k) (Ran None None) c =
    (fits parties b (Begin p k) ≡ true) × (has_steps cap k ≡ true) × (c ≡ record { queue = b.queue; busy = b.busy + 1; open_call = put (λ j. at_open joined (b.open_call j)) p (Some (begun k)) })
Happens cap parties b (Begin p k) (Ran None (Some r)) c =
    (fits parties b (Begin p k) ≡ true) × (has_steps cap k ≡ false) × IsRightAt b.queue k r × (c ≡ b)
Happens cap parties b (Begin p k) (Ran (Some x) r) c = ⊥
Happens cap parties b (Step p granted) (Ran k r) c = (fits parties b (Step p granted) ≡ true) × Steps b p k r c

-- one event after another
abbrev pub Run : {T : Type 0} → Option ℕ → ℕ → Book T → List (Event T) → List (Told T) → Book T → Type 0
Run cap parties b [] [] c = c ≡ b
Run {T} cap parties b (e ∷ es) (t ∷ ts) c = (mid : Book T) × Happens cap parties b e t mid × Run cap parties mid es ts c
Run cap parties b _ _ c = ⊥
