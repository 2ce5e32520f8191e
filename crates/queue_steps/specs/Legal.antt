-- The one-owner table and the effects agree: each call of the table stands in a history, with a reply that is right there.
use Rattle.std.specs.Prelude.{◌≡◌, ◌⊎◌, ℕ, ◌<◌, ◌≤◌, true, List, [], length, Option, Some, None}
use Rattle.queue_steps.specs.declared.{sizes.TheConstants.LIMIT, model.Effect.Effect, model.Call.Call, model.Reply.Reply}
use Rattle.queue_steps.specs.{State.State, State.is_slot_cap, Effect.Runs, Effect.after_from, Replies.Allows, Replies.Tells, Sequential.Owned, Sequential.HoldsBlocks, Sequential.Sequential}

-- n items fit into a queue of this capacity, which has a slot at least
abbrev pub IsWithin : Option ℕ → ℕ → Type 0
IsWithin None n = Unit {0}
IsWithin (Some c) n = (0 < c) × (n ≤ c)

-- what holds of a queue with one owner between its calls
pub record IsSound {T : Type 0} (Q : State T) : Type 0 where
  pub none_coming : Q.coming ≡ None
  pub within : IsWithin Q.cap (length Q.items)
  pub counted : (is_slot_cap Q.cap ≡ true) ⊎ (Q.accepted ≤ LIMIT)

-- the same state, but for the count of a queue of one slot
pub record IsShown {T : Type 0} (R P : State T) : Type 0 where
  pub items : R.items ≡ P.items
  pub cap : R.cap ≡ P.cap
  pub closed : R.closed ≡ P.closed
  pub coming : R.coming ≡ P.coming
  pub accepted : (is_slot_cap R.cap ≡ true) ⊎ (R.accepted ≡ P.accepted)

-- the call has effects that may stand at Q, which its reply stands for and which lead to R; without effects Q allows the reply
pub record Stands {T : Type 0} (Q : State T) (c : Call T) (r : Reply T) (R : State T) : Type 0 where
  pub effects : List (Effect T)
  pub tells : Tells c r effects
  pub runs : Runs Q effects
  pub shows : IsShown R (after_from Q effects)
  pub right : effects ≡ [] → Allows c r Q

-- what holds of a queue with one owner holds of its blocks too
abbrev pub IsSoundOwned : {T : Type 0} → Owned T → Type 0
IsSoundOwned P = IsSound P.queue × HoldsBlocks P

abbrev pub SequentialStands : Type 0 → Type 0
SequentialStands T = (P R : Owned T) (c : Call T) (r : Reply T) → IsSound P.queue → Sequential P c r R → Stands P.queue c r R.queue

abbrev pub KeepsSound : Type 0 → Type 0
KeepsSound T = (P R : Owned T) (c : Call T) (r : Reply T) → IsSoundOwned P → Sequential P c r R → IsSoundOwned R
