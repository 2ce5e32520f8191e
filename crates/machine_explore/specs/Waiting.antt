-- When a party waits for another at the end of a schedule.
use Rattle.std.specs.Prelude.{◌≡◌, ◌≢◌, ◌⊎◌, ℕ, ◌-◌, ◌<◌, ◌≤◌, ◌==◌, Bool, true, false, Option, Some, None, List, [], ◌∷◌, ◌++◌, length, map, replicate, slice_get, Contains}
use Rattle.queue_steps.specs.declared.{model.Call.Call, sizes.TheConstants.STEPS_ALONE, steps.ring.RingLocal.RingLocal as ring, steps.chain.ChainLocal.ChainLocal as chain, steps.types.Kind.Kind, steps.types.Local.Local, steps.types.Local.Local as local}
use Rattle.machine_memory.specs.{declared.calls.Running.Running, declared.types.Event.TheVariants.Step, declared.types.Told.TheVariants.Ran, Places.label_text, SharedMemory.MemoryState}
use Rattle.machine_steps.specs.{Machine.event_of, World.World, World.call_at}
use Rattle.machine_replay.specs.{Played.local_in, Played.told_of, Played.world_after, Progress.Standing as CallStanding, Progress.HalfDone, Progress.standing, Progress.stands_then}
use Rattle.machine_explore.specs.{declared.schedule.Move.Move, declared.waiting.Side.Side, declared.waiting.Wait.Wait, Positions.Standing, Positions.calls_of, Positions.progress_of, Traces.IsWayOf, Traces.Seen}

-- The party goes round: so many steps of its call, taken now and by it alone, have no effect and get no reply, and then all is as it is now. So alone it would go round for ever.
-- Rounds of more steps than a call alone may have are not looked for.
pub record GoesRound (k : Kind) (w : World (MemoryState ℕ) (Running ℕ)) (p : ℕ) : Type 0 where
  pub steps : ℕ
  pub some : 0 < steps
  pub few : steps ≤ STEPS_ALONE
  pub silent : told_of k w (replicate steps (Step p true)) ≡ replicate steps (Ran None None)
  pub back : world_after k w (replicate steps (Step p true)) ≡ w

-- the first step of a push, a forced push or a pop, on a ring or a chain
abbrev pub is_first : Option (Local ℕ) → Bool
is_first (Some (local.Ring (ring.PushTail d))) = true
is_first (Some (local.Ring ring.PopHead)) = true
is_first (Some (local.Chain (chain.PushTail d spare))) = true
is_first (Some (local.Chain chain.PopHead)) = true
is_first _ = false

-- the party's next step sends it back: all is then as it is now, or its call stands at its first step
abbrev pub IsSentBack : Kind → World (MemoryState ℕ) (Running ℕ) → ℕ → Type 0
IsSentBack k w p = ((event_of k true w (Step p true)).0 ≡ w) ⊎ (is_first (local_in (call_at (event_of k true w (Step p true)).0 p)) ≡ true)

abbrev pub is_half_done : CallStanding → Bool
is_half_done HalfDone = true
is_half_done _ = false

-- where the party stands after what is seen
abbrev pub stands_seen : ℕ → CallStanding → List Seen → CallStanding
stands_seen p x [] = x
stands_seen p x (s ∷ ss) = stands_seen p (stands_then p x s.event s.told) ss

-- the party, its call, and where that stands
abbrev pub side_at : List (List (Call ℕ)) → Standing → ℕ → Side
side_at calls s p = record { party = p; call = slice_get (calls_of calls p) ((progress_of s p).begun - 1); local = local_in (call_at s.world p) }

-- who waits, for whom, and what is seen of the schedule at whose end it does
pub record Waiting : Type 0 where
  pub waiter : Side
  pub other : Side
  pub seen : List Seen

abbrev pub wait_of : {A : Type 0} → Wait A → Waiting
wait_of x = record { waiter = x.waiter; other = x.other; seen = x.entries.items }

-- By these moves, after the calls that come first, the program comes to a moment at which party p waits for party q. Party p goes round, and its next step sends it back. Of all
-- parties but p, q alone is half done: in a call that has had an effect and has not replied.
pub record IsWaitOf (k : Kind) (refuses : Bool) (before : List (Call ℕ)) (calls : List (List (Call ℕ))) (schedule : List Move) (x : Waiting) : Type 0 where
  pub at : Standing
  pub opening : List ℕ
  pub way : IsWayOf k refuses before calls schedule opening x.seen at
  pub p : ℕ
  pub q : ℕ
  pub round : GoesRound at.kind at.world p
  pub back : IsSentBack at.kind at.world p
  pub there : q < length calls
  pub apart : p ≢ q
  pub half : (r : ℕ) → r < length calls → r ≢ p → is_half_done (standing k (length calls) r (way.starts.prepared.0 ++ way.on.rest)) ≡ (r == q)
  pub waiter : x.waiter ≡ side_at calls at p
  pub other : x.other ≡ side_at calls at q

-- what a wait is known by: of each side the party, its call, and the label of its step
abbrev pub SideKey : Type 0
SideKey = ℕ × Option (Call ℕ) × List ℕ

abbrev pub side_key : Side → SideKey
side_key s = (s.party, s.call, label_text s.local)

abbrev pub wait_key : Waiting → SideKey × SideKey
wait_key x = (side_key x.waiter, side_key x.other)

-- whatever wait of the program a schedule shows, one of these has its parties, their calls and the labels of their steps
abbrev pub HasNoOtherWait : Kind → Bool → List (Call ℕ) → List (List (Call ℕ)) → List Waiting → Type 0
HasNoOtherWait k refuses before calls waits = (schedule : List Move) (x : Waiting) → IsWaitOf k refuses before calls schedule x → Contains (map wait_key waits) (wait_key x)
