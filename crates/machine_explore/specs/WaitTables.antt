-- What where calls stand tells of waits, of each standing of a table.
use Rattle.std.specs.Prelude.{◌≡◌, ◌≢◌, ℕ, ◌<◌, ◌==◌, Bool, true, false, Option, Some, None, List, length, Contains}
use Rattle.queue_steps.specs.declared.{model.Call.Call, steps.ring.RingLocal.RingLocal as ring, steps.slot.SlotLocal.SlotLocal as slot, steps.chain.ChainLocal.ChainLocal as chain, steps.types.Local.Local, steps.types.Local.Local as local}
use Rattle.machine_steps.specs.World.{call_at}
use Rattle.machine_replay.specs.Played.{local_in}
use Rattle.machine_explore.specs.{Positions.Standing, Waiting.GoesRound, Waiting.IsSentBack, Waiting.SideKey, Waiting.side_at, Waiting.side_key}

-- whether a call that stands there has had an effect
abbrev pub is_half_done_at : Option (Local ℕ) → Bool
is_half_done_at (Some (local.Slot slot.Pushed)) = true
is_half_done_at (Some (local.Slot (slot.Forced w))) = true
is_half_done_at (Some (local.Slot slot.Popped)) = true
is_half_done_at (Some (local.Ring (ring.Filling d))) = true
is_half_done_at (Some (local.Ring (ring.Arriving t))) = true
is_half_done_at (Some (local.Ring ring.Swapping)) = true
is_half_done_at (Some (local.Ring ring.Emptying)) = true
is_half_done_at (Some (local.Chain (chain.Laying d t b f))) = true
is_half_done_at (Some (local.Chain (chain.Opening d t b f))) = true
is_half_done_at (Some (local.Chain (chain.Chaining d t b f))) = true
is_half_done_at (Some (local.Chain (chain.Writing d spare))) = true
is_half_done_at (Some (local.Chain (chain.Following h b))) = true
is_half_done_at (Some (local.Chain (chain.Peeking h b a))) = true
is_half_done_at (Some (local.Chain (chain.Passing h b more))) = true
is_half_done_at (Some (local.Chain (chain.Entering h b))) = true
is_half_done_at (Some (local.Chain (chain.Awaiting h b))) = true
is_half_done_at (Some (local.Chain (chain.Reading b i))) = true
is_half_done_at (Some (local.Chain (chain.Walking b i))) = true
is_half_done_at (Some (local.Chain (chain.Destroying b i))) = true
is_half_done_at _ = false

-- the word or the slot that a push or a pop remembers where it may be sent back or walks a block, and the block or the spare
abbrev pub remembered : Option (Local ℕ) → ℕ × Option ℕ
remembered (Some (local.Slot (slot.Forcing w))) = (w, None)
remembered (Some (local.Slot (slot.Popping w))) = (w, None)
remembered (Some (local.Ring (ring.PushStamp d t))) = (t, None)
remembered (Some (local.Ring (ring.Claiming d t))) = (t, None)
remembered (Some (local.Ring (ring.PushHead t))) = (t, None)
remembered (Some (local.Ring (ring.Displacing t))) = (t, None)
remembered (Some (local.Ring (ring.PopStamp h))) = (h, None)
remembered (Some (local.Ring (ring.Taking h))) = (h, None)
remembered (Some (local.Ring (ring.PopTail h))) = (h, None)
remembered (Some (local.Chain (chain.PushBlock d t spare))) = (t, spare)
remembered (Some (local.Chain (chain.Asking d t b))) = (t, b)
remembered (Some (local.Chain (chain.Installing d t b))) = (t, Some b)
remembered (Some (local.Chain (chain.Claiming d t b spare))) = (t, Some b)
remembered (Some (local.Chain (chain.PopBlock h))) = (h, None)
remembered (Some (local.Chain (chain.PopTail h b))) = (h, b)
remembered (Some (local.Chain (chain.Taking h b))) = (h, Some b)
remembered (Some (local.Chain (chain.Reading b i))) = (i, Some b)
remembered (Some (local.Chain (chain.Walking b i))) = (i, Some b)
remembered (Some (local.Chain (chain.Destroying b i))) = (i, Some b)
remembered _ = (0, None)

-- party p waits there for party q, as `IsWaitOf` has it, by where the calls stand
pub record WaitsThere (calls : List (List (Call ℕ))) (s : Standing) (p q : ℕ) : Type 0 where
  pub round : GoesRound s.kind s.world p
  pub back : IsSentBack s.kind s.world p
  pub there : q < length calls
  pub apart : p ≢ q
  pub half : (r : ℕ) → r < length calls → r ≢ p → is_half_done_at (local_in (call_at s.world r)) ≡ (r == q)

-- what that wait is known by
abbrev pub key_there : List (List (Call ℕ)) → Standing → ℕ → ℕ → SideKey × SideKey
key_there calls s p q = (side_key (side_at calls s p), side_key (side_at calls s q))

-- whoever party p waits for there, the wait is one of these
abbrev pub HasWaitsOf : List (List (Call ℕ)) → List (SideKey × SideKey) → Standing → ℕ → Type 0
HasWaitsOf calls keys s p = (q : ℕ) → WaitsThere calls s p q → Contains keys (key_there calls s p q)

-- so it is of each party
abbrev pub HasWaitsAt : List (List (Call ℕ)) → List (SideKey × SideKey) → Standing → Type 0
HasWaitsAt calls keys s = (p : ℕ) → p < length calls → HasWaitsOf calls keys s p
