-- Short histories of a ring of two, what they settle into, and what does not hold.
use Rattle.std.specs.Prelude.{◌≡◌, ℕ, ◌+◌, true, List, [], ◌∷◌, ◌++◌, Option, Some, Ok}
use Rattle.queue_laws.specs.{Common.Vocabulary.Call, Common.Vocabulary.Reply, Common.Vocabulary.Effect, Moment.Moments.IsAtOnce, Moment.Moments.settled, Moment.Entries.KeepsFronts, Moment.Entries.own_of, Moment.Entries.state_before, Moment.Shared.numbered, Moment.Shared.settled_history}
use Rattle.queue_laws.specs.Moment.{Shared.is_own, Orders.calls_of, Orders.replies_of, Orders.one_by_one}
use Rattle.queue_steps.specs.{Effect.IsHistory, Effect.after, Replies.Allows, Sequential.Owned, Sequential.fresh, Sequential.SequentialRun}

-- the history of the ring that is filled by 1 and 2, and then goes through these effects
abbrev pub filled : List (Effect ℕ) → List (Effect ℕ)
filled es = Effect.Append 1 ∷ Effect.Append 2 ∷ es

-- a history of the ring, and the history of moments into which it settles
abbrev pub SettlesAs : List (Effect ℕ) → List (Effect ℕ) → Type 0
SettlesAs h s = IsHistory (Some 2) h × (settled h [] ≡ s) × IsAtOnce (Some 2) s

-- 3 displaces 1 behind a close: the places are 0 and 1 of the items, 2 of the close, 3 and 4 of the displacement
abbrev pub closing : List (Effect ℕ)
closing = filled (Effect.Close ∷ Effect.Front 1 3 ∷ Effect.Arrive ∷ [])

-- two displacements behind one close
abbrev pub closing_twice : List (Effect ℕ)
closing_twice = filled (Effect.Close ∷ Effect.Front 1 3 ∷ Effect.Arrive ∷ Effect.Front 2 4 ∷ Effect.Arrive ∷ Effect.Take 3 ∷ [])

-- 3 displaces 1: the places are 2 and 3
abbrev pub displacing : List (Effect ℕ)
displacing = filled (Effect.Front 1 3 ∷ Effect.Arrive ∷ [])

-- what would be said of all calls alike, the glances with them
abbrev pub AllRightAtOnce : Type 0 → Type 0
AllRightAtOnce T = (cap : Option ℕ) (es next : List (Effect T)) → IsHistory cap (es ++ next) → (c : Call T) (r : Reply T) → Allows c r (after cap es) → Allows c r (after cap (settled es next))

-- the calls that fill the ring, then these two, are answered so by one owner's queue in no order
abbrev pub NoOrder : Call ℕ → Reply ℕ → Call ℕ → Reply ℕ → Type 0
NoOrder c r d s = (last : Owned ℕ) → ¬ (SequentialRun (fresh (Some 2)) (Call.Push 1 ∷ Call.Push 2 ∷ c ∷ d ∷ []) (Reply.Push (Ok tt) ∷ Reply.Push (Ok tt) ∷ r ∷ s ∷ []) last)

pub record Examples : Type 0 where
  -- a take between a front and its arrive; a displacement behind a close, and two of them; a front whose item has not arrived
  pub taken_between : SettlesAs (filled (Effect.Front 1 3 ∷ Effect.Take 2 ∷ Effect.Arrive ∷ [])) (filled (Effect.Front 1 3 ∷ Effect.Arrive ∷ Effect.Take 2 ∷ []))
  pub behind_a_close : SettlesAs closing (filled (Effect.Front 1 3 ∷ Effect.Arrive ∷ Effect.Close ∷ []))
  pub two_behind_a_close : SettlesAs closing_twice (filled (Effect.Front 1 3 ∷ Effect.Arrive ∷ Effect.Front 2 4 ∷ Effect.Arrive ∷ Effect.Close ∷ Effect.Take 3 ∷ []))
  pub under_way : SettlesAs (filled (Effect.Front 1 3 ∷ [])) (filled (Effect.Front 1 3 ∷ Effect.Arrive ∷ []))
  -- the third as an order of whole calls
  pub calls : calls_of (one_by_one 0 (settled closing_twice [])) ≡ Call.Push 1 ∷ Call.Push 2 ∷ Call.ForcePush 3 ∷ Call.ForcePush 4 ∷ Call.Close ∷ Call.Pop ∷ []
  pub replies : replies_of (one_by_one 0 (settled closing_twice []))
      ≡ Reply.Push (Ok tt) ∷ Reply.Push (Ok tt) ∷ Reply.ForcePush (Ok (Some 1)) ∷ Reply.ForcePush (Ok (Some 2)) ∷ Reply.Close true ∷ Reply.Pop (Ok 3) ∷ []
  -- no history of moments: an arrive that is left behind a take, a displacement that is left behind a close
  pub left_behind_a_take : ¬ (IsAtOnce (Some 2) (filled (Effect.Front 1 3 ∷ Effect.Take 2 ∷ Effect.Arrive ∷ [])))
  pub left_behind_a_close : ¬ (IsAtOnce (Some 2) closing)
  -- a call that begins at the close has its displacement within it there; one that begins behind it has not, and is none that may be so
  pub begun_at_the_close : own_of (is_own (3 ∷ 4 ∷ []) 2 5) (settled_history closing) ≡ Effect.Front 1 3 ∷ Effect.Arrive ∷ []
  pub begun_behind_the_close : (own_of (is_own (3 ∷ 4 ∷ []) 3 5) (settled_history closing) ≡ []) × ¬ (KeepsFronts (is_own (3 ∷ 4 ∷ []) 3 5) (numbered 0 closing))
  -- `len` is right to answer 1 of the full ring in the middle of a displacement, and nowhere once that is one moment: at no place from the second item on, and in no order of the calls
  pub len_in_the_middle : Allows Call.Len (Reply.Len 1) (state_before (Some 2) (numbered 0 displacing) 3)
  pub len_nowhere : (n : ℕ) → ¬ (Allows Call.Len (Reply.Len 1) (state_before (Some 2) (settled_history displacing) (2 + n)))
  pub len_before : NoOrder Call.Len (Reply.Len 1) (Call.ForcePush 3) (Reply.ForcePush (Ok (Some 1)))
  pub len_behind : NoOrder (Call.ForcePush 3) (Reply.ForcePush (Ok (Some 1))) Call.Len (Reply.Len 1)
  pub not_of_glances : ¬ (AllRightAtOnce ℕ)
