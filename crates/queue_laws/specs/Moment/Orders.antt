-- An order of whole calls: all effects of a call stand before those of the next one. Such an order is a run of the table of one owner.
use Rattle.std.specs.Prelude.{◌≡◌, ℕ, true, List, [], ◌∷◌, ◌++◌, Option, Some, Ok, Err}
use Rattle.queue_steps.specs.{State.State, State.start, Effect.IsHistory, Effect.after_from, Effect.after, Replies.Allows, Replies.Tells, Legal.IsShown, Sequential.Owned, Sequential.fresh, Sequential.SequentialRun}
use Rattle.queue_laws.specs.{Common.Vocabulary.Call, Common.Vocabulary.Reply, Common.Vocabulary.Effect, Common.Vocabulary.PushError, Moment.Moments.IsAtOnce, Moment.Moments.settled, Moment.Moments.arrived}

-- a call with its reply and its effects
pub record Whole (T : Type 0) : Type 0 where
  pub call : Call T
  pub reply : Reply T
  pub effects : List (Effect T)

abbrev pub calls_of : {T : Type 0} → List (Whole T) → List (Call T)
calls_of [] = []
calls_of (x ∷ xs) = x.call ∷ calls_of xs

abbrev pub replies_of : {T : Type 0} → List (Whole T) → List (Reply T)
replies_of [] = []
replies_of (x ∷ xs) = x.reply ∷ replies_of xs

abbrev pub effects_of : {T : Type 0} → List (Whole T) → List (Effect T)
effects_of [] = []
effects_of (x ∷ xs) = x.effects ++ effects_of xs

-- from the state Q on, each call's effects are those that its reply stands for, and a reply without effect is allowed where its call stands
abbrev pub IsOrder : {T : Type 0} → State T → List (Whole T) → Type 0
IsOrder Q [] = Unit {0}
IsOrder Q (x ∷ xs) = Tells x.call x.reply x.effects × (x.effects ≡ [] → Allows x.call x.reply Q) × IsOrder (after_from Q x.effects) xs

-- the calls with their replies are a run of the table of one owner, from an empty queue to this state; a queue of one slot with one owner keeps no count
pub record RunsAsOne {T : Type 0} (cap : Option ℕ) (order : List (Whole T)) (end : State T) : Type 0 where
  pub last : Owned T
  pub run : SequentialRun (fresh cap) (calls_of order) (replies_of order) last
  pub shown : IsShown last.queue end

-- an order of whole calls whose effects are a history of moments is such a run
abbrev pub OrdersAreRuns : Type 0 → Type 0
OrdersAreRuns T = (cap : Option ℕ) (order : List (Whole T)) → IsAtOnce cap (effects_of order) → IsOrder (start cap 0) order → RunsAsOne cap order (after cap (effects_of order))

-- A call for each moment of a history: a displacement is one forced push, which answers the old item. A push that finds all accepted brings the item v.
abbrev pub one_by_one : {T : Type 0} → T → List (Effect T) → List (Whole T)
one_by_one v [] = []
one_by_one v (Effect.Append w ∷ es) = record { call = Call.Push w; reply = Reply.Push (Ok tt); effects = Effect.Append w ∷ [] } ∷ one_by_one v es
one_by_one v (Effect.Take w ∷ es) = record { call = Call.Pop; reply = Reply.Pop (Ok w); effects = Effect.Take w ∷ [] } ∷ one_by_one v es
one_by_one v (Effect.Replace old w ∷ es) = record { call = Call.ForcePush w; reply = Reply.ForcePush (Ok (Some old)); effects = Effect.Replace old w ∷ [] } ∷ one_by_one v es
one_by_one v (Effect.Front old w ∷ es) = record { call = Call.ForcePush w; reply = Reply.ForcePush (Ok (Some old)); effects = Effect.Front old w ∷ Effect.Arrive ∷ [] } ∷ one_by_one v es
one_by_one v (Effect.Arrive ∷ es) = one_by_one v es
one_by_one v (Effect.Close ∷ es) = record { call = Call.Close; reply = Reply.Close true; effects = Effect.Close ∷ [] } ∷ one_by_one v es
one_by_one v (Effect.SelfClose ∷ es) = record { call = Call.Push v; reply = Reply.Push (Err (PushError.Closed v)); effects = Effect.SelfClose ∷ [] } ∷ one_by_one v es

-- what a history settles into is a run of the table of one owner, to what the history leaves once all has arrived
abbrev pub SettledIsRun : Type 0 → Type 0
SettledIsRun T = (cap : Option ℕ) (h : List (Effect T)) (v : T) → IsHistory cap h → (effects_of (one_by_one v (settled h [])) ≡ settled h []) × RunsAsOne cap (one_by_one v (settled h [])) (arrived (after cap h))
