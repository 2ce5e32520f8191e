-- Where a call stands between two of its steps.
use Rattle.std.proofs.Common.{ℕ, Option, Some, None, List, []}
use Rattle.queue_laws.specs.Common.{Vocabulary.Call, Vocabulary.Effect, Vocabulary.Op, Vocabulary.Touch, Vocabulary.Local, Vocabulary.PushKind, Pushes.pushes}

-- its local state, what its next step touches and the operation that follows, what it carries, which call it is, and its effects so far
pub record Stand (T : Type 0) : Type 0 where
  pub local : Local ℕ
  pub touch : Touch
  pub op : Op ℕ
  pub carried : Option T
  pub call : Call T
  pub effects : List (Effect T)

abbrev pub stand : {T : Type 0} → Local ℕ → Touch → Op ℕ → Option T → Call T → List (Effect T) → Stand T
stand l t o v k es = record { local = l; touch = t; op = o; carried = v; call = k; effects = es }

-- a call that carries nothing, touches nothing and has had no effect
abbrev pub empty_handed : {T : Type 0} → Local ℕ → Op ℕ → Call T → Stand T
empty_handed l o k = stand l Touch.Nothing o None k []

-- a push of v that touches nothing and has had no effect
abbrev pub brings : {T : Type 0} → Local ℕ → Op ℕ → PushKind → T → Stand T
brings l o d v = stand l Touch.Nothing o (Some v) (pushes d v) []
