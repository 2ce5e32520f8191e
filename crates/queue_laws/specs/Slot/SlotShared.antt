-- The word and the slot as a value, and what one step of a call does to them.
use Rattle.std.specs.Prelude.{ℕ, ◌<◌, Option}
use Rattle.queue_laws.specs.Common.{Vocabulary.Word, Vocabulary.Op, Vocabulary.Touch, Vocabulary.Answer, Operations.OnWord, Operations.op_makes, Operations.answer_for}

pub record Shared (T : Type 0) : Type 0 where
  pub lock : ℕ
  pub slot : Option T

abbrev pub one_slot : {T : Type 0} → ℕ → Option T → Shared T
one_slot w x = record { lock = w; slot = x }

-- there is one word
abbrev pub IsLock : Word ℕ → Type 0
IsLock Word.Lock = Unit {0}
IsLock _ = ⊥

-- the operation is one on it. No call stores there or adds
abbrev pub CanOperate : Op ℕ → Type 0
CanOperate (Op.Store w x) = ⊥
CanOperate (Op.Add w x) = ⊥
CanOperate o = OnWord IsLock o

-- what the operation answers
abbrev pub answered : {T : Type 0} → Shared T → Op ℕ → Answer ℕ
answered s o = answer_for o s.lock

-- what is shared after the operation
abbrev pub operated : {T : Type 0} → Shared T → Op ℕ → Shared T
operated s o = record s { lock = op_makes o s.lock }

-- there is one slot
abbrev pub CanTouch : Touch → Type 0
CanTouch Touch.Nothing = Unit {0}
CanTouch (Touch.Put i) = i < 1
CanTouch (Touch.Swap i) = i < 1
CanTouch (Touch.Take i) = i < 1

-- what is shared after the touch of a call that carries v: put, swap and take all exchange what is in the slot and what is carried
abbrev pub touched : {T : Type 0} → Shared T → Touch → Option T → Shared T
touched s Touch.Nothing v = s
touched s (Touch.Put i) v = record s { slot = v }
touched s (Touch.Swap i) v = record s { slot = v }
touched s (Touch.Take i) v = record s { slot = v }

-- what the call carries then
abbrev pub handed : {T : Type 0} → Shared T → Touch → Option T → Option T
handed s Touch.Nothing v = v
handed s (Touch.Put i) v = s.slot
handed s (Touch.Swap i) v = s.slot
handed s (Touch.Take i) v = s.slot
