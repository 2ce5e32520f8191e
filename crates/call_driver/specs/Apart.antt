-- Calls and replies whose value lies apart from their kind.
use Rattle.std.specs.Prelude.{◌≡◌, Option, Some}
use Rattle.queue_steps.specs.{declared.model.Call.Call, declared.model.Reply.Reply, Kinds.call_kind, Kinds.call_value, Kinds.filled, Sequential.Owned, Sequential.Sequential}

-- the call c is of the kind k, and carries x
abbrev pub IsCall : {T : Type 0} → Call Unit → Option T → Call T → Type 0
IsCall k x c = (k ≡ call_kind c) × (x ≡ call_value c)

-- there is a call of the kind k that carries x
abbrev pub FitsCall : {T : Type 0} → Call Unit → Option T → Type 0
FitsCall {T} k x = (c : Call T) × IsCall k x c

-- with one owner, the call c at P answers with a reply of the kind r and the value y, and leaves R
abbrev pub AnswersApart : {T : Type 0} → Owned T → Call T → Reply Unit → Option T → Owned T → Type 0
AnswersApart {T} P c r y R = (reply : Reply T) × (filled r y ≡ Some reply) × Sequential P c reply R

-- so does the call of the kind k that carries x
abbrev pub SequentialApart : {T : Type 0} → Owned T → Call Unit → Option T → Reply Unit → Option T → Owned T → Type 0
SequentialApart {T} P k x r y R = (c : Call T) → IsCall k x c → AnswersApart P c r y R
