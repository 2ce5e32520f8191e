-- The text of a call.
use Rattle.std.specs.Prelude.{ℕ, List, ◌++◌, codes}
use Rattle.std.specs.Fmt.{decimal}
use Rattle.queue_steps.specs.declared.model.Call.{Call, Call as call}
use Rattle.app_text.specs.Reading.{IsWord}

-- the line of a call
abbrev pub call_text : Call ℕ → List ℕ
call_text (call.Push n) = codes "push " ++ decimal n
call_text (call.ForcePush n) = codes "force " ++ decimal n
call_text call.Pop = codes "pop"
call_text call.Close = codes "close"
call_text call.IsClosed = codes "is_closed"
call_text call.IsEmpty = codes "is_empty"
call_text call.IsFull = codes "is_full"
call_text call.Len = codes "len"
call_text call.Capacity = codes "capacity"

-- the number that the call carries, if it carries one, is a word
abbrev pub IsCallOfWord : Call ℕ → Type 0
IsCallOfWord (call.Push n) = IsWord n
IsCallOfWord (call.ForcePush n) = IsWord n
IsCallOfWord _ = Unit {0}

-- the call carries no number
abbrev pub IsPlainCall : Call ℕ → Type 0
IsPlainCall (call.Push n) = ⊥
IsPlainCall (call.ForcePush n) = ⊥
IsPlainCall _ = Unit {0}
