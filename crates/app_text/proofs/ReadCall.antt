-- The texts of calls are read back.
use Rattle.std.proofs.Common.{◌≢◌, ℕ, List, refl, subst, IsUtf8}
use Rattle.queue_steps.specs.declared.model.Call.{Call, Call as call}
use Rattle.app_text.specs.Calls.{call_text, IsPlainCall}

-- the text of a call without a number is text
IsUtf8-plain : (c : Call ℕ) → IsPlainCall c → IsUtf8 (call_text c)
unfolding lib.Utf8.encode
IsUtf8-plain (call.Push n) h = absurd h
IsUtf8-plain (call.ForcePush n) h = absurd h
IsUtf8-plain c h = (call_text c, (refl, refl))

-- what is no text is no such call
pub no_plain_call : (line : List ℕ) → (IsUtf8 line → ⊥) → (c : Call ℕ) → IsPlainCall c → call_text c ≢ line
no_plain_call line h c plain same = h (subst {A = List ℕ} IsUtf8 same (IsUtf8-plain c plain))
