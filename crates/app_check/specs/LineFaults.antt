-- Why a line of a history is no event that may come there, and what is written of it.
use Rattle.std.specs.Prelude.{◌≡◌, ◌≢◌, ◌⊎◌, ℕ, ◌<◌, List, [], ◌∷◌, ◌++◌, codes, Option, Some, None, slice_get}
use Rattle.std.specs.Fmt.{decimal}
use Rattle.queue_steps.specs.declared.model.{Call.Call, Call.Call as call, Reply.Reply}
use Rattle.app_text.specs.{Calls.call_text, Calls.IsCallOfWord, Replies.reply_text}
use Rattle.app_check.specs.{Replies.IsReplyOf, declared.line_faults.LineFault.LineFault, declared.line_faults.LineFault.LineFault as wrong, declared.reading.TheConstants.MOST_PARTIES}

-- the replies that a call may have
abbrev pub replies_text : Call ℕ → List ℕ
replies_text (call.Push v) = codes "ok, full N, closed N or no memory N"
replies_text (call.ForcePush v) = codes "ok, displaced N, closed N or no memory N"
replies_text call.Pop = codes "item N, empty or closed"
replies_text call.Len = codes "N"
replies_text call.Capacity = codes "N or none"
replies_text c = codes "true or false"

abbrev pub line_fault_text : LineFault → List ℕ
line_fault_text wrong.Party = codes "party: 0 to 4095, then one space"
line_fault_text wrong.Call = codes "call: push N, force N, pop, close, is_closed, is_empty, is_full, len or capacity; N is 0 to 18446744073709551615"
line_fault_text wrong.NoCall = codes "reply: the party is in no call"
line_fault_text wrong.InCall = codes "call: the party is in one, which = and a reply end"
line_fault_text (wrong.Reply c) = codes "reply of " ++ call_text c ++ codes ": " ++ replies_text c
line_fault_text wrong.Blank = codes "end: a blank or a carriage return"

-- a space, a tab or a carriage return
abbrev pub IsBlank : ℕ → Type 0
IsBlank b = (b ≡ 32) ⊎ (b ≡ 9) ⊎ (b ≡ 13)

-- why this is not what comes next of a party that is in this call, or in none
abbrev pub IsNextFault : Option (Call ℕ) → List ℕ → LineFault → Type 0
IsNextFault None text wrong.Call = (c : Call ℕ) → IsCallOfWord c → call_text c ≢ text
IsNextFault None text wrong.NoCall = (told : List ℕ) × (text ≡ codes "= " ++ told)
IsNextFault (Some c) text wrong.InCall = (told : List ℕ) → text ≢ codes "= " ++ told
IsNextFault (Some c) text (wrong.Reply d) = (d ≡ c) × ((told : List ℕ) × (text ≡ codes "= " ++ told) × ((r : Reply ℕ) → IsReplyOf c r → reply_text r ≢ told))
IsNextFault now text why = ⊥

-- why the line is no event that may come where the parties are in these calls
abbrev pub IsLineFault : List (Option (Call ℕ)) → List ℕ → LineFault → Type 0
IsLineFault calls line wrong.Party = (p : ℕ) (text : List ℕ) → p < MOST_PARTIES → line ≢ decimal p ++ 32 ∷ text
IsLineFault calls line wrong.Blank = (text : List ℕ) × (b : ℕ) × IsBlank b × (line ≡ text ++ b ∷ [])
IsLineFault calls line why = (p : ℕ) × (text : List ℕ) × (now : Option (Call ℕ)) × (line ≡ decimal p ++ 32 ∷ text) × (slice_get calls p ≡ Some now) × IsNextFault now text why
