use Rattle.std.proofs.Common.{take}
use Rattle.app_text.proofs.ReadNumber.{IsNumber}
use Rattle.app_text.proofs.numbers.parse_number.Given as goal

-- the bytes so far are digits, and `value` is their number
abbrev pub invariant-loop-byte : goal.invariant-loop-byte
invariant-loop-byte l = IsNumber (take l.byte-index l.bytes) l.value
