use Rattle.std.proofs.Common.{rules, ◌<◌, length, inl, inr, arith}
use Rattle.std.proofs.lemmas.List.{take_all}
use Rattle.app_text.proofs.ReadNumber.{extra_front, number_more, number_stops, number_all}
use Rattle.app_text.proofs.numbers.parse_number.Goals as goal

pub returns-then-is_empty : goal.returns-then-is_empty
returns-then-is_empty c = extra_front c.args.bytes.now (inl (search rules))

pub returns-then-bytes-gt1 : goal.returns-then-bytes-gt1
returns-then-bytes-gt1 c = extra_front c.args.bytes.now (inr (c.if-bytes-eq48.true, c.if-bytes-gt1.true))

pub loop-byte-preserved : goal.loop-byte-preserved
loop-byte-preserved c = number_more c.args.bytes.now c.loop-byte.byte-index c.loop-byte.value c.in_ok-value.value c.loop-byte-test.true c.loop-byte.invariant c.in_ok-value.ensures

pub returns-in_err-value : goal.returns-in_err-value
returns-in_err-value c = search (rules, number_stops c.args.bytes.now c.loop-byte.byte-index c.loop-byte.value c.loop-byte-test.true c.loop-byte.invariant c.in_err-value.ensures)

pub returns : goal.returns
returns c =
    let some : 0 < length c.args.bytes.now = search rules in
    let all = rw (take_all c.loop-byte.byte-index c.args.bytes.now c.loop-byte-test.false) at c.loop-byte.invariant in
    number_all c.args.bytes.now c.loop-byte.value all some
    (λ h. elim c.else-bytes-eq48.either [ inl p ↦ omega (arith, p, some) | inr e ↦ absurd (e h) ])
