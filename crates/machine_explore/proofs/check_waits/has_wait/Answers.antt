use Rattle.std.proofs.Common.{◌≡◌, ◌∙◌, ◌<◌, ap, arith, length, map, subst}
use Rattle.std.specs.Prelude.{Contains}
use Rattle.machine_explore.specs.{Waiting.side_at, Waiting.side_key, Waiting.wait_key, Waiting.wait_of, declared.waiting.Side.Side}
use Rattle.machine_explore.proofs.check_waits.has_wait.Goals as goal

pub returns-then-waiter-other : goal.returns-then-waiter-other
returns-then-waiter-other g c = λ yes there. absurd (there.apart c.if-waiter-other.true)

pub returns-then-not-is_alone : goal.returns-then-not-is_alone
returns-then-not-is_alone g c = λ yes there.
    let calls = c.args.program.now.parties.items in
    let count : c.len.result ≡ length calls = c.len.ensures ∙ c.args.program.now.parties.ok.0 in
    absurd (c.is_alone.ensures c.if-not-is_alone.true (λ r below ne. (let within : r < length calls = omega (arith, below, count) in there.half r within ne)))

pub returns : goal.returns
returns g c = λ yes there.
    let calls = c.args.program.now.parties.items in
    let s = c.args.position.now in
    let keys = map wait_key (map wait_of c.args.waits.now) in
    subst (λ y. Contains keys y)
    (ap (λ (x : Side). (side_key x, side_key c.side_of-2.result)) c.side_of.ensures ∙ ap (λ (x : Side). (side_key (side_at calls s c.args.waiter), side_key x)) c.side_of-2.ensures)
    (c.is_listed.ensures yes)
