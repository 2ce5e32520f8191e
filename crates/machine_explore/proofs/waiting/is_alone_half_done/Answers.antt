use mathlib.Core.Bool.{beq, not}
use Rattle.std.proofs.Common.{◌≡◌, ◌≢◌, ◌==◌, ◌<◌, ◌∙◌, Bool, true, false, below_more, arith, refl, sym}
use Rattle.machine_replay.specs.Progress.{Between}
use Rattle.machine_explore.specs.Waiting.{is_half_done, stands_seen}
use Rattle.machine_explore.proofs.waiting.is_alone_half_done.Goals as goal
use Rattle.machine_explore.proofs.waiting.is_alone_half_done.Goals.{else-party-waiter-via-then-party-waiter+else-is_half-is_other, else-party-waiter-via-else-party-waiter}

not-apart : (a b : Bool) → not (beq a b) ≡ false → a ≡ b
not-apart true true h = refl
not-apart false false h = refl
not-apart true false h = h
not-apart false true h = sym h

pub loop-party-preserved : goal.loop-party-preserved
loop-party-preserved g c =
    let p = c.loop-party.party in
    let here : p ≢ c.args.waiter → is_half_done (stands_seen p Between c.args.entries.now) ≡ (p == c.args.other) = λ ne.
    elim c.else-party-waiter.branch [
      | else-party-waiter-via-then-party-waiter+else-is_half-is_other w ↦ sym c.is_half_done-is_half.ensures ∙ not-apart c.is_half_done-is_half.result (p == c.args.other) w.if-is_half-is_other.false
      | else-party-waiter-via-else-party-waiter w ↦ absurd (ne w.if-party-waiter.false)
    ] in
    below_more (λ q. q ≢ c.args.waiter → is_half_done (stands_seen q Between c.args.entries.now) ≡ (q == c.args.other)) p c.loop-party.invariant here

pub returns-clause-half : goal.returns-clause-half
returns-clause-half g c = λ yes q below. let over = c.loop-party-test.false in let within : q < c.loop-party.party = omega (arith, over, below) in c.loop-party.invariant q within
