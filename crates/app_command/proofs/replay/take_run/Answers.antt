use Rattle.std.proofs.Common.{◌≡◌, ◌+◌, ◌-◌, ℕ, true, false, replicate, string_bytes, subst, arith}
use Rattle.std.proofs.lemmas.Grind.{common_steps}
use Rattle.queue_steps.specs.declared.sizes.TheConstants.{STEPS_ALONE}
use Rattle.app_command.{specs.Takes.Takes, proofs.Taking.takes-again, proofs.Taking.takes-rest, proofs.Taking.skips-run}
use Rattle.app_command.proofs.replay.take_run.Goals as goal

pub returns-then-not-is_in_call : goal.returns-then-not-is_in_call
returns-then-not-is_in_call g c =
    let off : c.is_in_call.result ≡ false = grind (arith, common_steps) in
    let sum : c.loop.counter + (STEPS_ALONE - c.loop.counter) ≡ STEPS_ALONE = omega (arith, c.loop-test.true) in
    takes-again c.loop.counter (STEPS_ALONE - c.loop.counter) STEPS_ALONE c.args.turn c.args.run.now c.loop.run c.loop.run (string_bytes c.args.text.now) (string_bytes c.loop.text) (string_bytes c.loop.text) sum c.loop.invariant
    (takes-rest (STEPS_ALONE - c.loop.counter) c.args.turn c.loop.run (string_bytes c.loop.text) c.requires.action (skips-run c.args.turn c.loop.run c.requires.action (c.is_in_call.ensures.skips off true)))

pub loop-preserved : goal.loop-preserved
loop-preserved g c =
    takes-again c.loop.counter 1 (c.loop.counter + 1) c.args.turn c.args.run.now c.loop.run c.take_turn.new.run (string_bytes c.args.text.now) (string_bytes c.loop.text) (string_bytes c.take_turn.new.text) (omega arith) c.loop.invariant c.in_ok-take_turn.ensures

pub returns : goal.returns
returns g c =
    let end : c.loop.counter ≡ STEPS_ALONE = omega (arith, c.loop-test.false, c.loop.auto.counter-end) in
    subst {A = ℕ} (λ n. Takes (replicate n c.args.turn) c.args.run.now (string_bytes c.args.text.now) c.loop.run (string_bytes c.loop.text)) end c.loop.invariant
