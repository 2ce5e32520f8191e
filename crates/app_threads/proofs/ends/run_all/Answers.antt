use Rattle.std.proofs.Common.{◌≤◌, ◌+◌, ◌*◌, arith}
use Rattle.std.proofs.Math.Nat.{mul-le-mul_right}
use Rattle.app_threads.proofs.ends.run_all.Goals as goal

pub run-ran-requires-clause-fits : goal.run-ran-requires-clause-fits
run-ran-requires-clause-fits g c = λ _ _ k le.
    let plan = c.args.plan in
    let few : k * plan.share ≤ (plan.pushers + plan.poppers) * plan.share = mul-le-mul_right plan.share le in omega (arith, few, c.requires.few)
