use Rattle.std.proofs.Common.{rules, ◌≡◌, Some, refl}
use Rattle.app_threads.specs.Counts.{first_wrong}
use Rattle.app_threads.proofs.counts.judge.Goals as goal

pub returns-in-Some : goal.returns-in-Some
returns-in-Some c =
    let wrong : first_wrong c.args.pushers c.args.counts.now ≡ Some c.in-Some.value = search rules in
    rw wrong refl
