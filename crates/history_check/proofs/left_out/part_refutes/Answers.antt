use Rattle.std.proofs.Common.{◌≡◌, ◌∙◌, ◌<◌, refl, false, length, arith}
use Rattle.std.specs.Prelude.{replicate}
use Rattle.queue_steps.specs.declared.sizes.TheConstants.{LIMIT}
use Rattle.history_check.specs.{Legal.IsLegal, LeftOut.is_among, LeftOut.remaining, LeftOut.without_capacity}
use Rattle.history_check.proofs.LeftOut.{whole_refuted}
use Rattle.history_check.proofs.left_out.part_refutes.Goals as goal

pub returns-in-Nothing : goal.returns-in-Nothing
returns-in-Nothing g c = λ yes legal.
    let rest : c.in-Some.rest.items ≡ remaining (is_among c.args.kept.now) c.args.looks (replicate c.args.parties false) c.args.events.now = rw c.in-Some.is at c.in_ok-rest.ensures in
    let never : IsLegal (without_capacity c.args.rules) c.args.parties c.deref.result.now → ⊥ = rw c.in-Nothing.is at c.in_ok-find_order.ensures in
    let short : length c.args.events.now < LIMIT = omega arith in
    whole_refuted (is_among c.args.kept.now) c.args.looks c.args.rules c.args.parties c.args.events.now c.deref.result.now short (c.if-not-are_plain.ensures refl) (c.deref.ensures.value ∙ rest) never legal
