use Rattle.std.proofs.Common.{refl, sym, ◌∙◌}
use Rattle.queue_steps.proofs.Masks.{and-power}
use Rattle.queue_steps.proofs.steps.ring.each.slot_of.Goals as goal

pub returns-then-is_power_of_two : goal.returns-then-is_power_of_two
returns-then-is_power_of_two c = and-power c.args.cap c.args.position (sym c.is_power_of_two.ensures ∙ c.if-is_power_of_two.true)

pub returns-else-is_power_of_two : goal.returns-else-is_power_of_two
returns-else-is_power_of_two c = refl
