use Rattle.queue_steps.proofs.steps.ring.each.popping.empty.Goals as goal

pub returns : goal.returns
returns g c = search (c.step.ensures, c.slot_of-slot.ensures)
