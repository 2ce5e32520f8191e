use Rattle.queue_steps.proofs.steps.ring.each.popping.take.Goals as goal

pub returns : goal.returns
returns g c = search
