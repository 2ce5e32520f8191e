use Rattle.queue_steps.proofs.Keeping.{keeps_sound}
use Rattle.queue_steps.proofs.laws.keeps_sound.Goals as goal

pub returns : goal.returns
returns g c = keeps_sound
