use Rattle.exclusive_queue.proofs.Soundness.{sound}
use Rattle.exclusive_queue.proofs.exclusive.ExclusiveSealed.show_sound.Goals as goal

pub returns : goal.returns
returns g c = rw (← c.self.view_is) (sound c.self.inside.form c.self.invariant)
