use Rattle.queue_steps.proofs.TableRows.{sequential_stands}
use Rattle.queue_steps.proofs.laws.sequential_stands.Goals as goal

pub returns : goal.returns
returns g c = sequential_stands
