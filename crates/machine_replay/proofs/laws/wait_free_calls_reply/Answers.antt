use Rattle.machine_replay.proofs.Progress.AloneRun.{wait_free_calls}
use Rattle.machine_replay.proofs.laws.wait_free_calls_reply.Goals as goal

pub returns : goal.returns
returns g c = wait_free_calls
