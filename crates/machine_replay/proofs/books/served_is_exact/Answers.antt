use Rattle.machine_replay.proofs.Replays.Serving.{served_is_exact}
use Rattle.machine_replay.proofs.books.served_is_exact.Goals as goal

pub returns : goal.returns
returns g c = served_is_exact
