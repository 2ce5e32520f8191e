use Rattle.machine_replay.proofs.Replays.BookRuns.{runs_have_books}
use Rattle.machine_replay.proofs.books.runs_have_books.Goals as goal

pub returns : goal.returns
returns g c = runs_have_books
