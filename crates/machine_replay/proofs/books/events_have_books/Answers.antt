use Rattle.machine_replay.proofs.Replays.BookRuns.{events_have_books}
use Rattle.machine_replay.proofs.books.events_have_books.Goals as goal

pub returns : goal.returns
returns g c = events_have_books
