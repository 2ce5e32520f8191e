use Rattle.std.proofs.Common.{rules, tests}
use Rattle.machine_replay.proofs.run.Lists.note.Goals as goal

pub returns-in-Some-reply-clause-replies : goal.returns-in-Some-reply-clause-replies
returns-in-Some-reply-clause-replies g c = search (rules, tests)
