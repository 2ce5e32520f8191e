use Rattle.std.proofs.Common.{rules}
use Rattle.exclusive_queue.proofs.calls.store.Store.force_push.Goals as goal

pub returns-clause-sequential : goal.returns-clause-sequential
returns-clause-sequential g c = search rules
