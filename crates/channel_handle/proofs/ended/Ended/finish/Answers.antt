use Rattle.std.proofs.Common.{rules}
use Rattle.channel_handle.proofs.ended.Ended.finish.Goals as goal

pub returns-in-Ok-finish : goal.returns-in-Ok-finish
returns-in-Ok-finish g c =
    let ended = rw (c.self.view_is) at c.in-Ok-finish.ensures in
    search (rules, ended)
