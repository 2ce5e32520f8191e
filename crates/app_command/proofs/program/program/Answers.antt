use Rattle.std.proofs.Common.{inl, inr, refl, map, string_bytes}
use Rattle.app_command.proofs.Asked.{Keeps-same}
use Rattle.app_command.proofs.program.program.Goals as goal

pub returns-in-Ok : goal.returns-in-Ok
returns-in-Ok g c = inl (record { words = map string_bytes c.in-Ok.words.items; asked = c.in-Ok.ensures; ends = c.command.ensures.end })

pub returns-in-Err : goal.returns-in-Err
returns-in-Err g c = inr (record { may = c.in-Err.ensures; status_is = c.lack_memory.ensures; nothing_shared = refl; quiet = Keeps-same _ })
