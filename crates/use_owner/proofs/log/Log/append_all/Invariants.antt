use Rattle.std.proofs.Common.{◌≡◌, take}
use Rattle.use_owner.specs.Log.{with_all}
use Rattle.use_owner.proofs.log.Log.append_all.Given as goal

-- the entries so far were appended
abbrev pub invariant-loop-entry : goal.invariant-loop-entry
invariant-loop-entry g l = l.self ≡ with_all l.fn.self (take l.entry-index l.entries)
