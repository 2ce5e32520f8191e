use Rattle.std.proofs.Common.{◌≡◌, ◌++◌, string_bytes}
use Rattle.std.specs.Fmt.{decimal}
use Rattle.app_explore.specs.Lanes.{columns}
use Rattle.app_explore.proofs.lanes.write_head.Given as goal

abbrev pub invariant-loop-party : goal.invariant-loop-party
invariant-loop-party g l = string_bytes l.text ≡ string_bytes l.fn.text ++ columns l.party-counter l.fn.grid.width decimal
