use Rattle.std.proofs.Common.{◌≡◌, ◌++◌, take, string_bytes}
use Rattle.std.specs.List.{flat_map}
use Rattle.app_explore.specs.Tails.{with_space}
use Rattle.app_explore.proofs.tails.write_parties.Given as goal

abbrev pub invariant-loop-party : goal.invariant-loop-party
invariant-loop-party g l = string_bytes l.text ≡ string_bytes l.fn.text ++ flat_map with_space (take l.party-index l.parties)
