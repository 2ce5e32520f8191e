use Rattle.std.proofs.Common.{◌≡◌, take}
use Rattle.machine_replay.specs.Progress.{Between}
use Rattle.machine_explore.specs.Waiting.{is_half_done, stands_seen}
use Rattle.machine_explore.proofs.waiting.is_half_done.Given as goal

abbrev pub invariant-loop-entry : goal.invariant-loop-entry
invariant-loop-entry g l = l.is_half ≡ is_half_done (stands_seen l.party Between (take l.entry-index l.entries))
