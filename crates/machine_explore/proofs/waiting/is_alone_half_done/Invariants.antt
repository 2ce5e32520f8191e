use Rattle.std.proofs.Common.{◌≡◌, ◌≢◌, ◌==◌, ◌<◌, ℕ}
use Rattle.machine_replay.specs.Progress.{Between}
use Rattle.machine_explore.specs.Waiting.{is_half_done, stands_seen}
use Rattle.machine_explore.proofs.waiting.is_alone_half_done.Given as goal

abbrev pub invariant-loop-party : goal.invariant-loop-party
invariant-loop-party g l = (q : ℕ) → q < l.party → q ≢ l.fn.waiter → is_half_done (stands_seen q Between l.fn.entries) ≡ (q == l.fn.other)
