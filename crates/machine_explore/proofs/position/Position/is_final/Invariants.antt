use Rattle.std.proofs.Common.{◌≡◌, ℕ, ◌<◌, length}
use Rattle.machine_explore.specs.Positions.{calls_of, progress_of}
use Rattle.machine_explore.proofs.position.Position.is_final.Given as goal

abbrev pub invariant-loop-party : goal.invariant-loop-party
invariant-loop-party g l = (p : ℕ) → p < l.party → length (progress_of l.fn.self p).replies ≡ length (calls_of l.fn.program.parties.items p)
