use Rattle.std.proofs.Common.{◌≡◌, ℕ, ◌<◌, length}
use Rattle.machine_explore.specs.Positions.{calls_of, progress_of}
use Rattle.machine_explore.proofs.position.Position.has_begun_all.Given as goal

abbrev pub invariant-loop-party : goal.invariant-loop-party
invariant-loop-party g l = (p : ℕ) → p < l.party → (progress_of l.fn.self p).begun ≡ length (calls_of l.fn.program.parties.items p)
