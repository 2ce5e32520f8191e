use Rattle.std.proofs.Common.{◌≡◌, ℕ, length, map, take, vec_len, vec_capacity}
use Rattle.machine_explore.specs.Positions.{Progress}
use Rattle.machine_explore.proofs.position.Position.outcome.Given as goal

abbrev pub invariant-loop-party : goal.invariant-loop-party
invariant-loop-party g l =
    record {
      items : l.replies.items ≡ map (λ (g : Progress ℕ). g.replies) (take l.party-index l.fn.self.parties);
      len : vec_len l.replies ≡ l.party-index;
      room : vec_capacity l.replies ≡ length l.fn.self.parties;
    }
