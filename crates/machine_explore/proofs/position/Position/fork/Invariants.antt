use Rattle.std.proofs.Common.{◌≡◌, length, take, vec_len, vec_capacity}
use Rattle.machine_explore.proofs.position.Position.fork.Given as goal

abbrev pub invariant-loop-party : goal.invariant-loop-party
invariant-loop-party g l =
    record {
      items : l.parties.items ≡ take l.party-index l.fn.self.parties;
      len : vec_len l.parties ≡ l.party-index;
      room : vec_capacity l.parties ≡ length l.fn.self.parties;
    }
