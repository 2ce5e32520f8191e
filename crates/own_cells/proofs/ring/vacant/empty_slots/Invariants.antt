use Rattle.std.proofs.Common.{◌≡◌, replicate, None, vec_len, vec_capacity}
use Rattle.own_cells.proofs.ring.vacant.empty_slots.Given as goal

-- the slots so far are empty, and there is room for the others
abbrev pub invariant-loop-slot : goal.invariant-loop-slot
invariant-loop-slot g l = record {
  empty : l.slots.items ≡ replicate l._slot None;
  len : vec_len l.slots ≡ l._slot;
  room : vec_capacity l.slots ≡ l.fn.count;
}
