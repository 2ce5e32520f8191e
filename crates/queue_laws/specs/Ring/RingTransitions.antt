-- What each step that changes a ring makes of it.
use Rattle.std.proofs.Common.{ℕ, ◌+◌, ◌%◌, true, Some, None, [], ◌∷◌, ◌++◌}
use Rattle.queue_steps.specs.Effect.{rest, with_coming}
use Rattle.queue_laws.specs.{Common.Puts.put, Ring.RingCells.Cell, Ring.RingCells.Written, Ring.RingCells.Read, Ring.RingCells.Coming, Ring.RingCells.Swapped, Ring.RingCells.Ring}

-- the push's exchange of the tail
abbrev pub appended : {A : Type 0} → ℕ → Ring A → ℕ → A → Ring A
appended cap r who v = record {
  head = r.head;
  tail = r.tail + 1;
  closed = r.closed;
  items = r.items ++ v ∷ [];
  coming = r.coming;
  cells = put r.cells (r.tail % cap) (Written r.tail who v);
}

-- the pop's exchange of the head
abbrev pub taken : {A : Type 0} → ℕ → Ring A → ℕ → A → Ring A
taken cap r who x = record {
  head = r.head + 1;
  tail = r.tail;
  closed = r.closed;
  items = rest r.items;
  coming = r.coming;
  cells = put r.cells (r.head % cap) (Read r.head who x);
}

-- a step that changes a slot alone
abbrev pub written : {A : Type 0} → Ring A → ℕ → Cell A → Ring A
written r i c = record { head = r.head; tail = r.tail; closed = r.closed; items = r.items; coming = r.coming; cells = put r.cells i c }

-- the displacing call's exchange of the head
abbrev pub fronted : {A : Type 0} → ℕ → Ring A → ℕ → A → A → Ring A
fronted cap r who old v = record {
  head = r.head + 1;
  tail = r.tail;
  closed = r.closed;
  items = rest r.items;
  coming = Some v;
  cells = put r.cells (r.head % cap) (Coming r.head who old v);
}

-- its addition to the tail
abbrev pub arrived : {A : Type 0} → ℕ → Ring A → ℕ → ℕ → A → A → Ring A
arrived cap r p who old v = record {
  head = r.head;
  tail = r.tail + 1;
  closed = r.closed;
  items = with_coming r.items r.coming;
  coming = None;
  cells = put r.cells (p % cap) (Swapped p who old v);
}

-- the mark on the tail
abbrev pub marked : {A : Type 0} → Ring A → Ring A
marked r = record { head = r.head; tail = r.tail; closed = true; items = r.items; coming = r.coming; cells = r.cells }
