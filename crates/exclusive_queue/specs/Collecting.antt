-- A queue of a list of items.
use Rattle.std.specs.Prelude.{List, length, None}
use Rattle.queue_steps.specs.State.{State, start}

-- open, without a capacity, with these items, and no others were accepted
abbrev pub queued : {T : Type 0} → List T → State T
queued items = record (start None (length items)) { items = items }
