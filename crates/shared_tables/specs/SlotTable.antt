-- One slot that parties share, as a kind of queue in a table: the word behind the count of parties is the slot's.
use Rattle.std.specs.Prelude.{None, ◌≡◌, ℕ, List, [], ◌∷◌, Option}
use mathlib.Core.Option.{some}
use mathlib.Core.Option as maybe
use Rattle.queue_laws.specs.{Common.Vocabulary.Kind, Slot.SlotShared.IsLock, Slot.SlotHolder.SlotHolder, Slot.SlotHolder.Nobody, Slot.SlotRows.Codes, Slot.SlotRows.At, Slot.SlotCells.Slot, Slot.SlotCells.queue_of, Slot.SlotCells.own_in, Slot.SlotCells.Passes, Slot.SlotCells.Lent}
use Rattle.shared_parties.specs.Calling.{CallsOf}
use Rattle.shared_tables.specs.TableRule.{TableOf}

-- what lies in a slot that nobody has; a slot that somebody has is out
abbrev pub home_under : {T : Type 0} → SlotHolder T → Option T → maybe.Option (Option T)
home_under Nobody x = some x
home_under _ x = maybe.none

-- the word and the slot stand for the queue, by what the party that has the lock is about to do
abbrev pub SlotCoded : {T : Type 0} → Slot T → List ℕ → List (maybe.Option (Option T)) → Type 0
SlotCoded {T} g ws hs = (word : ℕ) × (slot : Option T) × Codes word slot g.keeps.hold g.items g.closed × (ws ≡ word ∷ []) × (hs ≡ home_under g.keeps.hold slot ∷ [])

-- the calls on one slot
abbrev pub slot_calls : {T : Type 0} → CallsOf T
slot_calls {T} = record {
  kind = Kind.Single;
  Cells = Slot T;
  Ok = λ g. Unit {0};
  queue_of = λ g. queue_of g;
  At = λ g who ms was c. At c (own_in g who);
  Passes = λ who g s. Passes who g s;
  Lent = λ g who xs. Lent g who xs;
  Idle = λ g who. Lent g who [];
  Gives = λ spare. spare ≡ None;
}

abbrev pub slot_table : {T : Type 0} → TableOf T
slot_table = record {
  calls = slot_calls;
  HasWord = IsLock;
  place = λ w. 1;
  Coded = λ g ws hs. SlotCoded g ws hs;
}
