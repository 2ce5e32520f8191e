-- What a step of a call on a shared table asks of a party's seat, and what it tells; and so where a call stands for the driver.
use Rattle.std.specs.Prelude.{◌≡◌, ℕ, Option, Some, None}
use Rattle.queue_laws.specs.Common.{Vocabulary.Call, Vocabulary.Reply, Vocabulary.Op, Vocabulary.Touch, Vocabulary.Answer, Vocabulary.Local, Vocabulary.Next, Operations.answer_for}
use Rattle.queue_steps.specs.{Kinds.filled, Next.CanNext, Next.next_of, Parties.SharedCall}
use Rattle.shared_parties.specs.{declared.known.InCall.InCall, declared.known.Work.Work as work, CallsAt.begun_at, CallsAt.Ready, CallStates.HasAll, Calling.cap_of, Calling.handed_by, Calling.HasTouched, Calling.touched_list, Called.called_at}
use Rattle.shared_tables.specs.{Seats.Seated, Seats.Rests, Seats.view_at, TableRule.TableOf, TableRule.InTable, AtTable.TableSeat, AtTable.Ended}
use Rattle.atomic_table.specs.Seated.{TableId}

-- the call is at its next step, with v carried; or it ended as a shared call
abbrev pub After : {T : Type 0} → TableOf T → InCall T → Option T → Next ℕ → Seated T → Type 0
After {T} K c v (Next.Step l t o) m = (d : InCall T) × (m.0.work ≡ work.Calls d) × (d.local ≡ l) × (d.touch ≡ t) × (d.op ≡ o) × (d.carried ≡ v) × (d.call ≡ c.call) × (begun_at d ≡ begun_at c) × (m.1 ≡ d.lends) × HasTouched t d.lends × InTable K o
After {T} K c v (Next.Reply x spare) m = (spare ≡ None) × ((y : Reply T) × (filled x v ≡ Some y) × Rests m × (m.0.known.cap ≡ cap_of K.calls) × HasAll m.0 × SharedCall (cap_of K.calls) (begun_at c) (view_at m) c.call y)

-- what the step of the call c tells its seat, where it found n
abbrev pub Follows : {T : Type 0} → TableOf T → InCall T → ℕ → Seated T → Type 0
Follows K c n m = CanNext K.calls.kind c.local (answer_for c.op n) × After K c (handed_by c.touch c.carried c.lends) (next_of K.calls.kind c.local (answer_for c.op n)) m

-- the call that a seat is at, or is about to begin
abbrev pub call_at : {T : Type 0} → Seated T → Call Unit → Local ℕ → Touch → Op ℕ → Option T → InCall T
call_at m k l u o x = called_at m.0 k l u o x

-- the seat m at the call c may do this step
pub record CanDo {T : Type 0} (K : TableOf T) (m : Seated T) (l : Local ℕ) (u : Touch) (o : Op ℕ) (x : Option T) (c : InCall T) : Type 0 where
  pub local : c.local ≡ l
  pub touch : c.touch ≡ u
  pub op : c.op ≡ o
  pub carried : c.carried ≡ x
  pub ready : Ready K.calls m.0 c
  pub lends : m.1 ≡ c.lends
  pub touched : HasTouched u c.lends
  pub word : InTable K o

-- the seat has its slot touched, and may do the operation
abbrev pub CanOperate : {T : Type 0} → TableOf T → Seated T → Op ℕ → InCall T → Type 0
CanOperate K m o c = Ready K.calls m.0 c × (m.1 ≡ touched_list c.touch c.carried c.lends) × (c.op ≡ o) × InTable K o

-- no reply of a call on a table hands out a block; a block that were given up would leave the seat as it is
abbrev pub NoBlock : {T : Type 0} → TableId → TableSeat T → ℕ → Type 0
NoBlock t p b = ⊥

abbrev pub NoGift : {T : Type 0} → TableId → TableSeat T → ℕ → TableSeat T → Type 0
NoGift t p b q = q ≡ p

-- K tells the kind of a table by its number of slots
module _ {T : Type 0} (K : ℕ → TableOf T) where
  abbrev pub TableCan : TableId → TableSeat T → Call Unit → Local ℕ → Touch → Op ℕ → Option T → Type 0
  TableCan t p k l u o x = (p.0 ≡ t) × CanDo (K t.slots) p.1 l u o x (call_at p.1 k l u o x)

  abbrev pub TableDoes : TableId → TableSeat T → Call Unit → Local ℕ → Touch → Op ℕ → Option T → Answer ℕ → TableSeat T → Option T → Type 0
  TableDoes t p k l u o x a q y =
      (q.0 ≡ p.0) × ((n : ℕ) × (a ≡ answer_for o n) × (y ≡ handed_by u x (call_at p.1 k l u o x).lends) × Follows (K t.slots) (call_at p.1 k l u o x) n q.1)

  -- the call c that began at the place p had its step at l answered so, and goes on or has ended. The steps that are left are not counted, since other calls can hold this one up
  abbrev pub TableStands : ℕ → TableId → TableSeat T → Call T → Local ℕ → Answer ℕ → TableSeat T → Option T → Type 0
  TableStands left t p c l a q y =
      (q.0 ≡ t) × ((b : InCall T) × (b.call ≡ c) × (begun_at b ≡ view_at p.1) × CanNext (K t.slots).calls.kind l a × After (K t.slots) b y (next_of (K t.slots).calls.kind l a) q.1)

  abbrev pub TableEnded : TableId → TableSeat T → Call T → Reply T → TableSeat T → Type 0
  TableEnded t = Ended (cap_of (K t.slots).calls) t
