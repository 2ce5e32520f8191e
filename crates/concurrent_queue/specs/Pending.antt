-- A party whose call is on its way and stands before one of its steps: what its seat tells of the call, and what is so of it.
use Rattle.std.specs.Prelude.{◌≡◌, ◌≤◌, ℕ, Option, Some, None}
use Rattle.atomic_table.specs.{declared.shared.Seat.Seat, Seated.TableId}
use Rattle.mem_blocks.specs.declared.block.BlockPtr.{BlockPtr as Link}
use Rattle.queue_steps.specs.{declared.steps.types.Answer.Answer, declared.steps.types.Kind.Kind as queue, declared.steps.types.Local.Local, Kinds.call_kind, Next.CanNext, Next.next_of, Parties.IsView}
use Rattle.shared_parties.specs.{declared.known.CallState.CallState, declared.known.Work.Work as work, Quitting.its_call, Calling.cap_of, CallsAt.begun_at}
use Rattle.shared_tables.specs.{TableRule.TableOf, TableTurns.After, SlotTable.slot_table, RingTable.ring_table}
use Rattle.shared_chain.specs.{Names.link_of, Names.local_map, Names.answer_map, Turning.SitsAt, declared.web.ChainWeb.ChainWeb}
use Rattle.shared_chain.specs.Steps as chain
use Rattle.shared_calls.specs.{declared.chain.Asking.Asking, declared.left.Left.Left, Pausing.IsStep}
use Rattle.concurrent_queue.specs.{declared.shared.pending.CallPlace.CallPlace, declared.shared.pending.CallPlace.CallPlace as place, Shared.QueueName, Shared.at_table, Shared.in_web, Begun.Begun}

-- of a seat on the queue of this name and capacity, what it was when its call began, and the call
abbrev pub begun_by : {T : Type 0} → QueueName → Option ℕ → CallState T → Begun T
begun_by n cap d = record { party = record { queue = record { name = n; cap = cap }; view = begun_at (its_call d) }; call = (its_call d).call }

-- the call of a seat at a table stands before one of its steps
pub record IsStoppedAt {T : Type 0} (K : TableOf T) (s : Seat (Option T) (CallState T)) (l : Left T ℕ) : Type 0 where
  pub at : s.me.0.work ≡ work.Calls (its_call s.me.0)
  pub kind : l.kind ≡ K.calls.kind
  pub call : l.call ≡ call_kind (its_call s.me.0).call
  pub view : IsView (cap_of K.calls) (begun_at (its_call s.me.0))
  pub can : CanNext K.calls.kind l.progress.local l.progress.answer
  pub after : After K (its_call s.me.0) l.carried (next_of K.calls.kind l.progress.local l.progress.answer) s.me
  pub step : IsStep (next_of K.calls.kind l.progress.local l.progress.answer)

-- the same in a web, where the call names blocks by where they lie
pub record IsStoppedIn {T A Q : Type 0} (s : Asking T A Q) (l : Left T (Link T)) : Type 0 where
  pub at : s.seat.sitter.view.work ≡ work.Calls (its_call s.seat.sitter.view)
  pub kind : l.kind ≡ queue.Unbounded
  pub call : l.call ≡ call_kind (its_call s.seat.sitter.view).call
  pub view : IsView None (begun_at (its_call s.seat.sitter.view))
  pub local : Local ℕ
  pub answer : Answer ℕ
  pub local_is : local_map link_of local ≡ l.progress.local
  pub answer_is : l.progress.answer ≡ answer_map link_of answer
  pub can : CanNext queue.Unbounded local answer
  pub after : chain.After (its_call s.seat.sitter.view) l.carried (next_of queue.Unbounded local answer) s.seat.sitter
  pub step : IsStep (next_of queue.Unbounded l.progress.local l.progress.answer)

-- the seat's call stands at this table, and is that of v
abbrev pub StopsHere : {T : Type 0} → (ℕ → TableOf T) → TableId → Seat (Option T) (CallState T) → Left T ℕ → Begun T → Type 0
StopsHere K t s l v = (s.table_id ≡ t) × IsStoppedAt (K t.slots) s l × (begun_by (at_table t) (cap_of (K t.slots).calls) s.me.0 ≡ v)

-- the same in this web
abbrev pub StopsInside : {T A Q : Type 0} → ChainWeb T A → Asking T A Q → Left T (Link T) → Begun T → Type 0
StopsInside w s l v = SitsAt w s.seat × IsStoppedIn s l × (begun_by (in_web s.seat.web) None s.seat.sitter.view ≡ v)

module _ {T A : Type 0} where
  abbrev pub begun_of : CallPlace T A → Begun T
  begun_of (place.Slot s l) = begun_by (at_table s.table_id) (Some 1) s.me.0
  begun_of (place.Ring s l) = begun_by (at_table s.table_id) (Some s.table_id.slots) s.me.0
  begun_of (place.Chain s l) = begun_by (in_web s.seat.web) None s.seat.sitter.view

  abbrev pub IsStopped : CallPlace T A → Type 0
  IsStopped (place.Slot s l) = IsStoppedAt slot_table s l
  IsStopped (place.Ring s l) = (2 ≤ s.table_id.slots) × IsStoppedAt (ring_table s.table_id.slots) s l
  IsStopped (place.Chain s l) = IsStoppedIn s l
