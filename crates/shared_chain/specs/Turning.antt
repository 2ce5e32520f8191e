-- What a party's driver may do with a seat at a shared chain, and what that leaves: at run time, where names are places.
use Rattle.std.specs.Prelude.{◌≡◌, ℕ, length, Option, Some, None, true}
use denote.RawPtr.{Ptr, InBlock, null_ptr}
use Rattle.queue_laws.specs.Common.Vocabulary.{Call, Reply, Kind, Op, Touch, Answer, Local, Next, BLOCK_SLOTS}
use Rattle.queue_steps.specs.{Effect.IsHistory, Kinds.call_kind, Kinds.filled, Next.CanNext, Next.next_of, Parties.SharedCall}
use Rattle.mem_blocks.specs.{Web.Block, Web.Sitter, Web.sitter, Web.AllVacant, Laid.WebId, Seats.Sits, Seats.Same, declared.block.BlockPtr.BlockPtr as Place, declared.web.Seat.Seat}
use Rattle.shared_parties.specs.{declared.known.CallState.CallState, declared.known.InCall.InCall, Known.view_of, CallStates.IsResting, CallStates.HasAll, Calling.touched_list, Calling.handed_by, CallsAt.Ready, CallsAt.begun_at, Called.called_at}
use Rattle.shared_chain.specs.{declared.web.ChainWeb.ChainWeb, ChainCalls.chain_calls, Names.link_of, Names.local_map, Names.op_map, Names.answer_map, Names.state_block, Steps.HoldsBy, Steps.MayStep, Steps.After, Steps.Follows}

-- the place of the block that a seat carries
abbrev place_in : {T : Type 0} → Option (Block T) → Ptr
place_in None = null_ptr
place_in (Some x) = x.at

abbrev pub carried_place : {T : Type 0} → Sitter T (CallState T) → Ptr
carried_place m = place_in m.spare

-- the first step of a call names no block
abbrev pub unnamed : {T : Type 0} → Place T → ℕ
unnamed p = 0

-- the call that a seat is at, or is about to begin
abbrev pub call_at : {T : Type 0} → Sitter T (CallState T) → Call Unit → Local (Place T) → Touch → Op (Place T) → Option T → InCall T
call_at m k l u o x = called_at m.view k (local_map unnamed l) u (op_map unnamed o) x

-- the seat m at the call c may do this step
pub record CanDo {T : Type 0} (m : Sitter T (CallState T)) (l : Local (Place T)) (u : Touch) (o : Op (Place T)) (x : Option T) (c : InCall T) : Type 0 where
  pub local : local_map link_of c.local ≡ l
  pub touch : c.touch ≡ u
  pub op : op_map link_of c.op ≡ o
  pub carried : c.carried ≡ x
  pub ready : Ready chain_calls m.view c
  pub may : MayStep c.local c.touch c.op c.carried c.lends
  pub holds : HoldsBy c.local c.op c.lends m

-- the slot in the seat's hand is the one that is touched. A put finds it empty, a take full
abbrev pub CanTouch : {T : Type 0} → Sitter T (CallState T) → Touch → Op (Place T) → Option T → Type 0
CanTouch m Touch.Nothing o x = Unit {0}
CanTouch {T} m (Touch.Put i) o x = (p : Place T) × (state_block o ≡ Some p) × InBlock p.ptr × (m.hand ≡ Some (p.ptr, i, None)) × ((v : T) × (x ≡ Some v))
CanTouch {T} m (Touch.Take i) o x = (p : Place T) × (state_block o ≡ Some p) × InBlock p.ptr × ((v : T) × (m.hand ≡ Some (p.ptr, i, Some v))) × (x ≡ None)
CanTouch m (Touch.Swap i) o x = ⊥

-- the slot in the seat's hand and what the call carries have changed places
abbrev pub Swapped : {T : Type 0} → Sitter T (CallState T) → ℕ → Option T → Sitter T (CallState T) → Option T → Type 0
Swapped m i x m' y = (p : Ptr) × (m.hand ≡ Some (p, i, y)) × (m' ≡ sitter m.view (Some (p, i, x)) m.spare)

abbrev pub Touched : {T : Type 0} → Sitter T (CallState T) → Touch → Option T → Sitter T (CallState T) → Option T → Type 0
Touched m Touch.Nothing x m' y = (m' ≡ m) × (y ≡ x)
Touched m (Touch.Put i) x m' y = Swapped m i x m' y
Touched m (Touch.Take i) x m' y = Swapped m i x m' y
Touched m (Touch.Swap i) x m' y = Swapped m i x m' y

-- the seat has its slot touched, and may do the operation
pub record CanOperate {T : Type 0} (m : Sitter T (CallState T)) (o : Op (Place T)) (c : InCall T) : Type 0 where
  pub op : op_map link_of c.op ≡ o
  pub ready : Ready chain_calls m.view c
  pub may : MayStep c.local c.touch c.op c.carried c.lends
  pub holds : HoldsBy c.local c.op (touched_list c.touch c.carried c.lends) m

-- the operation was answered so
abbrev pub Operated : {T : Type 0} → InCall T → Answer (Place T) → Sitter T (CallState T) → Type 0
Operated c a m = (b : Answer ℕ) × (a ≡ answer_map link_of b) × Follows c b m

-- the seat carries the block that a reply gives up, in which nothing lies, or none
abbrev pub Carries : {T : Type 0} → Option (Place T) → Sitter T (CallState T) → Type 0
Carries None m = m.spare ≡ None
Carries {T} (Some p) m = (y : Block T) × (m.spare ≡ Some y) × (y.at ≡ p.ptr) × (y.alive ≡ true) × (length y.homes ≡ BLOCK_SLOTS) × AllVacant y.homes

-- the seat of a party between its calls: it has nothing in hand and carries nothing
abbrev pub IsFree : {T : Type 0} → Sitter T (CallState T) → Type 0
IsFree m = (m.hand ≡ None) × (m.spare ≡ None) × IsResting m.view × (m.view.known.cap ≡ None) × IsHistory None m.view.known.seen × HasAll m.view

module _ {T A : Type 0} where
  -- which web of blocks the chain is
  abbrev pub web_of : ChainWeb T A → WebId
  web_of w = w.web.id

  -- the allocator of its blocks
  abbrev pub heap_of : ChainWeb T A → A
  heap_of w = w.web.heap

  -- the seat is one of this chain
  abbrev pub SitsAt : ChainWeb T A → Seat T (CallState T) A → Type 0
  SitsAt w s = Sits s w.web

  -- the seat may do this step with what the call carries
  abbrev pub ChainCan : ChainWeb T A → Seat T (CallState T) A → Call Unit → Local (Place T) → Touch → Op (Place T) → Option T → Type 0
  ChainCan w s k l u o x = SitsAt w s × CanDo s.sitter l u o x (call_at s.sitter k l u o x)

  -- what the step answers, and what it leaves of the seat and of what the call carries
  abbrev pub ChainDoes : Seat T (CallState T) A → Call Unit → Local (Place T) → Touch → Op (Place T) → Option T → Answer (Place T) → Seat T (CallState T) A → Option T → Type 0
  ChainDoes s k l u o x a q y = Same q s × (y ≡ handed_by u x (call_at s.sitter k l u o x).lends) × Operated (call_at s.sitter k l u o x) a q.sitter

  -- the call c that the seat p began had its step at l answered so, and goes on or has ended
  abbrev pub ChainStands : ChainWeb T A → Seat T (CallState T) A → Call T → Local (Place T) → Answer (Place T) → Seat T (CallState T) A → Option T → Type 0
  ChainStands w p c l a q y = SitsAt w q × ((d : InCall T) × (d.call ≡ c) × (begun_at d ≡ view_of p.sitter.view.known) × ((i : Local ℕ) × (b : Answer ℕ) × (local_map link_of i ≡ l) × (a ≡ answer_map link_of b) × CanNext Kind.Unbounded i b × After d y (next_of Kind.Unbounded i b) q.sitter))

  -- the seat of a party of the chain, between its calls
  abbrev pub ChainRests : ChainWeb T A → Seat T (CallState T) A → Type 0
  ChainRests w s = SitsAt w s × IsFree s.sitter

  -- the call that the seat p began ended at q
  abbrev pub ChainEnded : ChainWeb T A → Seat T (CallState T) A → Call T → Reply T → Seat T (CallState T) A → Type 0
  ChainEnded w p c r q = ChainRests w q × SharedCall None (view_of p.sitter.view.known) (view_of q.sitter.view.known) c r

  -- the block that a reply gives up is given back
  abbrev pub GaveUp : Seat T (CallState T) A → Seat T (CallState T) A → Type 0
  GaveUp s q = Same q s × (q.sitter ≡ sitter s.sitter.view s.sitter.hand None)

  -- what is to be done may be done and leads the call c, begun by the seat p, on; or it ends right, once the block is given back that its reply gives up
  abbrev pub ChainLeads : ChainWeb T A → Seat T (CallState T) A → Call T → Next (Place T) → Seat T (CallState T) A → Option T → Type 0
  ChainLeads w p c (Next.Step l t o) s x =
      ChainCan w s (call_kind c) l t o x × ((a : Answer (Place T)) (q : Seat T (CallState T) A) (y : Option T) → ChainDoes s (call_kind c) l t o x a q y → ChainStands w p c l a q y)
  ChainLeads w p c (Next.Reply r spare) s x = Carries spare s.sitter × ((y : Reply T) × (filled r x ≡ Some y) × ((q : Seat T (CallState T) A) → GaveUp s q → ChainEnded w p c y q))
