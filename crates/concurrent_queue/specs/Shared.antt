-- Queues that parties share, as contracts see them.
use Rattle.std.specs.Prelude.{◌≡◌, ◌≢◌, ℕ, true, [], Option, Some, None}
use Rattle.atomic_table.specs.Seated.{TableId}
use Rattle.queue_steps.specs.{declared.model.Call.Call, declared.model.Reply.Reply, Shares.IsEntire, Parties.View, Parties.SharedCall, Parties.Split, Parties.Join, Parties.Meet, Parties.IsWhole, SequentialCalls.SequentialCall, Effect.after, Legal.IsShown, Sequential.Owned}
use Rattle.shared_chain.specs.Turning.{web_of}
use Rattle.concurrent_queue.specs.declared.{shared.Form.Form, shared.Form.Form as form, party.SeatPlace.SeatPlace, party.SeatPlace.SeatPlace as place}
use Rattle.mem_blocks.specs.Laid.{WebId}
use Rattle.shared_parties.specs.{declared.known.CallState.CallState, Known.view_of, CallStates.empty_seat, Parting.IsParty}

-- by what a queue is known from others: its table, or its web. A seat that is away is of none
pub data QueueName : Type 0 where
  at_table : TableId → QueueName
  in_web : WebId → QueueName
  nowhere : QueueName

-- which queue, and its capacity
pub record QueueId : Type 0 where
  pub name : QueueName
  pub cap : Option ℕ

-- a party: its queue, and its view of that queue's history
pub record PartyView (T : Type 0) : Type 0 where
  pub queue : QueueId
  pub view : View T

-- the party is one of this queue's
abbrev pub IsPartyOf : {T : Type 0} → PartyView T → QueueId → Type 0
IsPartyOf p q = p.queue ≡ q

-- the party that knows this, of the queue of this name
abbrev pub party_view : {T : Type 0} → QueueName → CallState T → PartyView T
party_view n d = record { queue = record { name = n; cap = d.known.cap }; view = view_of d.known }

-- of the seat at a place: its queue, its number, what it knows, and that it has nothing in hand
abbrev pub name_at : {T : Type 0} → SeatPlace T → QueueName
name_at (place.Table s) = at_table s.table_id
name_at (place.Web r) = in_web r.web
name_at place.Away = nowhere

abbrev pub number_at : {T : Type 0} → SeatPlace T → ℕ
number_at (place.Table s) = s.id
number_at (place.Web r) = r.id
number_at place.Away = 0

abbrev pub known_at : {T : Type 0} → SeatPlace T → CallState T
known_at (place.Table s) = s.me.0
known_at (place.Web r) = r.view
known_at place.Away = empty_seat

abbrev pub IsFreeAt : {T : Type 0} → SeatPlace T → Type 0
IsFreeAt (place.Table s) = s.me.1 ≡ []
IsFreeAt (place.Web r) = r.asleep ≡ true
IsFreeAt place.Away = ⊥

-- the party with this seat
abbrev pub party_view_of : {T : Type 0} → SeatPlace T → PartyView T
party_view_of p = party_view (name_at p) (known_at p)

-- between its calls
abbrev pub IsHeld : {T : Type 0} → SeatPlace T → Type 0
IsHeld p = IsParty (known_at p) × IsFreeAt p

-- the call takes the party from v to w. If it has all of the share, the call is one of one owner
abbrev pub Calls : {T : Type 0} → PartyView T → Call T → Reply T → PartyView T → Type 0
Calls v c r w = (w.queue ≡ v.queue) × SharedCall v.queue.cap v.view w.view c r × (IsEntire v.view.share → SequentialCall v.queue.cap v.view w.view c r)

-- the party v is parted into a and b
abbrev pub Parts : {T : Type 0} → PartyView T → PartyView T → PartyView T → Type 0
Parts v a b = (a.queue ≡ v.queue) × (b.queue ≡ v.queue) × Split v.queue.cap v.view a.view b.view

-- the parties a and b become w
abbrev pub Joins : {T : Type 0} → PartyView T → PartyView T → PartyView T → Type 0
Joins a b w = (w.queue ≡ a.queue) × Join a.queue.cap a.view b.view w.view

-- the parties a and b meet, and are then c and d
abbrev pub Meets : {T : Type 0} → PartyView T → PartyView T → PartyView T → PartyView T → Type 0
Meets a b c d = (c.queue ≡ a.queue) × (d.queue ≡ b.queue) × Meet a.queue.cap a.view b.view c.view d.view

-- which queue this is
abbrev pub form_id : {T A : Type 0} → Form T A → QueueId
form_id (form.Slot s) = record { name = at_table s.table.shared.table_id; cap = Some 1 }
form_id (form.Ring r) = record { name = at_table r.table.shared.table_id; cap = Some r.table.shared.table_id.slots }
form_id (form.Chain w) = record { name = in_web (web_of w.chain); cap = None }

-- the seat is one of this queue's, and has nothing in hand
abbrev pub SitsIn : {T A : Type 0} → Form T A → SeatPlace T → Type 0
SitsIn f p = (name_at p ≡ (form_id f).name) × IsFreeAt p

-- The queue ended with its only party p, which has all of the share, as a queue with one owner. One with a capacity holds no block
abbrev pub Finishes : {T : Type 0} → PartyView T → Owned T → Type 0
Finishes p e = IsEntire p.view.share × IsWhole p.view × IsShown e.queue (after p.queue.cap p.view.seen) × (p.queue.cap ≢ None → e.blocks ≡ 0)
