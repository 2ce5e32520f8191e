-- What an end has sent and received: the items of the effects at its party's own places.
use Rattle.std.specs.Prelude.{◌≡◌, ℕ, Bool, List, [], ◌++◌, Option}
use Rattle.std.specs.List.{count_by}
use Rattle.queue_laws.specs.History.Histories.{handed_in, handed_out}
use Rattle.law_parties.specs.Doings.{SawDrained}
use Rattle.concurrent_queue.specs.Shared.{PartyView}
use Rattle.channel_account.specs.Own.{own}

-- a party of a channel's queue, and the values that it has sent and received
pub record Told (T : Type 0) : Type 0 where
  pub party : PartyView T
  pub sent : List T
  pub came : List T

abbrev pub told : {T : Type 0} → PartyView T → Told T
told p = record { party = p; sent = handed_in (own p.view); came = handed_out (own p.view) }

-- its party has seen the channel closed and empty
abbrev pub SawEnd : {T : Type 0} → Told T → Type 0
SawEnd d = SawDrained d.party

-- d becomes e, of the same channel, and sends and receives nothing
pub record HasDone {T : Type 0} (d e : Told T) : Type 0 where
  pub queue : e.party.queue ≡ d.party.queue
  pub sent : e.sent ≡ d.sent
  pub came : e.came ≡ d.came
  pub saw : SawEnd d → SawEnd e

-- d becomes e, and sends these
pub record HasSent {T : Type 0} (d : Told T) (xs : List T) (e : Told T) : Type 0 where
  pub queue : e.party.queue ≡ d.party.queue
  pub sent : e.sent ≡ d.sent ++ xs
  pub came : e.came ≡ d.came

-- d becomes e, and receives these
pub record HasReceived {T : Type 0} (d : Told T) (xs : List T) (e : Told T) : Type 0 where
  pub queue : e.party.queue ≡ d.party.queue
  pub sent : e.sent ≡ d.sent
  pub came : e.came ≡ d.came ++ xs

-- of the two that d is parted into the first has done what d has, the other nothing
pub record PartsTold {T : Type 0} (d a b : Told T) : Type 0 where
  pub kept : HasDone d a
  pub queue : b.party.queue ≡ d.party.queue
  pub sent : b.sent ≡ []
  pub came : b.came ≡ []

-- c has done what a and b have
pub record JoinsTold {T : Type 0} (a b c : Told T) : Type 0 where
  pub queue : c.party.queue ≡ a.party.queue
  pub sent : c.sent ≡ a.sent ++ b.sent
  pub came : c.came ≡ a.came ++ b.came
  pub saw : (SawEnd a → SawEnd c) × (SawEnd b → SawEnd c)

-- the ends of a new channel of this capacity, which have done nothing
pub record AreNew {T : Type 0} (cap : Option ℕ) (s r : Told T) : Type 0 where
  pub capped : s.party.queue.cap ≡ cap
  pub queue : r.party.queue ≡ s.party.queue
  pub sent : (s.sent ≡ []) × (r.sent ≡ [])
  pub came : (s.came ≡ []) × (r.came ≡ [])

-- each item is in one list as often as in the other
abbrev pub SameItems : {T : Type 0} → List T → List T → Type 0
SameItems {T} xs ys = (such : T → Bool) → count_by such xs ≡ count_by such ys
