-- What threads shared: what the party that all of theirs have become tells of its queue.
use Rattle.std.specs.Prelude.{◌≡◌, ℕ, List, Option, length}
use Rattle.queue_steps.specs.{Shares.IsEntire, Parties.IsView, Effect.after}
use Rattle.concurrent_queue.specs.Shared.{IsPartyOf, PartyView}
use Rattle.law_parties.specs.Doings.{SawClosed, takes}
use Rattle.app_threads.specs.declared.sharing.{EndedQueue.EndedQueue, EndedChannel.EndedChannel}

-- The queue is of this capacity. The party is one of this queue's, and has all of the share: all parties have become this one, what it has seen is the
-- history of everything that was done, and every place of that is its own
pub record HasWholeParty (cap : Option ℕ) (s : EndedQueue) : Type 0 where
  pub of : IsPartyOf s.party s.queue
  pub capped : s.queue.cap ≡ cap
  pub seen : IsView cap s.party.view
  pub whole : IsEntire s.party.view.share

-- what is left in the queue of a channel whose only party has seen all that was done
abbrev pub left_in : EndedChannel → List ℕ
left_in c = (after c.party.queue.cap c.party.view.seen).items

-- The channel's queue is of this capacity. The party is one of this queue's, and has all of the share: all parties have become this one, what it has seen is the
-- history of everything that was done, and by that the queue is closed
pub record IsEnded (cap : Option ℕ) (c : EndedChannel) : Type 0 where
  pub of : IsPartyOf c.party c.channel.queue
  pub capped : c.channel.queue.cap ≡ cap
  pub seen : IsView cap c.party.view
  pub whole : IsEntire c.party.view.share
  pub closed : SawClosed c.party

-- The party v, which has all of the share, has become w, has taken nothing, and has seen the queue closed and how many items are left
pub record SeesLeft (v w : PartyView ℕ) (left : ℕ) : Type 0 where
  pub queue : w.queue ≡ v.queue
  pub share : w.view.share ≡ v.view.share
  pub taken : (x : ℕ) → takes x w.view ≡ takes x v.view
  pub seen : IsView w.queue.cap w.view
  pub closed : SawClosed w
  pub counts : left ≡ length (after w.queue.cap w.view.seen).items
