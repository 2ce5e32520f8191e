-- Which queue the ends of a channel wait at, and on which lists its ends in futures wait.
use Rattle.std.specs.Prelude.{ℕ, Option, option_map}
use Rattle.std.specs.Arc.{arc_value}
use Rattle.concurrent_queue.specs.Shared.{QueueId}
use Rattle.waker_list.specs.declared.{WakerList.WakerList, owed.OwesOne.OwesOne as ListOwesOne, owed.OwesAll.OwesAll as ListOwesAll}
use Rattle.counted_channel.specs.declared.calls.waiters.{Waiters.Waiters, OwesOne.OwesOne, OwesAll.OwesAll}

-- a queue at which ends wait, with the sources of the lists of receivers and of senders that wait in futures, where these may
pub record WaitedId : Type 0 where
  pub queue : QueueId
  pub receivers : Option ℕ
  pub senders : Option ℕ

module _ {C : Type 0} where
  -- the source of the list on which futures wait, where they may
  abbrev pub list_of : Waiters C → Option ℕ
  list_of w = option_map (λ l. let list : WakerList C = arc_value l in list.source.id) w.futures

  -- the source of the list on which one future is to be woken
  abbrev pub list_for_one : OwesOne C → Option ℕ
  list_for_one o = option_map (λ (l : ListOwesOne C). l.list.now.source.id) o.future

  -- the source of the list on which all futures are to be woken
  abbrev pub list_for_all : OwesAll C → Option ℕ
  list_for_all o = option_map (λ (l : ListOwesAll C). l.list.now.source.id) o.futures
