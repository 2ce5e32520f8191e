-- What is left where a channel could not be ended.
use Rattle.std.specs.Prelude.{◌≡◌}
use Rattle.queue_steps.specs.Shares.{IsEntire}
use Rattle.concurrent_queue.specs.Shared.{PartyView, IsPartyOf}
use Rattle.channel_handle.specs.declared.ended.Unfinished.{Unfinished, Unfinished as unfinished}

-- what is left of an end that has ended with the party p, all of it: itself, or its channel and its party, which has not all of the share
abbrev pub IsLeft : {T A : Type 0} → PartyView T → Unfinished T A → Type 0
IsLeft p (unfinished.Shared ended) = ended ≡ p
IsLeft p (unfinished.Missing channel party) = (party ≡ p) × IsPartyOf party channel.queue × ¬ (IsEntire p.view.share)
