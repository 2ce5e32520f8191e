-- What is left of a handle that could not end the sharing of its queue.
use Rattle.std.specs.Prelude.{◌≡◌}
use Rattle.queue_steps.specs.Shares.{IsEntire}
use Rattle.concurrent_queue.specs.Shared.{PartyView, IsPartyOf}
use Rattle.queue_handle.specs.declared.Unfinished.{Unfinished, Unfinished as unfinished}

-- what is left of the handle p, all of it: itself, or its queue and its party, which has not all of the share
abbrev pub IsLeft : {T A : Type 0} → PartyView T → Unfinished T A → Type 0
IsLeft p (unfinished.Shared h) = h ≡ p
IsLeft p (unfinished.Missing queue party) = (party ≡ p) × IsPartyOf party queue × ¬ (IsEntire p.view.share)
