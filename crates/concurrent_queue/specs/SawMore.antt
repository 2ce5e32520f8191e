-- A party that has done nothing.
use Rattle.std.specs.Prelude.{◌≡◌}
use mathlib.Core.List.{IsPrefix}
use Rattle.queue_steps.specs.Shares.{IsEntire}
use Rattle.concurrent_queue.specs.Shared.{PartyView}

-- from v to w the party has had no effect, and may have seen more. The only party has seen nothing more
abbrev pub SawMore : {T : Type 0} → PartyView T → PartyView T → Type 0
SawMore v w = (w.queue ≡ v.queue) × IsPrefix v.view.seen w.view.seen × (w.view.mine ≡ v.view.mine) × (w.view.share ≡ v.view.share) × (IsEntire v.view.share → w.view ≡ v.view)
