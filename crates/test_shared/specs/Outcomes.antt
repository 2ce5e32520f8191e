-- Calls of a queue's parties.
use Rattle.concurrent_queue.specs.{declared.shared.pending.Outcome.Outcome, declared.shared.pending.Outcome.Outcome as outcome, Shared.QueueId, Shared.IsPartyOf}

-- the call is one of a party of this queue
abbrev pub IsOf : {T A : Type 0} → Outcome T A → QueueId → Type 0
IsOf (outcome.Done w r) q = IsPartyOf w q
IsOf (outcome.Pending p) q = IsPartyOf p.party q
