-- The only party of a queue that was just opened.
use Rattle.std.specs.Prelude.{ℕ, [], Option}
use Rattle.queue_steps.specs.Shares.{entire}
use Rattle.concurrent_queue.specs.Shared.{QueueName, PartyView}

-- of the queue of this name, which has this capacity
abbrev pub opener : QueueName → Option ℕ → PartyView ℕ
opener n cap = record { queue = record { name = n; cap = cap }; view = record { seen = []; mine = []; share = entire } }
