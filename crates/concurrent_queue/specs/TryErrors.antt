-- The texts of the errors of calls that never wait, and the value that each hands back.
use Rattle.std.specs.Prelude.{ℕ, List, codes}
use Rattle.concurrent_queue.specs.declared.try_errors.{TryPushError.TryPushError, TryPushError.TryPushError as push, TryForcePushError.TryForcePushError, TryForcePushError.TryForcePushError as force, TryPopError.TryPopError, TryPopError.TryPopError as pop}

abbrev pub try_push_error_text : {T : Type 0} → TryPushError T → List ℕ
try_push_error_text (push.Full value) = codes "Full"
try_push_error_text (push.Closed value) = codes "Closed"
try_push_error_text (push.NoMemory value) = codes "NoMemory"
try_push_error_text (push.Busy value) = codes "Busy"

abbrev pub try_force_push_error_text : {T : Type 0} → TryForcePushError T → List ℕ
try_force_push_error_text (force.Closed value) = codes "Closed"
try_force_push_error_text (force.NoMemory value) = codes "NoMemory"
try_force_push_error_text (force.Busy value) = codes "Busy"

abbrev pub try_pop_error_text : TryPopError → List ℕ
try_pop_error_text pop.Empty = codes "Empty"
try_pop_error_text pop.Closed = codes "Closed"
try_pop_error_text pop.Busy = codes "Busy"

abbrev pub try_push_error_value : {T : Type 0} → TryPushError T → T
try_push_error_value (push.Full value) = value
try_push_error_value (push.Closed value) = value
try_push_error_value (push.NoMemory value) = value
try_push_error_value (push.Busy value) = value

abbrev pub try_force_push_error_value : {T : Type 0} → TryForcePushError T → T
try_force_push_error_value (force.Closed value) = value
try_force_push_error_value (force.NoMemory value) = value
try_force_push_error_value (force.Busy value) = value

abbrev pub IsBusy : {T : Type 0} → TryPushError T → Type 0
IsBusy (push.Full value) = ⊥
IsBusy (push.Closed value) = ⊥
IsBusy (push.NoMemory value) = ⊥
IsBusy (push.Busy value) = Unit {0}
