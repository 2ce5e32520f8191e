-- A running call of the machine, and where it stands.
use Rattle.std.proofs.Common.{List}
use Rattle.machine_replay.specs.Vocabulary.{Call, Effect, Running}
use Rattle.queue_laws.specs.Common.Stand.{Stand}

abbrev pub stand_of : {T : Type 0} → Running T → Call T → List (Effect T) → Stand T
stand_of x k es = record { local = x.local; touch = x.touch; op = x.op; carried = x.carried; call = k; effects = es }

abbrev pub running_of : {T : Type 0} → Stand T → Running T
running_of c = record { local = c.local; touch = c.touch; op = c.op; carried = c.carried }
