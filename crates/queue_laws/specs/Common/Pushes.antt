-- The two calls that push.
use Rattle.queue_laws.specs.Common.Vocabulary.{Call, PushKind}

-- the call that pushes v so
abbrev pub pushes : {A : Type 0} → PushKind → A → Call A
pushes PushKind.Push v = Call.Push v
pushes PushKind.Force v = Call.ForcePush v
