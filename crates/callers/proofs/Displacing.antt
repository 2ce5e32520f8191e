-- A forced push that displaced did so at one moment.
use Rattle.std.proofs.Common.{ℕ, Option, Some, None, Ok, subst}
use Rattle.std.specs.Option.{IfSome}
use Rattle.queue_steps.specs.{declared.model.Call.Call as call, declared.model.Reply.Reply as reply, Parties.View, Parties.SharedCall}
use Rattle.queue_laws.proofs.Moment.Sharing.{shared_calls_at_once}
use Rattle.concurrent_queue.specs.Shared.{QueueId, PartyView, IsPartyOf, Calls}
use Rattle.callers.specs.Displaced.{DisplacedAtOnce}

displaced_at_once : {T : Type 0} (cap : Option ℕ) (v w : View T) (old value : T) → SharedCall cap v w (call.ForcePush value) (reply.ForcePush (Ok (Some old))) → DisplacedAtOnce cap v w old value
displaced_at_once cap v w old value calls h legal begins =
    let all = shared_calls_at_once cap h legal in
    let c = all.2 v w (call.ForcePush value) (reply.ForcePush (Ok (Some old))) begins calls in
    (all.0, all.1, record { places = c.places; mine = c.mine; effects = c.effects; tells = c.tells; together = c.together })

pub displaced : {T : Type 0} (q : QueueId) (v w : PartyView T) (value : T) (out : Option T) → IsPartyOf v q → Calls v (call.ForcePush value) (reply.ForcePush (Ok out)) w
    → IfSome out (λ old. DisplacedAtOnce q.cap v.view w.view old value)
displaced q v w value None of calls = tt
displaced q v w value (Some old) of calls =
    subst (λ (p : QueueId). DisplacedAtOnce p.cap v.view w.view old value) of (displaced_at_once v.queue.cap v.view w.view old value calls.1)
