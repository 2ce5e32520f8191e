-- A party that has seen the queue closed is told so, and so is one that meets it.
use Rattle.std.proofs.Common.{◌≡◌, ◌∙◌, inl, inr, ℕ, Bool, true, Option, List, [], ◌∷◌, ◌++◌, ap, sym, subst}
use Rattle.queue_steps.specs.{declared.model.Call.Call as call, declared.model.Effect.Effect, declared.model.Reply.Reply as reply, State.State, State.start, Effect.Runs, Effect.IsHistory, Effect.made, Effect.after, Replies.Allows}
use Rattle.concurrent_queue.specs.Shared.{PartyView, Calls, Meets}
use Rattle.law_parties.specs.Doings.{SawClosed}
use Rattle.law_parties.proofs.Doings.{still_closed}

-- the answer is whether the queue is closed
says_closed : (Q : State ℕ) (says : Bool) → Allows call.IsClosed (reply.IsClosed says) Q → says ≡ Q.closed
says_closed Q says (inl right) = right
says_closed Q says (inr lacks) = absurd lacks

front-runs : (Q : State ℕ) (s d : List (Effect ℕ)) → Runs Q (s ++ d) → Runs Q s
front-runs Q [] d run = tt
front-runs Q (e ∷ s) d run = (run.0, front-runs (made e Q) s d run.1)

-- what a party sees that finds the queue closed
pub found-closed : (v w : PartyView ℕ) → Calls v call.IsClosed (reply.IsClosed true) w → SawClosed w
found-closed v w calls =
    let right = calls.1.right calls.1.tells in
    let closed = still_closed v.queue.cap right.0 w.view.seen right.2 calls.1.legal (sym (says_closed (after v.queue.cap right.0) true right.3)) in
    subst {A = Option ℕ} (λ cap. (after cap w.view.seen).closed ≡ true) (sym (ap (λ q. q.cap) calls.0)) closed

-- what the second of two parties then sees that meet, where the first had seen the queue closed
pub met-closed : (a b c d : PartyView ℕ) → b.queue ≡ a.queue → Meets a b c d → SawClosed a → SawClosed d
met-closed a b c d one meets saw =
    let closed = still_closed a.queue.cap a.view.seen c.view.seen meets.2.begins.0 meets.2.legal saw in
    let same : (after a.queue.cap d.view.seen).closed ≡ true = subst {A = List (Effect ℕ)} (λ s. (after a.queue.cap s).closed ≡ true) (sym meets.2.same) closed in
    subst {A = Option ℕ} (λ cap. (after cap d.view.seen).closed ≡ true) (sym (ap (λ q. q.cap) (meets.1 ∙ one))) same

-- what it is answered
pub told-closed : (v w : PartyView ℕ) (says : Bool) → Calls v call.IsClosed (reply.IsClosed says) w → SawClosed v → says ≡ true
told-closed v w says calls saw =
    let right = calls.1.right calls.1.tells in
    let legal : IsHistory v.queue.cap right.0 = front-runs (start v.queue.cap 0) right.0 right.2.0 (subst (IsHistory v.queue.cap) (sym right.2.1) calls.1.legal) in
    says_closed (after v.queue.cap right.0) says right.3 ∙ still_closed v.queue.cap v.view.seen right.0 right.1 legal saw
