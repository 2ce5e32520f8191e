-- What a party knows that has seen the queue closed and empty.
use Rattle.std.proofs.Common.{◌≡◌, ℕ, Option, Err, List, ◌++◌, ap, sym, subst, ◌∙◌, ⊎_elim, append_assoc}
use mathlib.Core.List.{IsPrefix}
use Rattle.queue_steps.specs.{declared.model.Effect.Effect, declared.model.Call.Call as call, declared.model.Reply.Reply as reply, declared.errors.PopError.PopError as pop, Effect.IsHistory, Effect.after}
use Rattle.concurrent_queue.specs.Shared.{QueueId, PartyView, Calls}
use Rattle.queue_laws.{specs.History.Histories.IsDrained, proofs.History.Closing.ends_at}
use Rattle.law_parties.specs.Doings.{SawDrained}

module _ {T : Type 0} where
  prefix_on : (h s t : List (Effect T)) → IsPrefix h s → IsPrefix s t → IsPrefix h t
  prefix_on h s t (d, is) (e, on) = (d ++ e, sym (append_assoc h d e) ∙ (ap (λ (l : List (Effect T)). l ++ e) is ∙ on))

  pub saw_drained : (v w : PartyView T) → Calls v call.Pop (reply.Pop (Err pop.Closed)) w → SawDrained w
  saw_drained v w popped =
      let seen = popped.1.right popped.1.tells in
      (seen.0, seen.2, subst {A = Option ℕ} (λ cap. IsDrained (after cap seen.0)) (sym (ap (λ (q : QueueId). q.cap) popped.0)) (⊎_elim (λ right. right) (λ lacks. absurd lacks) seen.3))

  pub still_drained : (v w : PartyView T) → w.queue ≡ v.queue → IsPrefix v.view.seen w.view.seen → SawDrained v → SawDrained w
  still_drained v w same begins (h, before, drained) = (h, prefix_on h v.view.seen w.view.seen before begins, subst {A = QueueId} (λ q. IsDrained (after q.cap h)) (sym same) drained)

  pub is_drained : (p : PartyView T) → IsHistory p.queue.cap p.view.seen → SawDrained p → IsDrained (after p.queue.cap p.view.seen)
  is_drained p legal (h, begins, drained) = subst (λ (t : List (Effect T)). IsDrained (after p.queue.cap t)) (sym (ends_at p.queue.cap h p.view.seen drained begins legal)) drained
