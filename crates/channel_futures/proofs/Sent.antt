-- What a sink has taken, where a poll has sent what it held, or not.
use Rattle.std.proofs.Common.{◌≡◌, Option, Some, None, Result, Ok, Err, List, [], ◌∷◌, ◌++◌, ap, sym, subst, ◌∙◌, append-nil}
use Rattle.std.specs.Prelude.{option_to_list}
use Rattle.queue_steps.specs.{declared.model.Call.Call as call, Parties.IsView}
use Rattle.futures.specs.{declared.task.Poll.Poll, declared.task.Poll.TheVariants.Ready, declared.task.Poll.TheVariants.Pending, Poll.IfReady, Poll.OnPending, Sent.UnlessFailed}
use Rattle.counted_channel.specs.{declared.calls.errors.SendError.SendError, Channel.End, Channel.ChannelCall, Channel.sent, Polling.EndWaited}
use Rattle.channel_account.{specs.Told.told, proofs.Own.sends, proofs.Own.done}

module _ {T : Type 0} where
  -- the end has sent these, and these are held
  abbrev taken : End T → Option T → List T
  taken d held = (told d.party).sent ++ option_to_list held

  -- the held item x was sent, or is still held
  pub taken_same : (d e : End T) (x : T) (old new : Option T) (r : Poll (Result (Unit {0}) (SendError T))) → IsView d.party.queue.cap d.party.view → old ≡ Some x
      → IfReady r (λ answer. ChannelCall d (call.Push x) (sent answer) e × (new ≡ None)) → OnPending r (EndWaited d e × (new ≡ Some x))
      → UnlessFailed r ((xs : List T) → xs ≡ taken d old → xs ≡ taken e new)
  taken_same d e x old new (Ready (Ok done)) is had ready pending = λ xs all.
      let one : (told e.party).sent ≡ (told d.party).sent ++ x ∷ [] = (sends d e x (Ok done) is ready.0).sent in
      all ∙ (ap (taken d) had ∙ (sym one ∙ (sym (append-nil (told e.party).sent) ∙ ap (taken e) (sym ready.1))))
  taken_same d e x old new (Ready (Err why)) is had ready pending = tt
  taken_same d e x old new Pending is had ready (waited, has) = λ xs all.
      let none : (told e.party).sent ≡ (told d.party).sent = (done d.party e.party is waited.0.0 waited.0.1 waited.0.2).sent in
      all ∙ (ap (λ (l : List T). l ++ option_to_list old) (sym none) ∙ ap (taken e) (had ∙ sym has))
