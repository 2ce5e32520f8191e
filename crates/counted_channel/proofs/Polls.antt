-- A poll that came to nothing leaves its end having done nothing, and a call after it is a call from before it.
use Rattle.std.proofs.Common.{◌≡◌, ℕ, false, true, Option, Err, Result, List, [], ◌∷◌, refl, ap, sym, ◌∙◌, subst}
use Rattle.std.specs.Result.{result_ok}
use Rattle.queue_steps.specs.{declared.model.Call.Call, declared.model.Call.Call as call, declared.model.Reply.Reply, declared.model.Reply.Reply as reply, declared.errors.PopError.PopError as pop, declared.errors.PushError.PushError as push, Shares.Share, Shares.IsEntire, Parties.View}
use Rattle.concurrent_queue.specs.{SawMore.SawMore, Shared.PartyView, Shared.Calls}
use Rattle.counted_channel.specs.declared.{calls.polled.PollState.PollState, calls.polled.PollState.PollState as poll, calls.errors.Disconnected.Disconnected, counting.SeatCounts.SeatCounts}
use Rattle.counted_channel.specs.{Channel.End, Channel.ChannelCall, Channel.end_at, Channel.received, Polling.EndWaited, Polling.HasReceived, QueueCalls.Polled.party_at, QueueCalls.Polled.is_in_pop, QueueCalls.Polled.IsBetween, QueueCalls.Polled.IsPopping}
use Rattle.atomic_table.specs.Seated.{TableId}
use Rattle.counted_channel.proofs.Trying.{Tried, untried, prefix_on, tried_more, conforms_then, empty_is_refused, full_is_refused}

module _ {T : Type 0} where
  tried_of : (u v : PartyView T) → SawMore u v → Tried u.view v.view
  tried_of u v s = record { begins = s.1; mine = s.2; share = s.3; same = λ all. ap (λ (w : View T). w.seen) (s.4 all) }

  saw_of : (u v : PartyView T) → v.queue ≡ u.queue → Tried u.view v.view → SawMore u v
  saw_of u v same t = (same, t.begins, t.mine, t.share, λ all i. record { seen = t.same all i; mine = t.mine i; share = t.share i })

  pub saw_none : (u v : PartyView T) → v ≡ u → SawMore u v
  saw_none u v is = subst {A = PartyView T} (λ w. SawMore u w) (sym is) (saw_of u u refl (untried u.view))

  -- a refused call has done nothing
  pub saw_empty : (v w : PartyView T) → Calls v call.Pop (reply.Pop (Err pop.Empty)) w → SawMore v w
  saw_empty v w c = let more = tried_more v v w _ _ empty_is_refused refl (untried v.view) c in saw_of v w more.0 more.1

  pub saw_full : (v w : PartyView T) (x y : T) → Calls v (call.Push x) (reply.Push (Err (push.Full y))) w → SawMore v w
  saw_full v w x y c = let more = tried_more v v w _ _ (full_is_refused x y) refl (untried v.view) c in saw_of v w more.0 more.1

  pub full_back : (v w : PartyView T) (x y : T) → Calls v (call.Push x) (reply.Push (Err (push.Full y))) w → y ≡ x
  full_back v w x y c = c.1.tells.0

  calls_then : (u v w : PartyView T) (c : Call T) (r : Reply T) → SawMore u v → Calls v c r w → Calls u c r w
  calls_then u v w c r s called = conforms_then u v w c r s.0 (tried_of u v s) called

  saw_again : (u v w : PartyView T) → SawMore u v → SawMore v w → SawMore u w
  saw_again u v w a b = (
    b.0 ∙ a.0,
    prefix_on u.view.seen v.view.seen w.view.seen a.1 b.1,
    b.2 ∙ a.2,
    b.3 ∙ a.3,
    λ all. b.4 (subst (λ (s : Share). IsEntire s) (sym a.3) all) ∙ a.4 all,
  )

  pub waited_again : (d m e : End T) → EndWaited d m → EndWaited m e → EndWaited d e
  waited_again d m e a b = (saw_again d.party m.party e.party a.0 b.0, b.1 ∙ a.1, b.2 ∙ a.2)

  -- what was waited for first is one call with what came then
  pub call_then : (d m e : End T) (c : Call T) (r : Reply T) → EndWaited d m → ChannelCall m c r e → ChannelCall d c r e
  call_then d m e c r w h = (calls_then d.party m.party e.party c r w.0 h.0, h.1 ∙ w.1, h.2 ∙ w.2)

  pub sent_then : (d m e : End T) (x y : T) (r : Reply T) → EndWaited d m → y ≡ x → ChannelCall m (call.Push y) r e → ChannelCall d (call.Push x) r e
  sent_then d m e x y r w is h = call_then d m e (call.Push x) r w (subst (λ (z : T). ChannelCall m (call.Push z) r e) is h)

  pub received_then : (d m : End T) → EndWaited d m → (xs : List T) (o : Option T) → HasReceived m xs o → HasReceived d xs o
  received_then d m w [] o h = (h.0, h.1, h.2, call_then d m h.1 _ _ w h.3)
  received_then d m w (x ∷ xs) o h = (h.0, call_then d m h.0 _ _ w h.1, h.2)

  pub received_one : (d e : End T) (r : Result T Disconnected) (o : Option T) → o ≡ result_ok r → ChannelCall d call.Pop (received r) e → HasReceived d [] o
  received_one d e r o is h = (r, e, is, h)

  pub end_calls : (i : ℕ) (d : End T) (v w : PartyView T) (t : TableId) (s : SeatCounts) (c : Call T) (r : Reply T) → end_at i v t s ≡ d → Calls v c r w → ChannelCall d c r (end_at i w t s)
  end_calls i d v w t s c r is h = subst {A = End T} (λ e. ChannelCall e c r (end_at i w t s)) is (h, refl, refl)

  pub end_waits : (i : ℕ) (d : End T) (v w : PartyView T) (t : TableId) (s : SeatCounts) → end_at i v t s ≡ d → SawMore v w → EndWaited d (end_at i w t s)
  end_waits i d v w t s is h = subst {A = End T} (λ e. EndWaited e (end_at i w t s)) is (h, refl, refl)

module _ {T A : Type 0} (d : End T) (v : PartyView T) (t : TableId) (s : SeatCounts) (is : end_at 1 v t s ≡ d) where
  pub recv_answered : (a : PollState T A) (r : Reply T) → IsBetween a (λ w. Calls v call.Pop r w) → ChannelCall d call.Pop r (end_at 1 (party_at a) t s) × (is_in_pop a ≡ false)
  recv_answered (poll.Between p) r h = (end_calls 1 d v p t s call.Pop r is h, refl)
  recv_answered (poll.Popping p) r h = absurd h

  pub recv_empty : (a : PollState T A) → IsBetween a (λ w. Calls v call.Pop (reply.Pop (Err pop.Empty)) w) → EndWaited d (end_at 1 (party_at a) t s) × (is_in_pop a ≡ false)
  recv_empty (poll.Between p) h = (end_waits 1 d v p t s is (saw_empty v p h), refl)
  recv_empty (poll.Popping p) h = absurd h

  pub recv_busy : (a : PollState T A) → IsBetween a (λ w. SawMore v w) → EndWaited d (end_at 1 (party_at a) t s) × (is_in_pop a ≡ false)
  recv_busy (poll.Between p) h = (end_waits 1 d v p t s is h, refl)
  recv_busy (poll.Popping p) h = absurd h

  pub recv_taken : (a : PollState T A) → IsPopping v a → EndWaited d (end_at 1 (party_at a) t s) × (is_in_pop a ≡ true)
  recv_taken (poll.Between p) h = absurd h
  recv_taken (poll.Popping p) h = (end_waits 1 d v p.party t s is (saw_none v p.party h), refl)
