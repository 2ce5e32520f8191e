-- What calls, parting, joining, meeting and the end of the sharing are to the parties that contracts see.
use Rattle.std.proofs.Common.{◌≡◌, ◌≢◌, ℕ, [], Option, None, refl, ap, sym, ◌∙◌, subst}
use Rattle.atomic_table.specs.Seated.{TableId}
use Rattle.queue_steps.specs.declared.model.{Call.Call, Call.Call as call, Reply.Reply, Reply.Reply as reply}
use Rattle.queue_steps.specs.{Effect.after, Legal.IsShown, SequentialCalls.SequentialCall, Shares.IsEntire, Sequential.Owned, Parties.View, Parties.IsView, Parties.IsWhole, Parties.SharedCall}
use Rattle.queue_steps.proofs.WholeCalls.{whole_calls}
use Rattle.shared_parties.{specs.declared.known.CallState.CallState, specs.Known.view_of, specs.CallStates.IsResting, specs.CallStates.HasAll, specs.Parting.IsParty, proofs.Views.ended_party}
use Rattle.concurrent_queue.specs.Shared.{QueueName, at_table, QueueId, PartyView, party_view, Calls, Finishes}
use Rattle.shared_tables.specs.AtTable.{TableSeat, Ended}

abbrev queue_id : QueueName → Option ℕ → QueueId
queue_id n cap = record { name = n; cap = cap }

module _ {T : Type 0} where
  -- a call ended by which the party d became e
  pub calls_party_view : (cap : Option ℕ) (n m : QueueName) (d e : CallState T) (v : PartyView T) (c : Call T) (r : Reply T) → party_view n d ≡ v → v.queue.cap ≡ cap → m ≡ n → IsParty d → IsResting e → e.known.cap ≡ cap → HasAll e
      → SharedCall cap (view_of d.known) (view_of e.known) c r → Calls v c r (party_view m e)
  calls_party_view cap n m d e v c r is_v one here is rests cap_end whole calls =
      let cap_is : d.known.cap ≡ cap = ap (λ (z : PartyView T). z.queue.cap) is_v ∙ one in
      subst (λ (z : PartyView T). Calls z c r (party_view m e)) is_v (
        λ i. queue_id (here i) ((cap_end ∙ sym cap_is) i),
        subst (λ (z : Option ℕ). SharedCall z (view_of d.known) (view_of e.known) c r) (sym cap_is) calls,
        λ entire. subst (λ (z : Option ℕ). SequentialCall z (view_of d.known) (view_of e.known) c r) (sym cap_is)
            (whole_calls cap (view_of d.known) (view_of e.known) c r (subst (λ (z : Option ℕ). IsView z (view_of d.known)) cap_is is.1)
            (subst (λ (z : Option ℕ). IsView z (view_of e.known)) cap_end (ended_party cap d e c r is rests cap_end whole calls).1) calls entire),
      )

  -- the same of a party at a table
  pub ended_party_view : (cap : Option ℕ) (t : TableId) (p q : TableSeat T) (c : Call T) (r : Reply T) → IsParty p.1.0 → Ended cap t p c r q → IsParty q.1.0 × (q.1.1 ≡ [])
  ended_party_view cap t p q c r is e = (ended_party cap p.1.0 q.1.0 c r is e.0.1.0 e.0.2 e.0.4 e.1, e.0.1.1)

  pub ended_calls : (cap : Option ℕ) (t : TableId) (p q : TableSeat T) (v : PartyView T) (c : Call T) (r : Reply T) → party_view (at_table p.0) p.1.0 ≡ v → v.queue.cap ≡ cap → t ≡ p.0 → IsParty p.1.0 → Ended cap t p c r q
      → Calls v c r (party_view (at_table q.0) q.1.0)
  ended_calls cap t p q v c r is_v one here is e = calls_party_view cap (at_table p.0) (at_table q.0) p.1.0 q.1.0 v c r is_v one (ap at_table (e.0.0 ∙ here)) is e.0.1.0 e.0.2 e.0.4 e.1

  -- the only party of a queue ends the sharing with the state after what it has seen
  pub finishes : (cap : Option ℕ) (v : PartyView T) (n : QueueName) (d d' : CallState T) (e : Owned T) → party_view n d ≡ v → v.queue.cap ≡ cap → d' ≡ d → IsEntire d.known.share
      → IsShown e.queue (after cap d'.known.seen) → IsWhole (view_of d'.known) → (cap ≢ None → e.blocks ≡ 0) → Finishes v e
  finishes cap v n d d' e is_v one same entire shown whole none =
      let view_is : view_of d'.known ≡ v.view = ap (λ (z : CallState T). view_of z.known) same ∙ ap (λ (z : PartyView T). z.view) is_v in (
        subst (λ (z : PartyView T). IsEntire z.view.share) is_v entire,
        subst IsWhole view_is whole,
        subst (λ (z : Option ℕ × View T). IsShown e.queue (after z.0 z.1.seen)) (λ i. (sym one i, view_is i)) shown,
        λ some. none (λ e. some (one ∙ e)),
      )

  -- a push is answered as one, and a pop
  pub push_reply : (v w : PartyView T) (x : T) (r : Reply T) → Calls v (call.Push x) r w → (y : _) × (r ≡ reply.Push y)
  push_reply v w x (reply.Push y) calls = (y, refl)
  push_reply v w x _ calls = absurd calls.1.tells

  pub pop_reply : (v w : PartyView T) (r : Reply T) → Calls v call.Pop r w → (y : _) × (r ≡ reply.Pop y)
  pop_reply v w (reply.Pop y) calls = (y, refl)
  pop_reply v w _ calls = absurd calls.1.tells
