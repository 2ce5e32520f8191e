-- What the party of a call that was given up is then.
use Rattle.std.proofs.Common.{◌≡◌, ℕ, true, List, [], ◌++◌, Option, None, refl, ap, ◌∙◌}
use Rattle.std.proofs.lemmas.List.{append-nil}
use Rattle.atomic_table.specs.{Seated.TableId, declared.shared.Seat.Seat}
use Rattle.mem_blocks.specs.{Seats.Same, declared.block.BlockPtr.BlockPtr as Link, declared.web.Rested.Rested}
use Rattle.queue_steps.specs.{declared.model.Call.Call as call, declared.model.Effect.Effect, declared.model.Reply.Reply, declared.model.Reply.Reply as reply, Replies.Tells, SequentialCalls.SequentialCall}
use Rattle.shared_parties.{specs.declared.known.CallState.CallState, specs.Known.view_of, specs.Calling.cap_of, specs.Quitting.its_call, proofs.Quits.places_none, proofs.Quits.quit_looks}
use Rattle.shared_tables.specs.{Quitting.HasQuit, Seats.view_at, TableRule.TableOf}
use Rattle.shared_chain.specs.{declared.web.ChainWeb.ChainWeb, ChainCalls.chain_calls, Quitting.HasQuit as HasQuitIn}
use Rattle.shared_calls.specs.declared.{chain.Asking.Asking, left.Left.Left}
use Rattle.concurrent_queue.specs.{declared.party.SeatPlace.SeatPlace as place, Begun.Begun, SawMore.SawMore, Shared.PartyView, Shared.IsHeld, Shared.Calls, Shared.party_view_of, Pending.StopsHere, Pending.StopsInside}
use Rattle.concurrent_queue.proofs.{Stops.first_seat, Stops.comes_back, StopsIn.first_asking, StopsIn.comes_back_in}

module _ {T : Type 0} where
  told_none : (r : Reply T) (es : List (Effect T)) → Tells call.Capacity r es → es ≡ []
  told_none (reply.Capacity c) es tells = tells
  told_none _ es tells = absurd tells

  -- a party that asked for the capacity has done nothing
  pub saw_more : (v w : PartyView T) (r : Reply T) → Calls v call.Capacity r w → SawMore v w
  saw_more v w r (queue_is, calls, alone) = (queue_is, calls.begins, mine, calls.share, λ entire. λ i. record { seen = seen (alone entire) i; mine = mine i; share = calls.share i })
    where
      mine : w.view.mine ≡ v.view.mine
      mine = calls.mine ∙ (ap (λ (ps : List ℕ). v.view.mine ++ ps) (places_none w.view.seen _ calls.places calls.effects (told_none r calls.effects calls.tells) calls.stand) ∙ append-nil v.view.mine)

      seen : SequentialCall v.queue.cap v.view w.view call.Capacity r → w.view.seen ≡ v.view.seen
      seen s = s.seen ∙ (ap (λ (es : List (Effect T)). v.view.seen ++ es) (told_none r s.effects s.tells) ∙ append-nil v.view.seen)

module _ {T : Type 0} (K : ℕ → TableOf T) (t : TableId) where
  -- the party of a call that was given up
  pub given_back : (s q : Seat (Option T) (CallState T)) (l : Left T ℕ) (v : Begun T) → StopsHere K t s l v → q.table_id ≡ s.table_id → HasQuit (K t.slots).calls s.me q.me
      → IsHeld (place.Table q) × SawMore v.party (party_view_of (place.Table q))
  given_back s q l v old same (quit, none, carried) =
      let cap = cap_of (K t.slots).calls in
      let h = comes_back K t s q l v call.Capacity (reply.Capacity cap) old ((same ∙ old.0, (quit.rests, none), quit.cap, quit.legal, quit.owns), quit_looks (K t.slots).calls (its_call s.me.0) q.me.0 (view_at (first_seat K t s).me) refl quit) in
      (h.0, saw_more v.party (party_view_of (place.Table q)) (reply.Capacity cap) h.1)

module _ {T A Q : Type 0} (w : ChainWeb T A) where
  pub given_back_in : (s q : Asking T A Q) (l : Left T (Link T)) (v : Begun T) (r : Rested (CallState T)) → StopsInside w s l v → Same q.seat s.seat → HasQuitIn s.seat.sitter q.seat.sitter
      → r.asleep ≡ true → r.web ≡ q.seat.web → r.view ≡ q.seat.sitter.view → IsHeld (place.Web r) × SawMore v.party (party_view_of (place.Web r))
  given_back_in s q l v r old same (quit, hand, spare, carried) asleep web view =
      let first = (first_asking w s).seat.sitter.view in
      let h = comes_back_in w s q l v call.Capacity (reply.Capacity None) r old
      (((same.0 ∙ old.0.0, same.1 ∙ old.0.1), (hand, spare, quit.rests, quit.cap, quit.legal, quit.owns)), quit_looks chain_calls (its_call s.seat.sitter.view) q.seat.sitter.view (view_of first.known) refl quit) asleep web view in
      (h.0, saw_more v.party (party_view_of (place.Web r)) (reply.Capacity None) h.1)
