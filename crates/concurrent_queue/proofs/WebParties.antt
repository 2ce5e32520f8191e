-- A party of a shared chain whose call ended, as contracts see it.
use Rattle.std.proofs.Common.{◌≡◌, true, None, sym, ap, subst}
use Rattle.mem_blocks.specs.declared.web.Rested.{Rested}
use Rattle.queue_steps.specs.declared.model.{Call.Call, Reply.Reply}
use Rattle.shared_parties.{specs.declared.known.CallState.CallState, specs.Parting.IsParty, proofs.Views.ended_party}
use Rattle.shared_calls.specs.InWeb.{EndedAt}
use Rattle.concurrent_queue.specs.{declared.party.SeatPlace.SeatPlace, declared.party.SeatPlace.SeatPlace as place, Shared.PartyView, Shared.party_view, Shared.party_view_of, Shared.in_web, Shared.IsHeld, Shared.Calls}
use Rattle.concurrent_queue.proofs.PartyViews.{calls_party_view}

module _ {T : Type 0} where
  -- it is a party of its queue again
  pub held_ended : (r q : Rested (CallState T)) (c : Call T) (y : Reply T) → IsParty r.view → EndedAt r c y q → IsParty q.view × (q.asleep ≡ true)
  held_ended r q c y party ended = (ended_party None r.view q.view c y party ended.2 ended.3 ended.4 ended.5, ended.0)

  -- and its call is one that contracts see
  pub calls_ended : (r q : Rested (CallState T)) (v : PartyView T) (c : Call T) (y : Reply T) → party_view (in_web r.web) r.view ≡ v → v.queue.cap ≡ None → IsParty r.view → EndedAt r c y q → Calls v c y (party_view (in_web q.web) q.view)
  calls_ended r q v c y is_v none party ended = calls_party_view None (in_web r.web) (in_web q.web) r.view q.view v c y is_v none (ap in_web ended.1) party ended.2 ended.3 ended.4 ended.5

  -- both of its place
  pub web_ends : (a b : SeatPlace T) (r q : Rested (CallState T)) (v : PartyView T) (c : Call T) (y z : Reply T) → a ≡ place.Web r → IsHeld a → b ≡ place.Web q → z ≡ y → party_view_of a ≡ v → v.queue.cap ≡ None → EndedAt r c y q
      → IsHeld b × Calls v c z (party_view_of b)
  web_ends a b r q v c y z rested is resting same is_v none ended =
      let held : IsHeld (place.Web r) = subst IsHeld rested is in (
        subst IsHeld (sym resting) (held_ended r q c y held.0 ended),
        subst (λ p. Calls v c z (party_view_of p)) (sym resting) (subst (λ x. Calls v c x (party_view_of (place.Web q))) (sym same) (calls_ended r q v c y (subst (λ p. party_view_of p ≡ v) rested is_v) none held.0 ended)),
      )
