-- A party that was parted and joined again has its places and its share.
use Rattle.std.proofs.Common.{◌≡◌, ◌++◌, sym, ◌∙◌, subst, append-nil}
use Rattle.queue_steps.{specs.Effect.IsHistory, specs.Shares.Share, specs.Shares.SamePart, specs.Shares.half, proofs.ShareLaws.same_refl, proofs.ShareLaws.halves_joined}
use Rattle.concurrent_queue.specs.Shared.{QueueId, PartyView, Parts, Joins}
use Rattle.counted_channel.{specs.Channel.End, specs.Channel.GivenBack, proofs.Trying.prefix_on}

module _ {T : Type 0} where
  pub rejoined : (d e : End T) (a b : PartyView T) → e.counts ≡ d.counts → e.stake ≡ d.stake → Parts d.party a b → Joins a b e.party → GivenBack d e
  rejoined d e a b counts stake parts joins =
      let s = parts.2 in let j = joins.1 in
      let one : SamePart a.view.share (half d.party.view.share) = subst (λ (z : Share). SamePart a.view.share z) s.share.0 (same_refl a.view.share) in
      let other : SamePart b.view.share (half d.party.view.share) = subst (λ (z : Share). SamePart b.view.share z) s.share.1 (same_refl b.view.share) in
      record {
        queue = joins.0 ∙ parts.0;
        counts = counts;
        stake = stake;
        begins = prefix_on d.party.view.seen a.view.seen e.party.view.seen s.begins j.begins.0;
        legal = subst (λ (q : QueueId). IsHistory q.cap e.party.view.seen) parts.0 j.legal;
        mine = j.mine ∙ ((λ i. s.mine.0 i ++ s.mine.1 i) ∙ append-nil d.party.view.mine);
        share = subst (λ (z : Share). SamePart z d.party.view.share) (sym j.share) (halves_joined d.party.view.share a.view.share b.view.share one other);
      }
