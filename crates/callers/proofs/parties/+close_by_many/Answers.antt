use Rattle.std.proofs.Common.{rules, sym, subst}
use Rattle.queue_steps.specs.Shares.{SamePart, plus}
use Rattle.queue_steps.proofs.ShareLaws.{halves_joined, same_refl}
use Rattle.callers.proofs.parties.+close_by_many.Goals as goal

pub returns-in-Ok : goal.returns-in-Ok
returns-in-Ok t c =
    let share = c.args.party.view.share in let parted = c.in-Ok.ensures.2.share in
    let one = c.in-Ok.first.view.share in let other = c.close_by_many-second.result.0.view.share in
    let halves = halves_joined c.close.new.party.view.share one other (subst (SamePart one) parted.0 (same_refl one)) (subst (SamePart other) parted.1 c.close_by_many-second.ensures.1) in
    (search rules, subst (λ z. SamePart z share) (sym c.join.ensures.1.share) (subst (SamePart (plus one other)) c.close.ensures.1.share halves))
