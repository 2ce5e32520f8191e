use Rattle.std.proofs.Common.{ap, ◌∙◌, subst}
use Rattle.counted_channel.specs.QueueCalls.Calls.{Ends}
use Rattle.counted_channel.proofs.{QueueCalls.Closing.ended_last, QueueCalls.Closing.ended_other, either.SideEndChannelEnd.end_on.Goals.then-last, either.SideEndChannelEnd.end_on.Goals.else-last}
use Rattle.counted_channel.proofs.either.SideEndChannelEnd.end_on.Goals as goal

pub returns-clause-party : goal.returns-clause-party
returns-clause-party g c =
    let was = ap (λ e. e.party) c.self.view_is in
    elim c.if-last.branch [
      | then-last w ↦ rw w.party-is (subst (λ v. Ends v w.close.new.party c.leave-last.result) was (ended_last _ _ _ w.if-last.true w.close.result w.close.ensures))
      | else-last w ↦ ended_other _ _ _ w.if-last.false (w.party-is ∙ was)
    ]
