use Rattle.std.proofs.Common.{sym, subst}
use Rattle.queue_steps.specs.Shares.{Share, SamePart}
use Rattle.queue_steps.proofs.ShareLaws.{same_refl}
use Rattle.queue_crew.proofs.Pieces.{came_none}
use Rattle.queue_crew.proofs.on_queue.OnQueueCrew.end.Goals as goal

pub returns : goal.returns
returns g c =
    let crew = c.args.self.now in let v = c.args.kept.party in let w = c.leave.new.party in
    let share = subst {A = Share} (λ s. SamePart s v.view.share) (sym c.leave.ensures.share) (same_refl v.view.share) in
    (came_none (g.S.Shift.reports crew.shift.now) crew.queue.now crew.on_refusal c.args.all_started c.args._number v w c.args.kept.posts.items c.leave.ensures.of share c.leave.ensures.kept c.requires.1, c.requires.2)
