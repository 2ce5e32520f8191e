use Rattle.std.proofs.Common.{◌∙◌, subst, false}
use Rattle.concurrent_queue.specs.Shared.{PartyView}
use Rattle.queue_crew.specs.Coming.{Came}
use Rattle.queue_crew.proofs.on_queue.OnQueueCrew.part.Goals as goal

pub returns-in-Ok : goal.returns-in-Ok
returns-in-Ok g c =
    let parts = c.in-Ok.ensures in
    ((parts.0 ∙ c.requires.0, c.requires.1, c.requires.2), (parts.1 ∙ c.requires.0, parts.2.mine.1), (c.show_view.ensures, parts))

pub returns-in-Err : goal.returns-in-Err
returns-in-Err g c =
    let crew = c.args.self.now in let end = c.end.result in
    ((subst {A = PartyView g.row.T.Denot} (λ v. Came (g.S.Shift.reports crew.shift.now) crew.queue.now crew.on_refusal false c.args.number 0 v end.party end.posts.items) c.in-Err.ensures.0 c.end.ensures.0, c.end.ensures.1), c.in-Err.ensures.1)
