use Rattle.std.proofs.Common.{◌*◌, length, refl, ap, ◌∙◌}
use Rattle.std.proofs.lemmas.List.{length-replicate}
use Rattle.app_threads.proofs.Works.{none_taken, none_few, quit_work}
use Rattle.app_threads.proofs.crew.CountingCrew.end.Goals as goal

pub returns-then-not-all_started : goal.returns-then-not-all_started
returns-then-not-all_started g c =
    let plan = c.args.self.now.plan in let v = c.args.kept.party in let work = c.give_up.result in let given = c.give_up.ensures in let none = given.same.0 ∙ c.requires.1 in (
      quit_work c.args.self.now.queue.now plan.items (0 * plan.share) v v work c.requires.0 refl (none_taken plan.items plan.items v v work.counts.items none (λ x. refl))
          (none_few (0 * plan.share) plan.items work.counts.items none) given.quits given.same.1,
      ap length none ∙ length-replicate plan.items 0,
    )
