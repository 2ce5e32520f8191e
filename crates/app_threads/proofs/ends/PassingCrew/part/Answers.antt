use Rattle.std.proofs.Common.{◌*◌, length, ap, sym, ◌∙◌}
use Rattle.std.proofs.lemmas.{Bool.true≢false, List.length-replicate}
use Rattle.app_threads.{specs.Works.ends_share, specs.Works.ends_taken, proofs.EndWorks.none_work}
use Rattle.app_threads.proofs.ends.PassingCrew.part.Goals as goal

pub returns-in-Err : goal.returns-in-Err
returns-in-Err g c =
    let plan = c.args.self.now.plan in let kept = c.args.kept in let ended = c.end_both.ensures in let none = ended.same.0 ∙ c.requires.2 in (
      (
        none_work c.args.self.now.channel.now.queue plan.items (0 * plan.share) plan.items (ends_taken kept.sender kept.receiver) (ends_share kept.sender kept.receiver) c.end_both.result
            ended.of (λ x. ended.taken x ∙ c.in-Err.ensures.parts x) (λ done. absurd (true≢false (sym done ∙ ended.same.1))) none,
        ap length none ∙ length-replicate plan.items 0,
      ),
      tt,
    )
