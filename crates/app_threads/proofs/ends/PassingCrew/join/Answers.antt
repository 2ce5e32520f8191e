use Rattle.std.proofs.Common.{◌+◌, ◌*◌, ◌∙◌, arith}
use Rattle.app_threads.proofs.{Works.one_more, Works.sums_fit, EndWorks.parted_work}
use Rattle.app_threads.proofs.ends.PassingCrew.join.Goals as goal

pub both-requires-clause-fits : goal.both-requires-clause-fits
both-requires-clause-fits g c =
    let share = c.args.self.now.plan.share in let more = one_more c.args.made share in
    sums_fit (c.args.made * share) share c.args.all.counts.items c.args.back.counts.items (omega (arith, more, c.requires.fits)) c.requires.came.0.few c.requires.worked.few

pub returns : goal.returns
returns g c =
    let plan = c.args.self.now.plan in let whole = c.args.parting.whole.value in let kept = c.args.parting.kept.value in let both = c.both.ensures in let more = one_more c.args.made plan.share in (
      parted_work c.args.self.now.channel.now.queue plan.items (c.args.made * plan.share) plan.share ((c.args.made + 1) * plan.share) whole.sender whole.receiver kept.sender kept.receiver
          c.args.parting.given.value c.args.all c.args.back c.both.result c.requires.parted c.requires.came.0 c.requires.worked both.views.0 both.views.1 both.joined
          c.requires.came.1 both.sums both.done (omega (arith, more)),
      both.sums.0 ∙ c.requires.came.1,
    )
