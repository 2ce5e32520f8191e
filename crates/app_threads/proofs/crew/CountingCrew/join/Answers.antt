use Rattle.std.proofs.Common.{◌+◌, ◌*◌, ◌∙◌, arith}
use Rattle.app_threads.proofs.Works.{one_more, sums_fit, joined_work}
use Rattle.app_threads.proofs.crew.CountingCrew.join.Goals as goal

pub both-requires-clause-fits : goal.both-requires-clause-fits
both-requires-clause-fits g c =
    let share = c.args.self.now.plan.share in let more = one_more c.args.made share in
    sums_fit (c.args.made * share) share c.args.all.counts.items c.args.back.counts.items (omega (arith, more, c.requires.fits)) c.requires.came.0.counted.few c.requires.worked.counted.few

pub returns : goal.returns
returns g c =
    let plan = c.args.self.now.plan in let parting = c.args.parting in let both = c.both.ensures in let more = one_more c.args.made plan.share in (
      joined_work c.args.self.now.queue.now plan.items (c.args.made * plan.share) plan.share ((c.args.made + 1) * plan.share) parting.whole.value.party parting.kept.value.party parting.given.value
          c.args.all c.args.back c.both.result c.requires.parted.0 c.requires.parted.1 c.requires.came.0 c.requires.worked both.views.0 both.views.1 both.joined
          c.requires.came.1 both.sums both.done (omega (arith, more)),
      both.sums.0 ∙ c.requires.came.1,
    )
