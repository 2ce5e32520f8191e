use Rattle.std.proofs.Common.{ℕ, List, ap, sym, subst, refl, ◌∙◌}
use Rattle.queue_steps.specs.{Shares.Share, Shares.IsEntire, Parties.View}
use Rattle.use_shared.specs.Work.{Took}
use Rattle.use_shared.proofs.WorkShifts.{close_takes_none, each_once, none_left, all_took, all_drained}
use Rattle.use_shared.proofs.work.distribute.Goals as goal

pub returns-clause-once : goal.returns-clause-once
returns-clause-once g c =
    let first = c.in_ok-queue.party in let full = c.push_all.new.party in let closed = c.close.new.party in let crew = c.in-Ok.crew in
    let gathered = c.in_ok-handed.ensures in
    let took = subst {A = List ℕ} (Took closed crew.party) (sym gathered.all) (all_took c.in_ok-queue.queue crew.all_started closed crew.party crew.posts.items c.in-Ok.ensures.worked gathered.finished) in
    each_once c.args.jobs first full closed crew.party c.in_ok-handed.handed.items c.in-Ok-finish.left (ap (λ (v : View ℕ). v.mine) c.in_ok-queue.ensures.2) c.in_ok-push_all.ensures
    (close_takes_none full closed c.close.result c.show_view.ensures c.close.ensures) took c.show_view-2.ensures c.in-Ok-finish.ensures c.show_sound.ensures

pub returns-clause-none_left : goal.returns-clause-none_left
returns-clause-none_left g c = λ some.
    let closed = c.close.new.party in let crew = c.in-Ok.crew in
    let entire = subst {A = Share} (λ s. IsEntire s) (sym (c.close.ensures.1.share ∙ (c.in_ok-push_all.ensures.share ∙ ap (λ (v : View ℕ). v.share) c.in_ok-queue.ensures.2))) refl in
    let drained = all_drained c.in_ok-queue.queue crew.all_started closed crew.party crew.posts.items c.in-Ok.ensures.worked c.in_ok-handed.ensures.finished (c.in-Ok.ensures.some entire some) in
    none_left crew.party c.in-Ok-finish.left c.show_view-2.ensures drained c.in-Ok-finish.ensures
