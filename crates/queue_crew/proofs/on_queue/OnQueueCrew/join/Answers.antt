use Rattle.std.proofs.Common.{arith}
use Rattle.queue_crew.proofs.Pieces.{came_more}
use Rattle.queue_crew.proofs.on_queue.OnQueueCrew.join.Goals as goal

pub returns : goal.returns
returns g c =
    let crew = c.args.self.now in let whole = c.args.parting.whole.value.party in let kept = c.args.parting.kept.value.party in let given = c.args.parting.given.value in
    let all = c.args.all in let back = c.args.back in (
      came_more (g.S.Shift.reports crew.shift.now) crew.queue.now crew.on_refusal c.args.all_started c.args.number c.args.made whole kept given all.party back.party c.join.result back.post all.posts.items c.push_reserved.new.self.items
          c.requires.parted.0 c.requires.parted.1 c.requires.came.0 c.requires.worked.0 c.requires.worked.1 c.requires.worked.2 c.show_view.ensures c.show_view-2.ensures c.join.ensures c.push_reserved.ensures.items,
      omega (arith, c.requires.came.1, c.push_reserved.ensures.capacity),
    )
