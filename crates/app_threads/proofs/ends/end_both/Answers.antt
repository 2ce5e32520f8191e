use Rattle.std.proofs.Common.{◌+◌, ◌∙◌}
use Rattle.app_threads.proofs.Works.{takes_both}
use Rattle.app_threads.proofs.ends.end_both.Goals as goal

pub returns-clause-taken : goal.returns-clause-taken
returns-clause-taken g c x =
    let one = c.end_sending-first.ensures in let two = c.end_receiving-second.ensures in
    takes_both c.args.channel.now.queue c.end_sending-first.result c.end_receiving-second.result c.join.result (one.queue ∙ c.requires.0.0) (two.queue ∙ c.requires.1.0)
    c.show_view.ensures c.show_view-2.ensures c.join.ensures x ∙ (λ i. one.taken x i + two.taken x i)
