use Rattle.std.proofs.Common.{◌+◌, ap, ◌∙◌}
use Rattle.queue_steps.specs.Shares.{Share, plus}
use Rattle.law_parties.specs.Doings.{takes}
use Rattle.app_threads.proofs.Works.{takes_both}
use Rattle.app_threads.proofs.handshake.unite.Goals as goal

pub returns-clause-unites : goal.returns-clause-unites
returns-clause-unites c =
    let one = c.join-party.ensures in let two = c.join.ensures in let of = c.requires in let q = c.args.queue.now in
    let first = takes_both q c.args.first c.args.second c.join-party.result of.0 of.1 c.show_view.ensures c.show_view-2.ensures one in
    let all = takes_both q c.join-party.result c.args.third c.join.result (one.0 ∙ of.0) of.2 c.show_view-3.ensures c.show_view-4.ensures two in
    (two.1.share ∙ ap (λ (s : Share). plus s c.args.third.view.share) one.1.share, λ x. all x ∙ (λ i. first x i + takes x c.args.third.view))
