use Rattle.law_parties.proofs.Doings.{acts_none}
use Rattle.app_threads.proofs.Works.{close_quits, meeting}
use Rattle.app_threads.proofs.handshake.start_both.Goals as goal

pub returns-in-Ok-Ok : goal.returns-in-Ok-Ok
returns-in-Ok-Ok g c =
    let opener = rw c.in-Ok-Ok.is-0 at c.start-opener.ensures.ok in let other = rw c.in-Ok-Ok.is-1 at c.start-other.ensures.ok in
    let promised = rw opener at c.join.ensures in let offered = rw c.of.ensures at promised in
    let promised_too = rw other at c.join-in-Ok-Ok.ensures in let replied = rw c.of-2.ensures at promised_too in let both = c.both.ensures in
    meeting c.args.there.now c.args.back.now c.args.kept c.args.first c.args.second c.join.result c.join-in-Ok-Ok.result c.both.result
    c.requires.parts offered replied both.of both.came both.sends both.takes

pub returns : goal.returns
returns g c =
    let sends = c.args.kept.sends in let takes = c.args.kept.takes in (
      (close_quits sends sends c.close.new.party c.close.result c.show_view.ensures (acts_none sends) c.close.ensures).closed,
      (close_quits takes takes c.close-2.new.party c.close-2.result c.show_view-2.ensures (acts_none takes) c.close-2.ensures).closed,
    )
