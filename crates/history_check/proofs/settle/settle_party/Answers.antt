use Rattle.std.proofs.Common.{◌∙◌, sym}
use Rattle.history_check.proofs.Settling.{seen_at_once}
use Rattle.history_check.proofs.settle.settle_party.Goals as goal

pub returns : goal.returns
returns g c =
    λ es known.
    let did = c.see_for_good.ensures.done c.if-not-see_for_good.false in
    rw c.set_last.ensures (seen_at_once c.args.stage.now c.see_for_good.new.self c.args.party c.in-Some.reply es did.0 did.1 (sym known ∙ c.in-Some.is))
