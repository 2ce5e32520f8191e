use Rattle.std.proofs.Common.{◌∙◌, sym}
use Rattle.machine_explore.proofs.Rounds.{not_sent_back}
use Rattle.machine_explore.proofs.check_waits.may_be_sent_back.Goals as goal

pub returns-then-stand_apart : goal.returns-then-stand_apart
returns-then-stand_apart g c = λ no back.
    not_sent_back c.args.position.now c.in_ok-later.later c.take.new.self c.args.party c.local-here.result c.local-there.result c.in_ok-later.ensures c.in_ok-take.ensures.leads c.local-here.ensures c.local-there.ensures
    (c.stand_apart.ensures c.if-stand_apart.true) (sym c.is_first.ensures ∙ c.if-is_first.false) back
