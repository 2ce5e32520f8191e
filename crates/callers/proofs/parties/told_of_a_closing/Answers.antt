use Rattle.std.proofs.Common.{◌∙◌, sym}
use Rattle.callers.proofs.Closings.{found-closed, met-closed, told-closed}
use Rattle.callers.proofs.parties.told_of_a_closing.Goals as goal

pub returns : goal.returns
returns c =
    λ found.
    let saw = found-closed c.args.first.now c.is_closed-found.new.party (rw found at c.is_closed-found.ensures) in
    told-closed c.meet.new.second c.is_closed-told.new.party c.is_closed-told.result c.is_closed-told.ensures
    (met-closed c.is_closed-found.new.party c.args.second.now c.meet.new.first c.meet.new.second (c.requires.1 ∙ sym (c.is_closed-found.ensures.0 ∙ c.requires.0)) c.meet.ensures saw)
