use Rattle.std.proofs.Common.{◌≡◌}
use Rattle.history_check.{specs.declared.recorded.Move.Move, proofs.Spreading.has_more, proofs.Spreading.waits}
use Rattle.history_check.proofs.level.Level.spread_waiting.Goals as goal

pub returns-in_default-clause-has : goal.returns-in_default-clause-has
returns-in_default-clause-has g c =
    λ es known.
    let w = c.requires.waits in
    waits c.args.self.now es c.args.stage.now c.args.party c.args.call w.0 w.1 c.args.expected c.reply_to.result c.reply_to.ensures.recorded c.reply_to.ensures.acts (λ r is. absurd (let none = c.in_default.is in cc))

pub returns-clause-has : goal.returns-clause-has
returns-clause-has g c =
    λ es known.
    let s = c.args.stage.now in
    let see = Move.See c.args.party c.in-Some.reply in
    let act = Move.Act c.args.party c.in-Some.reply in
    let two = c.follow-2.new.self in
    let three = c.follow_displacement.new.self in
    let then = c.follow_displacement.ensures.keeps in
    let sees = has_more two three es s see then (has_more c.follow.new.self two es s see c.follow-2.ensures.keeps (c.in_ok-follow.ensures.has es known)) in
    let acts = has_more two three es s act then (c.in_ok-follow-2.ensures.has es known) in
    let displaces = c.in_ok-follow_displacement.ensures in
    let w = c.requires.waits in
    waits three es s c.args.party c.args.call w.0 w.1 c.args.expected c.reply_to.result c.reply_to.ensures.recorded c.reply_to.ensures.acts (λ r is. let same : c.in-Some.reply ≡ r = let got = c.in-Some.is in cc in rw (← same) (sees, acts, displaces.part es known, displaces.displace es known))
