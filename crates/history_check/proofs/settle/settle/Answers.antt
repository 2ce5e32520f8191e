use Rattle.std.proofs.Common.{◌≡◌, ◌∙◌, ◌<◌, get_or, length, arith}
use Rattle.std.proofs.lemmas.Option.{slice_get-get_or}
use Rattle.history_check.specs.Levels.{next_reply}
use Rattle.history_check.proofs.Spreading.{as_good_twice}
use Rattle.history_check.proofs.settle.settle.Goals as goal

pub loop-party-preserved : goal.loop-party-preserved
loop-party-preserved g c =
    λ es known.
    let n = c.loop-party.party in
    let replies = c.args.ahead.now.replies.items in
    let reply = c.index.result.now in
    let inside : n < length replies = let below = c.loop-party-test.true in let count = c.len-party-end.ensures in let its = c.args.ahead.now.replies.ok in omega (arith, below, count, its) in
    let expected : reply ≡ next_reply n es = c.index.ensures ∙ known n (get_or replies n reply) (slice_get-get_or replies n reply inside) in
    as_good_twice es c.args.stage.now c.loop-party.stage c.settle_party.new.stage (c.loop-party.invariant es known) (c.in_ok-settle_party.ensures es expected)
