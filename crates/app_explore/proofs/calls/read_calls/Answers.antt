use Rattle.std.proofs.Common.{◌≡◌, ◌++◌, [], ◌∷◌, ◌<◌, ◌≤◌, length, ◌∙◌, refl, arith}
use Rattle.app_explore.proofs.Parts.{cut_all, cut_stops, cut_long, first_and_more, no_call_there, too_long}
use Rattle.app_explore.proofs.calls.read_calls.Goals as goal

pub returns-in_default : goal.returns-in_default
returns-in_default g c =
    let parts = first_and_more _ c.loop.rest.now _ c.first_part.ensures in
    let none = rw c.in_default.is at c.parse_spaced.ensures in
    (cut_stops c.args.text.now c.loop.rest.now _ parts.0 c.args.most c.loop.calls.items c.loop.invariant.cut parts.1 none, no_call_there c.args.text.now c.loop.rest.now _ parts.0 c.loop.calls.items c.loop.invariant.cut parts.1 none)

pub returns-in-None : goal.returns-in-None
returns-in-None g c =
    let items : c.of.result ≡ c.loop.calls.items ++ c.in-Some.call ∷ [] = c.of.ensures ∙ c.in_ok-push.ensures.items in
    let last = rw c.in-None.is at c.first_part.ensures in
    let below : length c.loop.calls.items < c.args.most = omega (arith, c.loop.invariant.count, c.loop-test.true) in
    rw items (cut_all c.args.text.now c.loop.rest.now _ c.args.most c.loop.calls.items c.in-Some.call c.loop.invariant.cut last c.in-Some.ensures below)

pub returns : goal.returns
returns g c =
    let full : c.args.most ≤ length c.loop.calls.items = omega (arith, c.loop.invariant.count, c.loop-test.false) in
    (cut_long c.args.text.now c.loop.rest.now c.args.most c.loop.calls.items c.loop.invariant.cut full, (refl, too_long c.args.text.now c.loop.rest.now c.args.most c.loop.calls.items c.loop.invariant.cut full))
