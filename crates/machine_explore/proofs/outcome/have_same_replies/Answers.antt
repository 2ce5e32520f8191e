use Rattle.std.proofs.Common.{◌∙◌, sym}
use Rattle.machine_explore.proofs.Reading.{same-more, same-whole}
use Rattle.machine_explore.proofs.outcome.have_same_replies.Goals as goal

pub loop-index-preserved : goal.loop-index-preserved
loop-index-preserved g c =
    let so_far = c.loop-index.invariant in
    let same = sym c.as_slice.ensures ∙ c.are_same.ensures c.if-not-are_same.false ∙ c.as_slice-in-loop-index.ensures in
    (so_far.0, same-more c.args.parties.now c.args.others.now c.loop-index.index c.index-parties-index.result c.index-others-index.result so_far.0 c.loop-index-test.true c.index-parties-index.is c.index-others-index.is same so_far.1)

pub returns : goal.returns
returns g c = λ yes. same-whole c.args.parties.now c.args.others.now c.loop-index.index c.loop-index.invariant.0 c.loop-index-test.false c.loop-index.invariant.1
