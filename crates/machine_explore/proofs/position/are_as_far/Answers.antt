use Rattle.machine_explore.proofs.Reading.{same-more, same-whole}
use Rattle.machine_explore.proofs.position.are_as_far.Goals as goal

pub loop-index-preserved : goal.loop-index-preserved
loop-index-preserved g c =
    let so_far = c.loop-index.invariant in
    let same = c.is_same.ensures c.if-not-is_same.false in
    (so_far.0, same-more c.args.parties.now c.args.others.now c.loop-index.index c.index-parties-index.result c.index-others-index.result so_far.0 c.loop-index-test.true c.index-parties-index.is c.index-others-index.is same so_far.1)

pub returns : goal.returns
returns g c = λ yes. same-whole c.args.parties.now c.args.others.now c.loop-index.index c.loop-index.invariant.0 c.loop-index-test.false c.loop-index.invariant.1
