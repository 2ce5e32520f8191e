use Rattle.std.proofs.Common.{◌∙◌, ◌-◌, ◌+◌, ◌<◌, ◌≤◌, arith, length, refl, sym}
use Rattle.machine_memory.specs.Blocks.{without}
use Rattle.machine_steps.specs.ChainLeft.{unread_at, behind_at, chained}
use Rattle.machine_replay.proofs.Chain.Gathering.{first-fits, first-taken, chained-begin, chained-next, chained-end}
use Rattle.machine_replay.proofs.chain_left.gather_blocks.Goals as goal

pub loop-init : goal.loop-init
loop-init g c =
    record {
      items = chained-begin (length c.args.blocks.items) c.args.blocks.items c.args.front c.args.left.items (sym c.args.left.ok.0 ∙ c.requires.empty);
      room = refl;
    }

pub gather_block-at-requires : goal.gather_block-at-requires
gather_block-at-requires g c =
    let n = length c.args.blocks.items in
    let all = chained n c.args.blocks.items c.args.front in
    let in_range : c.loop.counter < n = omega (arith, c.loop-test.true, c.len-end.ensures, c.args.blocks.ok.0) in
    let rest = chained (n - (c.loop.counter + 1)) (without c.loop.at c.loop.blocks.items) (behind_at c.loop.blocks.items c.loop.at) in
    let fits = first-fits c.loop.left.items (unread_at c.loop.blocks.items c.loop.at) rest all (chained-next n c.loop.counter c.loop.blocks.items c.loop.at c.loop.left.items all in_range c.loop.invariant.items) in
    omega (arith, fits, c.requires.room, c.loop.invariant.room, c.loop.left.ok.0)

pub loop-preserved : goal.loop-preserved
loop-preserved g c =
    let n = length c.args.blocks.items in
    let all = chained n c.args.blocks.items c.args.front in
    let in_range : c.loop.counter < n = omega (arith, c.loop-test.true, c.len-end.ensures, c.args.blocks.ok.0) in
    let rest = chained (n - (c.loop.counter + 1)) (without c.loop.at c.loop.blocks.items) (behind_at c.loop.blocks.items c.loop.at) in
    record {
      items = rw (c.gather_block-at.ensures.left, c.gather_block-at.ensures.blocks, c.gather_block-at.ensures.behind) (
          first-taken c.loop.left.items (unread_at c.loop.blocks.items c.loop.at) rest all (chained-next n c.loop.counter c.loop.blocks.items c.loop.at c.loop.left.items all in_range c.loop.invariant.items));
      room = c.gather_block-at.ensures.room ∙ c.loop.invariant.room;
    }

pub returns : goal.returns
returns g c =
    let n = length c.args.blocks.items in
    let past : n ≤ c.loop.counter = omega (arith, c.loop-test.false, c.len-end.ensures, c.args.blocks.ok.0) in
    chained-end n c.loop.counter c.loop.blocks.items c.loop.at c.loop.left.items (chained n c.args.blocks.items c.args.front) past c.loop.invariant.items
