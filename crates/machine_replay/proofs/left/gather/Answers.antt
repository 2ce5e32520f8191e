use Rattle.std.proofs.Common.{arith, ◌-◌}
use Rattle.machine_steps.specs.Left.{gathered}
use Rattle.machine_replay.proofs.Engine.Gathering.{gathered-next, gathered-room}
use Rattle.machine_replay.proofs.left.gather.Goals as goal

pub gather_one-requires : goal.gather_one-requires
gather_one-requires g c =
    let room = gathered-room c.args.cap c.loop-position.position c.args.end c.loop-position.slots.items c.loop-position.left.items (gathered c.args.cap c.args.head (c.args.end - c.args.head) c.args.slots.items) c.loop-position-test.true c.loop-position.invariant.items in
    omega (arith, room, c.requires.room, c.loop-position.invariant.room, c.loop-position.left.ok.0)

pub loop-position-preserved : goal.loop-position-preserved
loop-position-preserved g c =
    record {
      items = rw (c.gather_one.ensures.left, c.gather_one.ensures.slots) (gathered-next c.args.cap c.loop-position.position c.args.end c.loop-position.slots.items c.loop-position.left.items
          (gathered c.args.cap c.args.head (c.args.end - c.args.head) c.args.slots.items) c.loop-position-test.true c.loop-position.invariant.items);
      room = rw c.gather_one.ensures.room c.loop-position.invariant.room;
    }
