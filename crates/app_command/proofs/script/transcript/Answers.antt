use Rattle.std.proofs.Common.{rules, refl, inl}
use Rattle.app_command.proofs.Transcribing.{Played, part_of_none, part_of_replies, part_of_blocks, part_of_left, all_put}
use Rattle.app_command.proofs.script.transcript.Goals as goal

pub returns-in_default : goal.returns-in_default
returns-in_default g c = (inl refl, part_of_none c.args.kind c.args.calls.now (g.O.Write.contents c.args.output.now))

pub returns-in_default-new : goal.returns-in_default-new
returns-in_default-new g c = (inl refl, part_of_none c.args.kind c.args.calls.now (g.O.Write.contents c.args.output.now))

pub returns-in_err-play : goal.returns-in_err-play
returns-in_err-play g c = search (rules, part_of_replies c.args.kind c.args.calls.now c.in-Ok.queue c.in-Ok-new.pieces (g.O.Write.contents c.args.output.now) (g.O.Write.contents c.play.new.output) c.in-Ok.ensures c.in-Ok-new.ensures c.in_err-play.ensures.1)

pub returns-in_err-put_blocks : goal.returns-in_err-put_blocks
returns-in_err-put_blocks g c =
    let played : Played c.args.kind c.args.calls.now c.play.new.queue c.play.new.pieces (g.O.Write.contents c.args.output.now) (g.O.Write.contents c.play.new.output) =
    record { start = c.in-Ok.queue; held = c.in-Ok-new.pieces; made = c.in-Ok.ensures; none = c.in-Ok-new.ensures; plays = c.in_ok-play.ensures } in
    search (
      rules,
      part_of_blocks c.args.kind c.args.calls.now c.play.new.queue c.blocks-2.result c.play.new.pieces (g.O.Write.contents c.args.output.now)
          (g.O.Write.contents c.play.new.output) (g.O.Write.contents c.put_blocks.new.output) played c.blocks-2.ensures.count,
      c.in_err-put_blocks.ensures.1,
    )

pub returns-in_err-drain : goal.returns-in_err-drain
returns-in_err-drain g c =
    let played : Played c.args.kind c.args.calls.now c.play.new.queue c.play.new.pieces (g.O.Write.contents c.args.output.now) (g.O.Write.contents c.play.new.output) =
    record { start = c.in-Ok.queue; held = c.in-Ok-new.pieces; made = c.in-Ok.ensures; none = c.in-Ok-new.ensures; plays = c.in_ok-play.ensures } in
    search (
      rules,
      part_of_left c.args.kind c.args.calls.now c.play.new.queue c.blocks-2.result c.play.new.pieces c.put_blocks.new.pieces (g.O.Write.contents c.args.output.now)
          (g.O.Write.contents c.play.new.output) (g.O.Write.contents c.put_blocks.new.output) (g.O.Write.contents c.drain.new.output) played c.blocks-2.ensures.count c.in_ok-put_blocks.ensures c.in_err-drain.ensures.1,
    )

pub returns : goal.returns
returns g c =
    let played : Played c.args.kind c.args.calls.now c.play.new.queue c.play.new.pieces (g.O.Write.contents c.args.output.now) (g.O.Write.contents c.play.new.output) =
    record { start = c.in-Ok.queue; held = c.in-Ok-new.pieces; made = c.in-Ok.ensures; none = c.in-Ok-new.ensures; plays = c.in_ok-play.ensures } in
    let put = all_put c.args.kind c.args.calls.now c.play.new.queue c.blocks-2.result c.play.new.pieces c.put_blocks.new.pieces c.drain.new.pieces
    (g.O.Write.contents c.args.output.now) (g.O.Write.contents c.play.new.output) (g.O.Write.contents c.put_blocks.new.output)
    (g.O.Write.contents c.drain.new.output) played c.blocks-2.ensures.count c.in_ok-put_blocks.ensures c.in_ok-drain.ensures in
    search (rules, put)
