use Rattle.std.proofs.Common.{◌∙◌, sym}
use Rattle.history_check.specs.LeftOut.{is_among}
use Rattle.history_check.proofs.LeftOut.{begin_remains}
use Rattle.history_check.proofs.left_out.remains.Goals as goal

pub returns-then-mark : goal.returns-then-mark
returns-then-mark c = rw c.in-Begin.is (λ es expects.
    begin_remains (is_among c.args.kept.now) c.args.looks c.args.replies.now c.args.outs.now c.mark.new.outs c.in-Begin.party c.in-Begin.call c.in-Some.reply c.is_left_out-out.result es
    (sym c.noted.ensures ∙ c.in-Some.is) c.is_left_out-out.ensures (c.mark.ensures c.if-mark.true) expects)
