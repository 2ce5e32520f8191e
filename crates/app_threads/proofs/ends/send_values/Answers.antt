use Rattle.std.proofs.Common.{◌∙◌}
use Rattle.app_threads.proofs.EndWorks.{sent_nothing, took_nothing}
use Rattle.app_threads.proofs.ends.send_values.Goals as goal

pub returns-then-is_err : goal.returns-then-is_err
returns-then-is_err g c =
    let before = c.loop-value.invariant in let made = c.send.ensures in (
      made.1 ∙ before.0,
      took_nothing c.args.sender.now.party c.loop-value.sender.party c.send.new.sender.party before.1
          (sent_nothing c.loop-value.sender.party c.send.new.sender.party c.loop-value.value c.send.result c.show_view.ensures made.0),
    )

pub loop-value-preserved : goal.loop-value-preserved
loop-value-preserved g c =
    let before = c.loop-value.invariant in let made = c.send.ensures in (
      made.1 ∙ before.0,
      took_nothing c.args.sender.now.party c.loop-value.sender.party c.send.new.sender.party before.1
          (sent_nothing c.loop-value.sender.party c.send.new.sender.party c.loop-value.value c.send.result c.show_view.ensures made.0),
    )
