use Rattle.std.proofs.Common.{◌∙◌, sym}
use Rattle.shared_calls.proofs.Quits.{may_quit_in}
use Rattle.shared_calls.proofs.quitting.quit_in.Goals as goal

pub quit-requires-clause-may : goal.quit-requires-clause-may
quit-requires-clause-may g c =
    (may_quit_in c.args.asking.now c.args.left c.in-Step.local c.in-Step.field-1 c.in-Step.field-2 c.requires.halts (sym c.next.ensures ∙ c.in-Step.is) (sym c.is_early.ensures ∙ c.if-is_early.true)).0

pub quit-requires-clause-spare : goal.quit-requires-clause-spare
quit-requires-clause-spare g c =
    c.spare_at.ensures
    ∙ (may_quit_in c.args.asking.now c.args.left c.in-Step.local c.in-Step.field-1 c.in-Step.field-2 c.requires.halts (sym c.next.ensures ∙ c.in-Step.is) (sym c.is_early.ensures ∙ c.if-is_early.true)).1

pub returns-then-is_early-clause-quits : goal.returns-then-is_early-clause-quits
returns-then-is_early-clause-quits g c = (
  c.quit.ensures.same,
  c.quit.ensures.quit,
  (may_quit_in c.args.asking.now c.args.left c.in-Step.local c.in-Step.field-1 c.in-Step.field-2 c.requires.halts (sym c.next.ensures ∙ c.in-Step.is) (sym c.is_early.ensures ∙ c.if-is_early.true)).2 ∙ c.quit.ensures.quit.3,
)
