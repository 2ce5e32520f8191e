use Rattle.std.proofs.Common.{◌∙◌, sym}
use Rattle.shared_calls.proofs.Quits.{may_quit}
use Rattle.shared_calls.proofs.quitting.quit_at.Goals as goal

pub quit-requires-clause-may : goal.quit-requires-clause-may
quit-requires-clause-may g c =
    let K = g.K.TableKind.layout c.args.table.now.table.shared.table_id.slots in
    (may_quit K c.args.seat.now c.args.left _ _ _ c.requires.halts (sym c.next.ensures ∙ c.in-Step.is) (sym c.is_early.ensures ∙ c.if-is_early.true)).0
