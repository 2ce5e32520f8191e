use Rattle.std.proofs.Common.{rules, [], ◌∷◌}
use Rattle.std.specs.Fmt.{decimal}
use Rattle.app_text.proofs.Writing.{puts-both, puts-first}
use Rattle.app_command.proofs.script.put_item.Goals as goal

pub returns-in_err-put : goal.returns-in_err-put
returns-in_err-put g c = search (rules, puts-first c.args.pieces.now (32 ∷ []) (decimal c.args.item) (g.O.Write.contents c.args.output.now) (g.O.Write.contents c.put.new.output) c.in_err-put.ensures.1)

pub returns : goal.returns
returns g c = puts-both _ _ _ _ _ _ _ _ c.put_number.result c.in_ok-put.ensures c.put_number.ensures
