use Rattle.std.proofs.Common.{◌≡◌, ap, map, string_bytes}
use Rattle.std.proofs.lemmas.Result.{IfOk-from_err}
use Rattle.machine_explore.specs.Traces.{Seen}
use Rattle.app_explore.{specs.Lanes.cell_text, proofs.Drawing.cell_is, proofs.Mapped.mapped_more, proofs.Mapped.mapped_all}
use Rattle.app_explore.proofs.lanes.cells_of.Goals as goal

pub loop-entry-init : goal.loop-entry-init
loop-entry-init g c = ap (map string_bytes) c.new-cells.ensures.items

pub loop-entry-preserved : goal.loop-entry-preserved
loop-entry-preserved g c =
    let s : Seen = c.entry-item.result in
    let cell : string_bytes c.write_told.new.text ≡ cell_text s
    = cell_is s c.event.result c.local.result c.told.result (string_bytes c.new-cell.result) (string_bytes c.write_move.new.text) (string_bytes c.write_told.new.text)
    c.event.ensures c.local.ensures c.told.ensures c.new-cell.ensures.bytes c.in_ok-write_move.ensures c.in_ok-write_told.ensures in
    mapped_more string_bytes cell_text c.args.seen.now c.loop-entry.entry-index c.loop-entry.cells.items c.push.new.self.items c.write_told.new.text s
    c.loop-entry-test.true c.entry-item.is c.loop-entry.invariant cell c.in_ok-push.ensures.items

pub returns : goal.returns
returns g c = mapped_all string_bytes cell_text c.args.seen.now c.loop-entry.entry-index c.loop-entry.cells.items c.loop-entry.invariant c.loop-entry-test.false

pub returns-in_err-write_move : goal.returns-in_err-write_move
returns-in_err-write_move g c = IfOk-from_err c.from_residual.result _ c.from_residual.ensures.0

pub returns-in_err-write_told : goal.returns-in_err-write_told
returns-in_err-write_told g c = IfOk-from_err c.from_residual-in_err-write_told.result _ c.from_residual-in_err-write_told.ensures.0

pub returns-in_err-push : goal.returns-in_err-push
returns-in_err-push g c = IfOk-from_err c.from_residual-in_err-push.result _ c.from_residual-in_err-push.ensures.0
