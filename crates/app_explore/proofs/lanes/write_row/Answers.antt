use Rattle.std.proofs.Common.{◌==◌, [], if◌then◌else◌, string_bytes}
use Rattle.app_explore.proofs.Drawing.{column_more}
use Rattle.app_explore.proofs.lanes.write_row.Goals as goal

pub loop-column-preserved : goal.loop-column-preserved
loop-column-preserved g c =
    column_more (λ q. if q == c.args.party then c.args.cell.now else []) c.loop-column.column c.args.grid.width c.cell_at.result.now (string_bytes c.args.text.now)
    (string_bytes c.loop-column.text) (string_bytes c.write_column.new.text) c.loop-column.invariant c.cell_at.ensures c.in_ok-write_column.ensures
