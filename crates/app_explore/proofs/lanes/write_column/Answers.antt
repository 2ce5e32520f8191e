use Rattle.std.proofs.Common.{◌≡◌, ◌-◌, arith, length, string_bytes}
use Rattle.app_explore.proofs.Drawing.{column_ends}
use Rattle.app_explore.proofs.lanes.write_column.Goals as goal

pub returns : goal.returns
returns g c =
    let wide : c.loop-place._place ≡ c.args.grid.width - length c.args.cell.now = let past = c.loop-place-test.false in let most = c.loop-place.auto._place-end in let gap = c.saturating_sub-place-end.ensures in omega (arith, past, most, gap) in
    column_ends c.push_str-3.result c.args.grid.width c.loop-place._place c.args.cell.now (string_bytes c.args.text.now) (string_bytes c.loop-place.text) (string_bytes c.push_str-3.new.self) wide c.loop-place.invariant c.push_str-3.ensures.bytes
