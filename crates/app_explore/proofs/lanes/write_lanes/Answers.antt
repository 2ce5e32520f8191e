use Rattle.std.proofs.Common.{◌≡◌, ◌∙◌, ◌++◌, [], ℕ, OnOk, ap, map, string_bytes, subst}
use Rattle.std.proofs.lemmas.Result.{IfOk-from_err}
use Rattle.app_explore.specs.Lanes.{cell_text, head_text, row_text, rows_text, widest}
use Rattle.app_explore.proofs.Tallies.{joined}
use Rattle.app_explore.proofs.lanes.write_lanes.Goals as goal

pub write_rows-requires : goal.write_rows-requires
write_rows-requires g c = ap (map string_bytes) c.deref-2.ensures.value ∙ c.in_ok-cells.ensures

pub returns : goal.returns
returns g c =
    let n = c.args.parties in
    let start = string_bytes c.args.text.now in
    let new = string_bytes c.write_rows.new.text in
    let wide = c.widest.result in
    let width : c.widest.result ≡ widest 1 (map cell_text c.args.seen.now) = c.widest.ensures ∙ ap (widest 1) (ap (map string_bytes) c.deref.ensures.value ∙ c.in_ok-cells.ensures) in
    subst {A = ℕ} (λ w. OnOk c.write_rows.result (new ≡ start ++ (head_text n w ++ row_text n w 0 [] c.args.opening.now ++ rows_text n w c.args.seen.now))) width
    (joined start (string_bytes c.write_head.new.text) (string_bytes c.write_row.new.text) new (head_text n wide) (row_text n wide 0 [] c.args.opening.now) (rows_text n wide c.args.seen.now) c.write_rows.result c.in_ok-write_head.ensures c.in_ok-write_row.ensures c.write_rows.ensures)

pub returns-in_err-cells : goal.returns-in_err-cells
returns-in_err-cells g c = IfOk-from_err c.from_residual.result _ c.from_residual.ensures.0

pub returns-in_err-write_head : goal.returns-in_err-write_head
returns-in_err-write_head g c = IfOk-from_err c.from_residual-in_err-write_head.result _ c.from_residual-in_err-write_head.ensures.0

pub returns-in_err-write_row : goal.returns-in_err-write_row
returns-in_err-write_row g c = IfOk-from_err c.from_residual-in_err-write_row.result _ c.from_residual-in_err-write_row.ensures.0
