use Rattle.std.proofs.Common.{◌∙◌, ◌++◌, ap, append-nil, string_bytes, sym}
use Rattle.std.proofs.lemmas.List.{take_all}
use Rattle.machine_replay.specs.Conforms.{party_of}
use Rattle.machine_explore.specs.Traces.{Seen}
use Rattle.app_explore.specs.Lanes.{cell_text, row_text, rows_text}
use Rattle.app_explore.proofs.Drawing.{row_more, same_at, within_same}
use Rattle.app_explore.proofs.lanes.write_rows.Goals as goal

pub loop-index-preserved : goal.loop-index-preserved
loop-index-preserved g c =
    let s : Seen = c.index-seen-index.result in
    let parties = c.args.grid.parties in
    let width = c.args.grid.width in
    let cell = c.as_str.ensures.value ∙ same_at string_bytes cell_text c.args.cells.now c.args.seen.now c.loop-index.index c.index-cells-index.result s c.requires c.loop-index-test.true c.index-cells-index.is c.index-seen-index.is in
    let row = ap (λ p. row_text parties width p c.as_str.result.now c.list.result.now) (c.party_of.ensures ∙ ap party_of c.event.ensures) ∙ ap
    (λ l. row_text parties width (party_of s.event) l c.list.result.now) cell ∙ ap (λ l. row_text parties width (party_of s.event) (cell_text s) l) c.list.ensures in
    row_more (λ (x : Seen). row_text parties width (party_of x.event) (cell_text x) x.list) c.args.seen.now c.loop-index.index s
    (row_text parties width c.party_of.result c.as_str.result.now c.list.result.now) (string_bytes c.args.text.now)
    (string_bytes c.loop-index.text) (string_bytes c.write_row.new.text)
    c.loop-index-test.true c.index-seen-index.is c.loop-index.invariant row c.in_ok-write_row.ensures

pub loop-index-init : goal.loop-index-init
loop-index-init g c = sym (append-nil (string_bytes c.args.text.now))

pub bounds-seen-index : goal.bounds-seen-index
bounds-seen-index g c = c.loop-index-test.true

pub bounds-cells-index : goal.bounds-cells-index
bounds-cells-index g c = within_same string_bytes cell_text c.args.cells.now c.args.seen.now c.loop-index.index c.requires c.loop-index-test.true

pub returns : goal.returns
returns g c = c.loop-index.invariant ∙ ap (λ l. string_bytes c.args.text.now ++ rows_text c.args.grid.parties c.args.grid.width l) (take_all c.loop-index.index c.args.seen.now c.loop-index-test.false)
