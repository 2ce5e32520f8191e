use Rattle.std.proofs.Common.{◌∙◌, ◌+◌, ap, map, drop, refl, string_bytes, sym}
use Rattle.app_explore.specs.Lanes.{widest}
use Rattle.app_explore.proofs.{Drawing.widest_more, Drawing.widest_same, Drawing.widest_past, lanes.widest.Goals.then-width-len, lanes.widest.Goals.else-width-len}
use Rattle.app_explore.proofs.lanes.widest.Goals as goal

pub loop-cell-init : goal.loop-cell-init
loop-cell-init g c = refl

pub loop-cell-preserved : goal.loop-cell-preserved
loop-cell-preserved g c =
    let cells = c.args.cells.now in
    let long = c.len.ensures ∙ c.cell-item.result.bytes.ok.0 in
    let i = c.loop-cell.cell-index in
    let left = map string_bytes (drop (i + 1) cells) in
    elim c.if-width-len.branch [
      | then-width-len w ↦ c.loop-cell.invariant ∙ widest_more string_bytes cells i c.loop-cell.width c.cell-item.result c.loop-cell-test.true c.cell-item.is c.len.result long w.if-width-len.true
          ∙ ap (λ n. widest n left) (c.len.ensures ∙ sym w.len-width.ensures ∙ sym w.width-is)
      | else-width-len w ↦ c.loop-cell.invariant ∙ widest_same string_bytes cells i c.loop-cell.width c.cell-item.result c.loop-cell-test.true c.cell-item.is c.len.result long w.if-width-len.false
          ∙ ap (λ n. widest n left) (sym w.width-is)
    ]

pub returns : goal.returns
returns g c = sym (c.loop-cell.invariant ∙ widest_past string_bytes c.args.cells.now c.loop-cell.cell-index c.loop-cell.width c.loop-cell-test.false)
