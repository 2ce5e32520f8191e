use Rattle.std.proofs.Common.{◌∙◌, append-nil, string_bytes, sym}
use Rattle.std.{proofs.lemmas.Result.IfOk-from_err, specs.Fmt.decimal}
use Rattle.app_explore.proofs.Drawing.{column_more, head_ends}
use Rattle.app_explore.proofs.lanes.write_head.Goals as goal

pub loop-party-preserved : goal.loop-party-preserved
loop-party-preserved g c =
    column_more decimal c.loop-party.party-counter c.args.grid.width c.as_str.result.now (string_bytes c.args.text.now) (string_bytes c.loop-party.text) (string_bytes c.write_column.new.text) c.loop-party.invariant (c.as_str.ensures.value ∙ c.in_ok-number.ensures.ok) c.in_ok-write_column.ensures

pub loop-party-init : goal.loop-party-init
loop-party-init g c = sym (append-nil (string_bytes c.args.text.now))

pub returns : goal.returns
returns g c =
    head_ends c.push_str.result c.args.grid.parties c.loop-party.party-counter c.args.grid.width (string_bytes c.args.text.now) (string_bytes c.loop-party.text) (string_bytes c.push_str.new.self)
    c.loop-party.auto.party-counter-end c.loop-party-test.false c.loop-party.invariant c.push_str.ensures.bytes

pub returns-in_err-number : goal.returns-in_err-number
returns-in_err-number g c = IfOk-from_err c.from_residual.result _ c.from_residual.ensures.0

pub returns-in_err-write_column : goal.returns-in_err-write_column
returns-in_err-write_column g c = IfOk-from_err c.from_residual-in_err-write_column.result _ c.from_residual-in_err-write_column.ensures.0
