use Rattle.std.proofs.Common.{◌∙◌, ◌++◌, append-nil, ap, refl, string_bytes, sym}
use Rattle.app_explore.{specs.Schedules.lines_text, specs.Schedules.move_lines, proofs.Moving.fewer_left, proofs.Moving.line_more}
use Rattle.app_explore.proofs.schedules.write_moves.Goals as goal

pub loop-line-init : goal.loop-line-init
loop-line-init g c = refl

pub split_at-requires : goal.split_at-requires
split_at-requires g c = c.in-Some.ensures.1

pub loop-line-preserved : goal.loop-line-preserved
loop-line-preserved g c =
    line_more c.in-Some.line c.in-Some.count c.loop-line.rest.now c.split_at.result.1.now (string_bytes c.args.text.now ++ lines_text (move_lines 0 c.args.moves.now)) (string_bytes c.loop-line.text) (string_bytes c.write_line.new.text)
    c.loop-line.invariant c.in-Some.ensures.2 c.split_at.ensures.back c.in_ok-write_line.ensures

pub loop-line-smaller : goal.loop-line-smaller
loop-line-smaller g c = fewer_left c.in-Some.count c.loop-line.rest.now c.split_at.result.1.now c.in-Some.ensures.0 c.in-Some.ensures.1 c.split_at.ensures.back

pub returns : goal.returns
returns g c = sym (append-nil (string_bytes c.loop-line.text)) ∙ ap (λ l. string_bytes c.loop-line.text ++ lines_text (move_lines 0 l)) (sym c.in_default.ensures) ∙ c.loop-line.invariant
