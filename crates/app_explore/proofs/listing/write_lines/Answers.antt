use Rattle.std.proofs.Common.{◌∙◌, ◌+◌, ◌++◌, ap, string_bytes}
use Rattle.app_explore.{specs.Listed.bytes_of, specs.Listed.listed_tail, specs.Outcomes.outcome_line, specs.Tails.tail_line, proofs.OutcomeLines.line_more}
use Rattle.app_explore.proofs.listing.write_lines.Goals as goal

pub loop-index-preserved : goal.loop-index-preserved
loop-index-preserved g c =
    let one = c.index-outcomes-index.result in
    line_more bytes_of listed_tail c.args.outcomes.now c.loop-index.index one (string_bytes c.args.text.now) (string_bytes c.loop-index.text) (string_bytes c.write_outcome_line.new.text)
    c.loop-index-test.true c.index-outcomes-index.is c.loop-index.invariant
    (c.in_ok-write_outcome_line.ensures ∙ ap (λ l. string_bytes c.loop-index.text ++ outcome_line (c.loop-index.index + 1) l (tail_line (listed_tail one))) c.as_str.ensures.value)
