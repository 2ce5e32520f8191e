use Rattle.std.{proofs.Common.string_bytes, specs.Fmt.decimal}
use Rattle.app_explore.{specs.Tails.figure_tail, specs.Tails.tail_line, proofs.OutcomeLines.line_ends}
use Rattle.app_explore.proofs.outcomes.write_outcome_line.Goals as goal

pub returns : goal.returns
returns g c =
    line_ends c.push_str.result (decimal c.args.number) c.args.outcome.now (tail_line (figure_tail c.args.figure.now))
    (string_bytes c.args.text.now) (string_bytes c.write.new.self) (string_bytes c.write_tail.new.text) (string_bytes c.push_str.new.self)
    c.in_ok-write.ensures.bytes c.in_ok-write_tail.ensures c.push_str.ensures.bytes
