use Rattle.std.{proofs.Common.string_bytes, specs.Fmt.decimal}
use Rattle.app_explore.{specs.WaitLines.sides_text, proofs.Waiting.line_ends}
use Rattle.app_explore.proofs.wait_lines.write_wait.Goals as goal

pub returns : goal.returns
returns g c =
    line_ends c.push_str.result (decimal c.args.number) (sides_text c.args.waiter c.args.other)
    (string_bytes c.args.text.now) (string_bytes c.write.new.self) (string_bytes c.write_sides.new.text) (string_bytes c.push_str.new.self)
    c.in_ok-write.ensures.bytes c.in_ok-write_sides.ensures c.push_str.ensures.bytes
