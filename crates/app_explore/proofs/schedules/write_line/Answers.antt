use Rattle.std.proofs.Common.{codes, ap, string_bytes}
use Rattle.app_text.specs.{Actions.action_text, Calls.call_text}
use Rattle.app_explore.proofs.Moving.{line_written}
use Rattle.app_explore.proofs.schedules.write_line.Goals as goal

pub returns-in-Call : goal.returns-in-Call
returns-in-Call g c = line_written c.writeln.result c.args.line (call_text c.in-Call.call) (string_bytes c.args.text.now) (string_bytes c.writeln.new.self) (ap action_text c.in-Call.is) c.writeln.ensures.bytes

pub returns-in-Step : goal.returns-in-Step
returns-in-Step g c = line_written c.writeln-in-Step.result c.args.line (codes "step") (string_bytes c.args.text.now) (string_bytes c.writeln-in-Step.new.self) (ap action_text c.in-Step.is) c.writeln-in-Step.ensures.bytes

pub returns-in-Refuse : goal.returns-in-Refuse
returns-in-Refuse g c = line_written c.writeln-in-Refuse.result c.args.line (codes "refuse") (string_bytes c.args.text.now) (string_bytes c.writeln-in-Refuse.new.self) (ap action_text c.in-Refuse.is) c.writeln-in-Refuse.ensures.bytes

pub returns-in-Run : goal.returns-in-Run
returns-in-Run g c = line_written c.writeln-in-Run.result c.args.line (codes "run") (string_bytes c.args.text.now) (string_bytes c.writeln-in-Run.new.self) (ap action_text c.in-Run.is) c.writeln-in-Run.ensures.bytes
