use Rattle.std.proofs.Common.{sym}
use Rattle.app_check.proofs.ReadEvents.{no_event_there, event_read}
use Rattle.app_check.proofs.reading.read_event.Goals as goal

pub returns-in-Some-call_of : goal.returns-in-Some-call_of
returns-in-Some-call_of c = event_read c.args.line.now c.args.calls.now c.requires.table _ c.in-Some.rest.now c.in-Some.ensures.0 c.in-Some.ensures.1 c.in-Some-call_of.now _ (sym c.in-Some-call_of.ensures) c.read_next.ensures

pub returns-in-None : goal.returns-in-None
returns-in-None c = no_event_there c.args.line.now c.args.calls.now c.requires.table _ c.in-Some.rest.now c.in-Some.ensures.0 c.in-Some.ensures.1 (sym c.in-None.ensures)
