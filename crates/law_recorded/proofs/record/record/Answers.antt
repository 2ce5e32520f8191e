use Rattle.std.proofs.Common.{◌≡◌, arith, rules, subst, sym}
use Rattle.std.proofs.lemmas.Grind.{common_steps}
use Rattle.history_check.specs.Legal.{in_steps, IsLegal}
use Rattle.law_recorded.specs.Recorded.{history_of}
use Rattle.law_recorded.proofs.Replayed.{replays_are_legal}
use Rattle.law_recorded.proofs.record.record.Goals as goal

pub returns-clause-legal : goal.returns-clause-legal
returns-clause-legal g c =
    let exact : c.loop-event.history.items ≡ history_of {A = g.row.A.Denot} c.args.events.now c.args.replay.now = first_of (search rules, grind (arith, common_steps)) in
    λ cap parties conforms. subst (IsLegal (in_steps cap) parties) (sym exact) (replays_are_legal cap parties c.args.events.now c.args.replay.now conforms)
