use Rattle.std.proofs.Common.{◌≡◌, ◌∙◌, ◌++◌, List, ap, subst}
use Rattle.machine_explore.specs.Traces.{Seen}
use Rattle.app_explore.specs.Schedules.{MakeAll, move_lines, schedule_text}
use Rattle.app_explore.proofs.listing.list_schedule.Goals as goal

pub returns : goal.returns
returns g c =
    let before = c.as_slice.result.now in
    let entries = c.entries.result.now in
    let seen : entries ≡ c.in-Some.trace.seen = c.entries.ensures in
    let told = c.in_ok-write_schedule.ensures in
    record {
      course = c.in-Some.trace;
      trace = rw c.in-Some.is at c.in_ok-trace.ensures;
      text_is = told.written ∙ ap (λ l. l ++ schedule_text before entries) c.new-text.ensures.bytes ∙ ap (λ b. schedule_text b entries) c.as_slice.ensures ∙ ap (schedule_text c.args.problem.now.program.before) seen;
      made = subst {A = List Seen} (λ s. MakeAll (move_lines 0 s) s) seen told.made;
    }
