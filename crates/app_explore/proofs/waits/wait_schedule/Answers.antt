use Rattle.std.proofs.Common.{◌≡◌, ◌∙◌, ◌-◌, ◌++◌, List, Some, ap, map, subst, sym}
use Rattle.std.{proofs.lemmas.Option.slice_get-get_or, proofs.lemmas.Option.slice_get-map, specs.Prelude.option_map, specs.Prelude.slice_get}
use Rattle.machine_explore.specs.Traces.{Seen}
use Rattle.app_explore.specs.{Listed.listed_wait, Schedules.MakeAll, Schedules.move_lines, Schedules.schedule_text}
use Rattle.app_explore.proofs.waits.wait_schedule.Goals as goal

pub returns : goal.returns
returns g c =
    let i = c.args.number - 1 in
    let wait = c.in-Some.wait.now in
    let at = c.in-Some.ensures.lookup.3 in
    let before = c.as_slice.result.now in
    let entries = c.as_slice-2.result.now in
    let seen : entries ≡ wait.item.entries.items = c.as_slice-2.ensures.value in
    let told = c.in_ok-write_schedule.ensures in
    record {
      waits = map listed_wait c.in_ok-waits.waits.items;
      are = c.in_ok-waits.ensures;
      wait = listed_wait wait;
      there = slice_get-map listed_wait c.in_ok-waits.waits.items i ∙ ap (option_map listed_wait) (ap (λ l. slice_get l i) (sym c.deref.ensures.value) ∙ slice_get-get_or c.deref.result.now i wait at.0 ∙ ap Some (sym (at.1 wait)));
      text_is = told.written ∙ ap (λ l. l ++ schedule_text before entries) c.new-text.ensures.bytes ∙ ap (λ b. schedule_text b entries) c.as_slice.ensures ∙ ap (schedule_text c.args.problem.now.program.before) seen;
      made = subst {A = List Seen} (λ s. MakeAll (move_lines 0 s) s) seen told.made;
    }
