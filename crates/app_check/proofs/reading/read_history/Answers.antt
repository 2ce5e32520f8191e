use Rattle.std.proofs.Common.{◌∙◌, ◌++◌, ◌<◌, List, ℕ, map, arith, ap, sym, refl}
use Rattle.std.proofs.lemmas.Option.{slice_get_within}
use Rattle.app_text.specs.Lines.{lines_of}
use Rattle.app_check.specs.Histories.{event_text, party_of, idle}
use Rattle.app_check.proofs.ReadEvents.{enough_on, idle_is, is_table, lead_on, line_on}
use Rattle.app_check.proofs.reading.read_history.Goals as goal

pub loop-line-init : goal.loop-line-init
loop-line-init g c =
    let none = c.new-events.ensures.items in
    record {
      lines = rw none refl;
      few = omega (arith, c.new-events.ensures.len);
      leads = rw none (c.as_mut_slice-calls.ensures.value ∙ c.in_ok-open.ensures ∙ sym idle_is);
      enough = rw none tt;
    }

pub read_event-requires : goal.read_event-requires
read_event-requires g c = record { table = is_table c.loop-line.calls c.loop-line.events.items c.loop-line.invariant.leads }

pub with_party-parties-requires : goal.with_party-parties-requires
with_party-parties-requires g c =
    let may = c.in-Ok.ensures.0 in
    let within = slice_get_within c.loop-line.calls (party_of c.in-Ok.event) may.0 may.1 in
    let table = is_table c.loop-line.calls c.loop-line.events.items c.loop-line.invariant.leads in
    record { few = omega (arith, within, table, c.party.ensures) }

pub loop-line-preserved : goal.loop-line-preserved
loop-line-preserved g c =
    let es = c.loop-line.events.items in
    let e = c.in-Ok.event in
    let so_far = c.loop-line.invariant in
    let items = c.in_ok-push.ensures.items in
    let its : party_of e < c.with_party-parties.result = omega (arith, c.with_party-parties.ensures.its, c.party.ensures) in
    let line = line_on es e c.in-Some.line.now (lines_of c.in-Some.after.now) c.in-Ok.ensures.1 in
    record {
      lines = rw items (so_far.lines ∙ ap (λ (l : List (List ℕ)). map event_text es ++ l) c.in-Some.ensures.0 ∙ line);
      few = omega (arith, c.in_ok-push.ensures.len, c.in-Some.ensures.1, so_far.few);
      leads = rw (items, c.note.ensures) (lead_on idle c.loop-line.calls es e so_far.leads c.in-Ok.ensures.0);
      enough = rw items (enough_on c.loop-line.parties c.with_party-parties.result es e c.with_party-parties.ensures.more its so_far.enough);
    }
