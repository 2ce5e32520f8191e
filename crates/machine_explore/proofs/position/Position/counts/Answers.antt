use Rattle.std.proofs.Common.{◌∙◌, ℕ, ap, length, sym}
use Rattle.std.{proofs.lemmas.List.get_or_past, specs.Prelude.slice_index_or}
use Rattle.machine_explore.specs.Positions.{Progress, Standing, no_progress}
use Rattle.machine_explore.proofs.position.Position.counts.Goals as goal

pub returns-in-Some : goal.returns-in-Some
returns-in-Some g c =
    let same = c.deref.ensures.value ∙ ap (λ (x : Standing). x.parties) c.self.view_is in
    let at = c.in-Some.ensures.lookup.3.1 no_progress ∙ ap (λ l. slice_index_or l c.args.party no_progress) same in
    (c.begun.ensures ∙ ap (λ (x : Progress ℕ). x.begun) at, ap length (c.replies.ensures ∙ ap (λ (x : Progress ℕ). x.replies) at))

pub returns-in-None : goal.returns-in-None
returns-in-None g c =
    let same = c.deref.ensures.value ∙ ap (λ (x : Standing). x.parties) c.self.view_is in
    let none = sym (get_or_past c.deref.result.now c.args.party no_progress c.in-None.ensures.lookup.3) ∙ ap (λ l. slice_index_or l c.args.party no_progress) same in
    (ap (λ (x : Progress ℕ). x.begun) none, ap (λ (x : Progress ℕ). length x.replies) none)
