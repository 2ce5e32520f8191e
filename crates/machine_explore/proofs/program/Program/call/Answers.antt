use Rattle.std.proofs.Common.{◌∙◌, [], ap, sym}
use Rattle.std.{proofs.lemmas.List.get_or_past, specs.Prelude.slice_get, specs.Prelude.slice_index_or}
use Rattle.machine_explore.proofs.Reading.{copied-is}
use Rattle.machine_explore.proofs.program.Program.call.Goals as goal

pub returns-in-Some : goal.returns-in-Some
returns-in-Some g c =
    let calls = c.as_slice.ensures ∙ c.in-Some.ensures.lookup.3.1 [] ∙ ap (λ l. slice_index_or l c.args.party []) c.deref.ensures.value in
    c.copied.ensures ∙ copied-is c.as_slice.result.now c.args.behind c.get-in-Some.result c.get-in-Some.ensures.lookup.3 ∙ ap (λ l. slice_get l c.args.behind) calls

pub returns-in-None : goal.returns-in-None
returns-in-None g c =
    let none = sym (get_or_past c.deref.result.now c.args.party [] c.in-None.ensures.lookup.3) ∙ ap (λ l. slice_index_or l c.args.party []) c.deref.ensures.value in
    ap (λ l. slice_get l c.args.behind) none
