use Rattle.std.proofs.Common.{◌∙◌, [], ap, length, sym}
use Rattle.std.{proofs.lemmas.List.get_or_past, specs.Prelude.slice_index_or}
use Rattle.machine_explore.proofs.program.Program.call_count.Goals as goal

pub returns-in-Some : goal.returns-in-Some
returns-in-Some g c = c.len.ensures ∙ ap length (c.in-Some.ensures.lookup.3.1 [] ∙ ap (λ l. slice_index_or l c.args.party []) c.deref.ensures.value)

pub returns-in-None : goal.returns-in-None
returns-in-None g c = ap length (sym (get_or_past c.deref.result.now c.args.party [] c.in-None.ensures.lookup.3) ∙ ap (λ l. slice_index_or l c.args.party []) c.deref.ensures.value)
