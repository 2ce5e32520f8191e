use Rattle.std.proofs.Common.{◌≡◌, true, sym, ◌∙◌, ◌++◌, rules}
use Rattle.std.proofs.lemmas.List.Elements.{All-push}
use Rattle.use_shared.proofs.WorkShifts.{handed_on}
use Rattle.use_shared.proofs.work.gather.Goals as goal

pub loop-haul-preserved : goal.loop-haul-preserved
loop-haul-preserved c =
    let before = c.loop-haul.invariant in let haul = c.in-Some.haul in
    record {
      finished = All-push (λ h. h.finished ≡ true) c.loop-haul.yielded haul before.finished (search rules);
      all = c.in_ok-extend_from_slice.ensures.items ∙ ((λ i. before.all i ++ c.deref.ensures.value i) ∙ sym (handed_on c.loop-haul.yielded haul));
    }
