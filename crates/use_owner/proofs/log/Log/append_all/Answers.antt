use Rattle.std.proofs.Common.{[], ◌∷◌, ◌++◌, take, ap, sym, ◌∙◌}
use Rattle.std.proofs.lemmas.List.{take_more}
use Rattle.use_owner.proofs.LogRings.{log_itself, log_on}
use Rattle.use_owner.proofs.log.Log.append_all.Goals as goal

pub loop-entry-init : goal.loop-entry-init
loop-entry-init g c = rw (← c.self.view_is) (log_itself c.self.inside.ring c.self.invariant c.show_sound.ensures.0)

pub loop-entry-preserved : goal.loop-entry-preserved
loop-entry-preserved g c =
    let next = rw c.in-Ok.is at c.append.ensures in
    let more = take_more c.args.entries.now c.loop-entry.entry-index c.entry-item.result c.loop-entry-test.true ∙ ap (λ x. take c.loop-entry.entry-index c.args.entries.now ++ x ∷ []) (sym c.entry-item.is) in
    log_on c.args.self.now c.loop-entry.self c.append.new.self c.in-Ok._gone _ _ c.entry-item.result c.loop-entry.invariant next more
