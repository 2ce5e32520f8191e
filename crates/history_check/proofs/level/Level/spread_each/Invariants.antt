use Rattle.std.proofs.Common.{◌≡◌, ℕ, ◌<◌, List, Option, Some, slice_get}
use Rattle.queue_steps.specs.declared.model.Reply.{Reply}
use Rattle.history_check.specs.{Levels.Foresees, Levels.HasAll, Levels.Extends, declared.recorded.Event.Event as SpecEvent}
use Rattle.history_check.proofs.level.Level.spread_each.Given as goal

abbrev pub invariant-loop-party : goal.invariant-loop-party
invariant-loop-party g l = Extends l.fn.self l.self × ((es : List SpecEvent) → Foresees l.ahead es → (p : ℕ) → p < l.party → (o : Option (Reply ℕ)) → slice_get l.ahead.replies.items p ≡ Some o → HasAll l.self es l.stage p o)
