use Rattle.std.proofs.Common.{◌≡◌, ℕ, ◌<◌, ◌∷◌, List, Some, slice_get}
use Rattle.history_check.specs.{Legal.Stage as SpecStage, Levels.Foresees, Levels.Handles, Levels.Extends, declared.recorded.Event.Event as SpecEvent}
use Rattle.history_check.proofs.level.Level.pass.Given as goal

abbrev pub invariant-loop-place : goal.invariant-loop-place
invariant-loop-place g l = Extends l.fn.self l.self × ((es : List SpecEvent) → Foresees l.ahead (l.fn.event ∷ es) → (k : ℕ) → k < l.place → (s : SpecStage) → slice_get l.self k ≡ Some s → Handles l.self l.next l.fn.event es l.ahead.replies.items s)
