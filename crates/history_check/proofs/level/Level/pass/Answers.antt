use Rattle.std.proofs.Common.{◌≡◌, ◌<◌, ℕ, Some, slice_get, length, sym, arith, below_more}
use Rattle.std.proofs.lemmas.Option.{slice_get_within}
use Rattle.history_check.{specs.Legal.Stage as SpecStage, specs.Levels.Handles, proofs.Spreading.handles_more, proofs.Spreading.extends_twice, proofs.Spreading.stays_there, proofs.Spreading.passes}
use Rattle.history_check.proofs.level.Level.pass.Goals as goal

pub returns-in_default : goal.returns-in_default
returns-in_default g c =
    λ es known.
    let none = rw c.in_default.is at c.in_ok-stage.ensures in
    passes c.args.self.now c.loop-place.self c.loop-place.next c.args.event es c.args.ahead.now.replies.items c.loop-place.place c.loop-place.invariant.0 (sym none) (c.loop-place.invariant.1 es known) known

pub loop-place-preserved : goal.loop-place-preserved
loop-place-preserved g c =
    let n = c.loop-place.place in
    let one = c.loop-place.self in
    let two = c.handle.new.self in
    let more = c.handle.ensures.keeps in
    let replies = c.args.ahead.now.replies.items in
    let there : slice_get one n ≡ Some c.in-Some.stage = sym (rw c.in-Some.is at c.in_ok-stage.ensures) in
    let inside : n < length one = slice_get_within one n c.in-Some.stage there in (
      extends_twice c.args.self.now one two c.loop-place.invariant.0 more,
      λ es known.
          let P : ℕ → Type 0 = λ k. (s : SpecStage) → slice_get two k ≡ Some s → Handles two c.handle.new.next c.args.event es replies s in
          let before : (k : ℕ) → k < n → P k = λ k h s at. handles_more one two c.loop-place.next c.handle.new.next c.args.event es replies s more c.handle.ensures.keeps_next (c.loop-place.invariant.1 es known k h s (stays_there one two k s more (omega (arith, h, inside)) at)) in
          let last : P n = λ s at. let was = stays_there one two n s more inside at in let same : c.in-Some.stage ≡ s = cc in rw (← same) (c.in_ok-handle.ensures.handles c.if-not-branch.false es known) in
          below_more P n before last,
    )
