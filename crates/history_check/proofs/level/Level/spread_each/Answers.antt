use Rattle.std.proofs.Common.{◌≡◌, ◌∙◌, ◌≤◌, ◌<◌, ℕ, Option, Some, length, slice_get, arith, below_more, subst}
use Rattle.std.proofs.lemmas.{Option.get_or_from_slice_get, Option.slice_get_within, Bool.Decides.nat_tests}
use Rattle.queue_steps.specs.declared.model.Reply.{Reply}
use Rattle.history_check.{specs.Levels.HasAll, proofs.Spreading.all_more, proofs.Spreading.extends_twice}
use Rattle.history_check.proofs.level.Level.spread_each.Goals as goal

pub loop-party-preserved : goal.loop-party-preserved
loop-party-preserved g c =
    let n = c.loop-party.party in
    let two = c.spread.new.self in
    let more = c.spread.ensures.keeps in
    let replies = c.args.ahead.now.replies.items in (
      extends_twice c.args.self.now c.loop-party.self two c.loop-party.invariant.0 more,
      λ es known.
          let P : ℕ → Type 0 = λ p. (o : Option (Reply ℕ)) → slice_get replies p ≡ Some o → HasAll two es c.args.stage.now p o in
          let before : (p : ℕ) → p < n → P p = λ p h o at. all_more c.loop-party.self two es c.args.stage.now p o more (c.loop-party.invariant.1 es known p h o at) in
          let last : P n = λ o at. subst (λ (y : Option (Reply ℕ)). HasAll two es c.args.stage.now n y) (c.index-reply.ensures ∙ get_or_from_slice_get replies n o c.index-reply.result.now at) (c.in_ok-spread.ensures.has es known) in
          below_more P n before last,
    )

pub returns-clause-has : goal.returns-clause-has
returns-clause-has g c =
    λ yes es known.
    let over = c.loop-party-test.false in
    let replies = c.args.ahead.now.replies.items in
    let few : length c.args.stage.now.calls ≤ length replies = grind (arith, nat_tests, yes, c.parties.ensures) in
    (few, λ p o at. c.loop-party.invariant.1 es known p (let within = slice_get_within replies p o at in omega (arith, within, over)) o at)
