use Rattle.std.proofs.Common.{◌≡◌, ℕ, List, ◌+◌, ◌++◌, ◌∷◌, [], add-one, vec_len, ap, sym, ◌∙◌}
use Rattle.std.proofs.lemmas.Result.{IfOk-from_err}
use Rattle.queue_laws.specs.Ring.RingOpening.{numbers_below}
use Rattle.queue_laws.proofs.Common.Filling.{room_left, at_end, one_more}
use Rattle.machine_memory.proofs.shared_memory.numbered.Goals as goal

numbered_more : (old new : List ℕ) (n : ℕ) → new ≡ old ++ n ∷ [] → old ≡ numbers_below n → new ≡ numbers_below (n + 1)
numbered_more old new n more is = more ∙ (ap (λ ns. ns ++ n ∷ []) is ∙ sym (ap numbers_below (add-one n)))

pub returns-in_err-numbers : goal.returns-in_err-numbers
returns-in_err-numbers g c = IfOk-from_err c.from_residual.result _ c.from_residual.ensures.0

pub loop-number-init : goal.loop-number-init
loop-number-init g c = let made = c.in_ok-numbers.ensures in record { items = made.items; len = made.len; room = made.exact }

pub push_reserved-requires : goal.push_reserved-requires
push_reserved-requires g c = let i = c.loop-number.invariant in room_left _ _ _ _ i.len i.room c.loop-number-test.true

pub loop-number-preserved : goal.loop-number-preserved
loop-number-preserved g c =
    let i = c.loop-number.invariant in let p = c.push_reserved.ensures in
    record { items = numbered_more c.loop-number.numbers.items c.push_reserved.new.self.items c.loop-number.number p.items i.items; len = one_more (vec_len c.push_reserved.new.self) (vec_len c.loop-number.numbers) c.loop-number.number p.len i.len; room = p.capacity ∙ i.room }

pub returns : goal.returns
returns g c = c.loop-number.invariant.items ∙ ap numbers_below (at_end c.loop-number.number c.args.count c.loop-number.auto.number-end c.loop-number-test.false)
