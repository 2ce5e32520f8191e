use Rattle.std.proofs.Common.{◌≡◌, true, sym, ap, subst, rules, tests}
use Rattle.mem_blocks.specs.Web.{block}
use Rattle.shared_chain.{specs.Leftover.Emptied, proofs.Frames.Tested.alive_within, proofs.Finishing.Leftovers.emptied_slot}
use Rattle.shared_chain.proofs.ending.empty_slot.Goals as goal

pub take-requires : goal.take-requires
take-requires g c = search (rules, tests)

pub returns-then-word-ne0-clause-told : goal.returns-then-word-ne0-clause-told
returns-then-word-ne0-clause-told g c = search (rules, tests)

pub returns-then-word-ne0-clause-emptied : goal.returns-then-word-ne0-clause-emptied
returns-then-word-ne0-clause-emptied g c =
    let a = c.args in
    let same = ap (λ s. s.blocks) c.word-word.ensures.0 in
    let bs = c.word-word.new.self.blocks in
    let lives = subst (λ xs. (block xs a.number).alive ≡ true) (sym same) c.requires.place.1.0.0 in
    subst (λ xs. Emptied (λ j. j ≡ a.slot) true (block xs a.number) (block c.take.new.self.blocks a.number)) same
    (emptied_slot bs c.take.new.self.blocks a.number a.slot c.take.result (alive_within bs a.number lives) c.take.ensures.chain.1 c.take.ensures.value)

pub returns-clause-emptied : goal.returns-clause-emptied
returns-clause-emptied g c = search (rules, tests)

pub returns-clause-told : goal.returns-clause-told
returns-clause-told g c = search (rules, tests)
