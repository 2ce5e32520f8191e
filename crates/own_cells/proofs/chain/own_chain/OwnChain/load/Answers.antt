use Rattle.std.proofs.Common.{rules}
use Rattle.own_cells.proofs.OneChain.Linked.{Knows-named, holds_word, in_block, word-read}
use Rattle.own_cells.proofs.chain.own_chain.OwnChain.load.Goals as goal

pub word-requires : goal.word-requires
word-requires g c =
    let s = c.self.inside in
    let b = c.in-State.block in
    let can = rw (c.in-State.is, ← c.self.view_is) at c.requires in
    let k = Knows-named s b c.self.invariant can.0 in
    (in_block s b k, holds_word s b c.in-State.slot k can.1)

pub invariant_of-self : goal.invariant_of-self
invariant_of-self g c = rw c.word.ensures.0 c.self.invariant

pub returns-in-State : goal.returns-in-State
returns-in-State g c =
    let s = c.self.inside in
    let b = c.in-State.block in
    let can = rw (c.in-State.is, ← c.self.view_is) at c.requires in
    let k = Knows-named s b c.self.invariant can.0 in
    rw (c.in-State.is, ← c.self.view_is) (word-read s b c.in-State.slot c.word.result c.word.new.self k c.word.ensures)

pub returns-in-Head : goal.returns-in-Head
returns-in-Head g c = search rules
