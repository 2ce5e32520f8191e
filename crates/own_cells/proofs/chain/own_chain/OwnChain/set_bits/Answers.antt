use Rattle.std.proofs.Common.{bit_or}
use Rattle.own_cells.proofs.OneChain.Linked.{Knows-named, block_of, holds_word, in_block, worded-held, set-linked, bits-set}
use Rattle.own_cells.proofs.chain.own_chain.OwnChain.set_bits.Goals as goal

pub word-found-requires : goal.word-found-requires
word-found-requires g c =
    let s = c.self.inside in
    let b = c.args.block in
    let can = rw (← c.self.view_is) at c.requires in
    let k = Knows-named s b c.self.invariant can.0 in
    (in_block s b k, holds_word s b c.args.slot k can.1)

pub set_word-requires : goal.set_word-requires
set_word-requires g c =
    let s = c.self.inside in
    let b = c.args.block in
    let can = rw (← c.self.view_is) at c.requires in
    let k = Knows-named s b c.self.invariant can.0 in
    rw c.word-found.ensures.0 (in_block s b k, holds_word s b c.args.slot k can.1)

pub invariant_of-self : goal.invariant_of-self
invariant_of-self g c =
    let s = c.self.inside in
    let b = c.args.block in
    let can = rw (← c.self.view_is) at c.requires in
    let k = Knows-named s b c.self.invariant can.0 in
    let same = rw c.word-found.ensures.0 at c.set_word.ensures in
    set-linked s b.number _ c.set_word.new.self c.self.invariant k.below (worded-held (block_of s b) c.args.slot (bit_or c.word-found.result c.args.bits) k.held) same.0 same.1

pub returns : goal.returns
returns g c =
    let s = c.self.inside in
    let b = c.args.block in
    let can = rw (← c.self.view_is) at c.requires in
    let k = Knows-named s b c.self.invariant can.0 in
    let same = rw c.word-found.ensures.0 at c.set_word.ensures in
    rw (← c.self.view_is) (bits-set s b c.args.slot c.args.bits c.word-found.result c.set_word.new.self k c.word-found.ensures.1 same.1)
