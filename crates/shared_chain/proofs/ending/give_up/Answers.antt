use Rattle.std.proofs.Common.{◌≡◌, ◌∙◌, ℕ, ◌+◌, List, sym, ap, subst}
use Rattle.mem_blocks.specs.Web.{Block, block, Lives}
use Rattle.queue_steps.specs.{Words.position_of, ChainWords.offset_of, ChainWords.items_before}
use Rattle.own_cells.specs.OneChain.ChainMemory.{block_of}
use Rattle.shared_chain.{specs.Ending.LeadsTo, specs.Ending.IntoBlock, specs.Leftover.BlocksLeft, proofs.Finishing.Abandoned.blocks_left, proofs.Finishing.Abandoned.front_left, proofs.Frames.Tested.ends_hold}
use Rattle.shared_chain.proofs.ending.give_up.Goals as goal

pub take_ends-head-requires-clause-lives : goal.take_ends-head-requires-clause-lives
take_ends-head-requires-clause-lives g c = ends_hold (sym c.requires.ends.0) (sym c.requires.ends.1) c.close-chain.ensures.1.1.codes

pub give_up_blocks-requires-clause-left : goal.give_up_blocks-requires-clause-left
give_up_blocks-requires-clause-left g c =
    let k = c.args.web.key in
    let e = c.take_ends-head.ensures in
    let at_head : c.offset_of.result ≡ offset_of c.take_ends-head.result.head = c.offset_of.ensures in
    subst (λ (z : ℕ × ℕ × List (Block g.row.T.Denot)). BlocksLeft (items_before (position_of z.0)) (items_before (position_of z.1)) (block_of z.0) z.2) (λ i. (sym e.words.1 i, sym e.words.0 i, sym e.chain.1 i))
    (blocks_left k.tail.ptr k.head.ptr c.close-chain.result.blocks c.close-chain.ensures.1 (λ z. c.if-offset_of-ne-BLOCK_SLOTS.true (at_head ∙ ap offset_of e.words.1 ∙ z)))

pub give_up_blocks-requires-clause-front : goal.give_up_blocks-requires-clause-front
give_up_blocks-requires-clause-front g c =
    let k = c.args.web.key in
    let e = c.take_ends-head.ensures in
    let bs = c.close-chain.result.blocks in
    let at_head : c.offset_of.result ≡ offset_of c.take_ends-head.result.head = c.offset_of.ensures in
    let at = c.in-Some.front.ptr in
    let found = subst (λ o. LeadsTo o (block bs 1).next × IntoBlock o) c.in-Some.is e.front in
    let lives = front_left k.tail.ptr k.head.ptr bs c.close-chain.ensures.1 (λ z. c.if-offset_of-ne-BLOCK_SLOTS.true (at_head ∙ ap offset_of e.words.1 ∙ z)) at found.0 found.1 in
    (found.1, subst (λ (z : ℕ × List (Block g.row.T.Denot)). Lives z.1 (block_of z.0 + 2) at) (λ i. (sym e.words.1 i, sym e.chain.1 i)) lives)
