use Rattle.std.proofs.Common.{◌∙◌, ℕ, None, List, [], drop, sym, ap, subst}
use contract.BorrowLft.{⊑_meet, ⊑_static}
use Rattle.mem_blocks.specs.Web.{Block}
use Rattle.queue_steps.specs.{Effect.after, Legal.IsShown}
use Rattle.own_cells.specs.OneChain.{OwnChainCells.OwnChain, ChainMemory.own_chain_in, ChainMemory.AreHeld, OwnChainOwned.own_chain_queue, OwnChainOwned.IsIdle}
use Rattle.shared_chain.specs.Ending.{gone_first}
use Rattle.shared_chain.proofs.Frames.Tested.{ends_hold}
use Rattle.shared_chain.proofs.Finishing.Finished.{gone_take, keeps_held, keeps_idle, keeps_shown, all_whole}
use Rattle.shared_chain.proofs.ending.end.Goals as goal

pub take_ends-head-requires-clause-lives : goal.take_ends-head-requires-clause-lives
take_ends-head-requires-clause-lives g c = ends_hold (sym c.requires.ends.0) (sym c.requires.ends.1) c.finish-chain.ensures.1.1.codes

pub forget-requires : goal.forget-requires
forget-requires g c κs within =
    -- an item's own lives, and those of its value
    let lives = ⊑_meet _ _ [] within.0 (⊑_static _) in
    (⊑_meet _ _ _ lives lives, (within.1, gone_take c.take_ends-head.new.chain.blocks))

pub of_chain-requires-clause-held : goal.of_chain-requires-clause-held
of_chain-requires-clause-held g c =
    let k = c.args.web.key in
    let blocks = c.forget.ensures.1 ∙ ap (λ xs. drop (gone_first xs) xs) c.take_ends-head.ensures.chain.1 in
    subst (λ xs. AreHeld xs) (λ i. sym blocks i) (keeps_held k.tail.ptr k.head.ptr c.args.seat.id c.args.seat.sitter.view c.finish-chain.result.blocks c.requires.alone c.finish-chain.ensures.1)

pub of_chain-requires-clause-idle : goal.of_chain-requires-clause-idle
of_chain-requires-clause-idle g c =
    let k = c.args.web.key in
    let e = c.take_ends-head.ensures in
    let r = c.take_ends-head.result in
    let blocks = c.forget.ensures.1 ∙ ap (λ xs. drop (gone_first xs) xs) e.chain.1 in
    subst (λ (z : ℕ × ℕ × List (Block g.row.T.Denot)). IsIdle (own_chain_in z.0 z.1 r.front r.back z.2)) (λ i. (sym e.words.1 i, sym e.words.0 i, sym blocks i))
    (keeps_idle k.tail.ptr k.head.ptr c.args.seat.id c.args.seat.sitter.view c.finish-chain.result.blocks c.requires.alone c.finish-chain.ensures.1 r.front r.back e.front.0 e.back.0 e.front.1 e.back.1)

pub returns : goal.returns
returns g c =
    let k = c.args.web.key in
    let d = c.args.seat.sitter.view in
    let f = c.finish-chain.ensures.1 in
    let e = c.take_ends-head.ensures in
    let r = c.take_ends-head.result in
    let blocks = c.forget.ensures.1 ∙ ap (λ xs. drop (gone_first xs) xs) e.chain.1 in
    let Ends : OwnChain g.row.T.Denot → Type 0 = λ o. IsIdle o × IsShown (own_chain_queue o) (after None d.known.seen) in
    let ends = subst (λ (z : ℕ × ℕ × List (Block g.row.T.Denot)). Ends (own_chain_in z.0 z.1 r.front r.back z.2)) (λ i. (sym e.words.1 i, sym e.words.0 i, sym blocks i)) (
      keeps_idle k.tail.ptr k.head.ptr c.args.seat.id d c.finish-chain.result.blocks c.requires.alone f r.front r.back e.front.0 e.back.0 e.front.1 e.back.1,
      keeps_shown k.tail.ptr k.head.ptr c.args.seat.id d c.finish-chain.result.blocks c.requires.alone f r.front r.back e.front.0 e.back.0 e.front.1 e.back.1,
    ) in
    let both = subst Ends (sym c.of_chain.ensures) ends in
    (both.0, both.1, all_whole k.tail.ptr k.head.ptr c.args.seat.id d c.finish-chain.result.blocks c.requires.alone f)
