use Rattle.std.proofs.Common.{◌≡◌, ◌∙◌, ◌%◌, arith, ap, refl, [], ◌∷◌, ◌++◌}
use Rattle.queue_steps.specs.declared.sizes.TheConstants.{BLOCK_SLOTS}
use Rattle.mem_blocks.specs.Web.{alive_at}
use Rattle.own_cells.proofs.OneChain.Layings.{Opened-none, Opened-more, Opened-holds, opened-idle, made_at}
use Rattle.own_cells.proofs.chain.own_chain.OwnChain.after.Goals as goal

pub loop-slot-init : goal.loop-slot-init
loop-slot-init g c =
    let l = c.in_ok-link.block in
    let made = c.in_ok-link.ensures in
    let one : alive_at l.at l.next l.words l.homes ≡ made_at c.in_ok-link.link.ptr = cc (made.1, made.3, made.4, made.5) in
    record {
      heap = c.lay.ensures.0 ∙ c.empty-chain.ensures.0;
      opened = Opened-none c.in_ok-link.link.ptr _ (c.lay.ensures.1 ∙ ap (λ bs. bs ++ alive_at l.at l.next l.words l.homes ∷ []) c.empty-chain.ensures.1 ∙ ap (λ x. x ∷ []) one);
    }

pub set_word-requires : goal.set_word-requires
set_word-requires g c = (c.in_ok-link.ensures.2, Opened-holds c.in_ok-link.link.ptr c.loop-slot.slot c.loop-slot.slot _ (omega arith) c.loop-slot.invariant.opened)

pub loop-slot-preserved : goal.loop-slot-preserved
loop-slot-preserved g c =
    let i = c.loop-slot.invariant in
    record {
      heap = c.set_word.ensures.0 ∙ i.heap;
      opened = Opened-more c.in_ok-link.link.ptr c.loop-slot.slot _ _ (omega arith) c.set_word.ensures.1 i.opened;
    }

pub returns-clause-idle : goal.returns-clause-idle
returns-clause-idle g c =
    let all : c.loop-slot.slot ≡ c.args.accepted % BLOCK_SLOTS = omega arith in
    opened-idle (record { number = 0; link = c.in_ok-link.link }) c.loop-slot.slot c.args.accepted _ refl c.requires all c.loop-slot.invariant.opened
