-- What each step of a call does to the blocks of the web, wherever the call stands.
use Rattle.std.proofs.Common.{◌+◌, ◌/◌, ◌≡◌, ◌∙◌, Some, None, sym, arith}
use Rattle.queue_laws.specs.{Common.Vocabulary.Link, Common.Vocabulary.Answer, Common.Vocabulary.BLOCK_SLOTS, Chain.ChainCells.Reading, Chain.ChainCells.Done, Chain.ChainTransitions.laid_out, Common.Stand.Stand, Chain.ChainCells.ChainOk, Chain.ChainFacts.head_of, Chain.ChainFacts.open_tail_of, Chain.ChainAnswers.last_of, Chain.ChainAnswers.shown_of}
use Rattle.queue_laws.proofs.Chain.{ChainReads.not_given_up, ChainSlots.lay_fresh, ChainPush.none_spare}
use Rattle.queue_steps.specs.{ChainNext.followed, State.State}
use Rattle.mem_blocks.specs.Web.{lays, Block, Sitter, word_of}
use Rattle.shared_chain.specs.{Spots.spot, Steps.fresh_at, Steps.link_found, ChainCalls.OutChain, ChainCalls.SlotsAs, ChainCalls.ChainLent, Rule.Codes, Steps.HoldsBy, Steps.BlockStep}
use Rattle.shared_chain.proofs.{Frames.Leaves.Leaves, Frames.Leaves.acts_first, Frames.Leaves.keeps, Frames.Leaves.op_step, CallLaws.OnBlocks, Steps.Taking.step_taking, Steps.Claiming.step_claiming, Steps.Follows.step_link, Steps.Follows.untaken_stays, Steps.Laying.step_installing, Steps.Laying.codes_laid}
use Rattle.std.proofs.Common.{ℕ, Option, List, false, refl}
use denote.RawPtr.{Ptr}
use Rattle.queue_laws.specs.Chain.ChainAt.{At, push_tail, push_block, asking, installing, showing, claiming, laying, opening, chaining, writing, spending, pop_head, pop_block, pop_tail, taking, following, peeking, passing, entering, awaiting, reading, beginning, walking, destroying}
use Rattle.queue_laws.specs.Chain.ChainAt.{count_tail, count_head, count_again, empty_head, empty_tail, closing, closed_tail}
use Rattle.shared_parties.specs.{declared.known.CallState.CallState, Calling.touched_list}
use Rattle.shared_chain.proofs.Steps.{Linking.step_chaining, Writing.OutWrote, Writing.step_writing, Awaiting.step_awaiting, Reading.step_reading, Reading.step_beginning, Walking.step_walking, Walking.step_destroying}
use Rattle.shared_chain.proofs.Steps.Spared.{tail_spare, head_spare, pop_spare, again_spare, block_spare, front_spare, no_last}
use Rattle.shared_chain.proofs.Frames.Stepping.{none_on_end, keeps_on_end, tail_read, head_read, last_read, front_read, head_set}

module _ {A : Type 0} (te he : Ptr) (g : OutChain A) (who : ℕ) (bs : List (Block A)) (m : Sitter A (CallState A)) (ok : ChainOk g.chain) (wrote : OutWrote g) (codes : Codes te he g bs) (xs : List (ℕ × Option A)) where
  pub block_steps : {ms : List (State A)} {k : Stand A} (here : At g.chain who ms k) → OnBlocks k.op → SlotsAs g who k.local → ChainLent g who xs → HoldsBy k.local k.op (touched_list k.touch k.carried xs) m → BlockStep te he g who bs m here
  block_steps {ms = ms} (push_tail d x spare none spare_is) on slots lent held =
      none_on_end {ms = ms} 0 (push_tail d x spare none spare_is) ok codes (tail_read codes) (refl, refl, refl) m none none (tail_spare d (word_of bs 0 0) spare) xs lent held
  block_steps {ms = ms} (pop_tail n block none is front) on slots lent held =
      none_on_end {ms = ms} 0 (pop_tail n block none is front) ok codes (tail_read codes) (refl, refl, refl) m none none (pop_spare (head_of n false) block (word_of bs 0 0)) xs lent held
  block_steps {ms = ms} (empty_tail h none small saw) on slots lent held = none_on_end {ms = ms} 0 (empty_tail h none small saw) ok codes (tail_read codes) (refl, refl, refl) m none none refl xs lent held
  block_steps {ms = ms} (count_tail l count none) on slots lent held = none_on_end {ms = ms} 0 (count_tail l count none) ok codes (tail_read codes) (refl, refl, refl) m none none refl xs lent held
  block_steps {ms = ms} (count_again l w h count none small seen) on slots lent held =
      none_on_end {ms = ms} 0 (count_again l w h count none small seen) ok codes (tail_read codes) (refl, refl, refl) m none none (again_spare l w h (word_of bs 0 0)) xs lent held
  block_steps {ms = ms} (closed_tail none) on slots lent held = none_on_end {ms = ms} 0 (closed_tail none) ok codes (tail_read codes) (refl, refl, refl) m none none refl xs lent held
  block_steps {ms = ms} (spending d x spare none spare_is spent) on slots lent held =
      none_on_end {ms = ms} 0 (spending d x spare none spare_is spent) ok codes (tail_read codes) (refl, refl, refl) m none none refl xs lent held
  block_steps {ms = ms} (closing none) on slots lent held = none_on_end {ms = ms} 0 (closing none) ok codes (tail_read codes) (refl, refl, refl) m none none refl xs lent held
  block_steps {ms = ms} (pop_head none) on slots lent held = none_on_end {ms = ms} 1 (pop_head none) ok codes (head_read codes) (refl, refl, refl) m none none (head_spare (word_of bs 1 0)) xs lent held
  block_steps {ms = ms} (count_head l w count none small low) on slots lent held =
      none_on_end {ms = ms} 1 (count_head l w count none small low) ok codes (head_read codes) (refl, refl, refl) m none none refl xs lent held
  block_steps {ms = ms} (empty_head none) on slots lent held = none_on_end {ms = ms} 1 (empty_head none) ok codes (head_read codes) (refl, refl, refl) m none none refl xs lent held
  block_steps {ms = ms} (opening d x n name f holds mine opens links named) on slots lent held = keeps_on_end {ms = ms} 0 (opening d x n name f holds mine opens links named) ok codes (tail_read codes) (refl, refl, refl) m slots xs lent held
  block_steps {ms = ms} (showing d v name first saw is named) on slots lent held = keeps_on_end {ms = ms} 1 (showing d v name first saw is named) ok codes (head_set 0 codes) (refl, refl, refl) m slots xs lent held
  block_steps {ms = ms} (passing x n name after more further parts got moves behind room) on slots lent held =
      keeps_on_end {ms = ms} 1 (passing x n name after more further parts got moves behind room) ok codes (head_set 0 codes) (refl, refl, refl) m slots xs lent held
  block_steps {ms = ms} (entering x n name more further parts got enters room) on slots lent held = keeps_on_end {ms = ms} 1 (entering x n name more further parts got enters room) ok codes (head_set 0 codes) (refl, refl, refl) m slots xs lent held
  block_steps {ms = ms} (push_block d v spare q none has saw) on slots lent held =
      none_on_end {ms = ms} 0 (push_block d v spare q none has saw) ok codes (last_read codes) (refl, refl, refl) m none none
      (block_spare d (open_tail_of q) (last_of g.chain.names g.chain.blocks) spare (λ e. none_spare g.chain who spare (no_last g.chain.names g.chain.blocks e) has)) xs lent held
  block_steps {ms = ms} (pop_block n more none is room) on slots lent held =
      none_on_end {ms = ms} 1 (pop_block n more none is room) ok codes (front_read codes) (refl, refl, refl) m none none (front_spare (head_of n more) (shown_of g.chain.shown (g.chain.names g.chain.front))) xs lent held
  block_steps {ms = ms} (taking n name after more new none is front there word_is room) on slots lent held = step_taking te he g who bs m ms n name after more new none is front there word_is room ok codes xs lent held
  block_steps {ms = ms} (claiming d x q name spare none spare_is saw block enough) on slots lent held = step_claiming te he g who bs m ms d x q name spare none spare_is saw block enough ok codes xs lent held
  block_steps {ms = ms} (following x n name more parts got moves) on slots lent held =
      step_link te he g who bs m ms (n / BLOCK_SLOTS) name (following x n name more parts got moves) ok codes got.named (not_given_up g.chain n ok (λ e. let z : Reading who ≡ Done = sym got.mine ∙ e in cc))
      (elim (link_found g.chain (Link.Next name) (n / BLOCK_SLOTS + 2)) as (λ after. Leaves te he g who bs m g.chain (followed (head_of n more) name after)) [ None ↦ keeps codes slots xs lent held | Some after ↦ keeps codes slots xs lent held ])
  block_steps {ms = ms} (peeking x n name after more parts got moves behind) on slots lent held =
      step_link te he g who bs m ms (n / BLOCK_SLOTS + 1) after (peeking x n name after more parts got moves behind) ok codes behind.1 (untaken_stays g.chain (n / BLOCK_SLOTS + 1) ok (let at = moves.1 in omega arith)) (keeps codes slots xs lent held)
  block_steps {ms = ms} (installing d v f none saw fresh) on slots lent held = step_installing te he g who bs m ms d v f none saw fresh ok codes slots xs lent held
  block_steps {ms = ms} (laying d v n name f parts claims moving fresh) on slots lent held =
      op_step {ms = ms} (laying d v n name f parts claims moving fresh) 0 codes.tail.lives (λ e. refl) tt refl (acts_first (lays (fresh_at (spot f))) held.1
      (keeps (codes_laid te he g who bs {ms = ms} (laying d v n name f parts claims moving fresh) Answer.Done (laid_out g.chain who f) refl tt (refl, refl)
      f (lay_fresh g.chain who f ok moving.0) (refl, refl) fresh ok codes) slots xs lent (held.0, refl)))
  block_steps {ms = ms} (chaining d v n name f parts claims links named) on slots lent held = step_chaining te he g who bs m ms d v n name f parts claims links named ok codes slots xs lent held
  block_steps {ms = ms} (writing d v n name spare holds mine spare_is) on slots lent held = step_writing te he g who bs m ms d v n name spare holds mine spare_is ok codes xs held wrote
  block_steps {ms = ms} (awaiting x n name more holds got) on slots lent held = step_awaiting te he g who bs m ms x n name more holds got ok codes slots xs lent held
  block_steps {ms = ms} (reading x n name more holds got wrote_is inner) on slots lent held = step_reading te he g who bs m ms x n name more holds got wrote_is inner ok codes xs held
  block_steps {ms = ms} (beginning x n name more holds got wrote_is last) on slots lent held = step_beginning te he g who bs m ms x n name more holds got wrote_is last ok codes xs held
  block_steps {ms = ms} (walking x b name slot holds is named) on slots lent held = step_walking te he g who bs m b name slot holds is named ok codes xs name lent held ms x
  block_steps {ms = ms} (destroying x b name slot holds is named) on slots lent held = step_destroying te he g who bs m b name slot holds is named ok codes xs 0 lent held ms x
  block_steps (asking d v q lead none saw asked) on slots lent held = absurd on
