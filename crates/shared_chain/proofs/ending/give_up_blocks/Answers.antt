use Rattle.std.proofs.Common.{◌≡◌, ℕ, ◌-◌, Some, ◌⊎◌, inl, inr, List, ◌+◌, ap, subst, ◌∙◌, ◌<◌, length, sym, le_refl}
use Rattle.mem_blocks.specs.{Web.Block, Web.block, Web.without, declared.sizes.TheConstants.SLOTS}
use Rattle.queue_steps.specs.{Words.position_of, ChainWords.items_before}
use Rattle.own_cells.specs.OneChain.ChainMemory.{block_of}
use Rattle.shared_chain.specs.Leftover.{Emptied, BlocksLeft, IsHere}
use Rattle.shared_chain.proofs.Finishing.Leftovers.{number_fits, next_fits, items_fit, items_small, here_within, emptied_next, emptied_lives, emptied_vacant, same_behind, fewer_behind, left_behind, here_behind}
use Rattle.shared_chain.proofs.ending.give_up_blocks.Goals as goal
use Rattle.shared_chain.proofs.ending.give_up_blocks.Goals.{then-vacated, else-vacated}

pub loop-here-init : goal.loop-here-init
loop-here-init g c =
    let numbers : (c.items_before-taken.result ≡ items_before (position_of c.args.head)) × (c.items_before-accepted.result ≡ items_before (position_of c.args.tail)) × (c.block_of-block.result ≡ block_of c.args.head)
    = (c.items_before-taken.ensures, c.items_before-accepted.ensures, c.block_of-block.ensures) in
    record {
      heap = c.requires.heap;
      left = subst (λ (z : ℕ × ℕ × ℕ). BlocksLeft z.0 z.1 z.2 c.args.chain.now.blocks) (λ i. (sym numbers.0 i, sym numbers.1 i, sym numbers.2 i)) c.requires.left;
      here = subst (λ b. IsHere b (Some c.args.front) c.args.chain.now.blocks) (sym numbers.2) c.requires.front;
    }

pub overflow_add-number : goal.overflow_add-number
overflow_add-number g c =
    let h = c.loop-here in
    record { fits = number_fits h.block (length h.chain.blocks) h.invariant.left.few (here_within h.block h.here c.in-Some.link h.chain.blocks c.in-Some.is h.invariant.here) }

pub overflow_mul-block : goal.overflow_mul-block
overflow_mul-block g c =
    let h = c.loop-here in
    record { fits = items_fit h.block (length h.chain.blocks) h.invariant.left.few (here_within h.block h.here c.in-Some.link h.chain.blocks c.in-Some.is h.invariant.here) }

pub empty_block-vacated-requires-clause-place : goal.empty_block-vacated-requires-clause-place
empty_block-vacated-requires-clause-place g c = let h = c.loop-here in subst (λ o. IsHere h.block o h.chain.blocks) c.in-Some.is h.invariant.here

pub empty_block-vacated-requires-clause-small : goal.empty_block-vacated-requires-clause-small
empty_block-vacated-requires-clause-small g c =
    let h = c.loop-here in
    items_small h.block (length h.chain.blocks) h.invariant.left.few (here_within h.block h.here c.in-Some.link h.chain.blocks c.in-Some.is h.invariant.here)

pub next-requires : goal.next-requires
next-requires g c =
    let h = c.loop-here in
    let place = subst (λ o. IsHere h.block o h.chain.blocks) c.in-Some.is h.invariant.here in
    (place.0, emptied_lives c.in-Some.link.ptr h.chain.blocks c.empty_block-vacated.new.chain.blocks (h.block + 2) c.empty_block-vacated.ensures.emptied place.1)

pub get-here-requires : goal.get-here-requires
get-here-requires g c =
    let h = c.loop-here in
    let left = h.invariant.left.stays h.block (le_refl _) (here_within h.block h.here c.in-Some.link h.chain.blocks c.in-Some.is h.invariant.here) in
    emptied_next c.next.result.ptr (block h.chain.blocks (h.block + 2)) (block c.empty_block-vacated.new.chain.blocks (h.block + 2)) c.next.ensures c.empty_block-vacated.ensures.emptied left.tested

pub lift-requires : goal.lift-requires
lift-requires g c =
    let h = c.loop-here in
    let place = subst (λ o. IsHere h.block o h.chain.blocks) c.in-Some.is h.invariant.here in
    emptied_lives c.in-Some.link.ptr h.chain.blocks c.empty_block-vacated.new.chain.blocks (h.block + 2) c.empty_block-vacated.ensures.emptied place.1

pub overflow_add-block : goal.overflow_add-block
overflow_add-block g c =
    let h = c.loop-here in
    record { fits = next_fits h.block (length h.chain.blocks) h.invariant.left.few (here_within h.block h.here c.in-Some.link h.chain.blocks c.in-Some.is h.invariant.here) }

pub loop-here-smaller : goal.loop-here-smaller
loop-here-smaller g c =
    let h = c.loop-here in
    let mid = c.empty_block-vacated.new.chain.blocks in
    let new = c.if-vacated.chain.blocks in
    let within = here_within h.block h.here c.in-Some.link h.chain.blocks c.in-Some.is h.invariant.here in
    let fewer : (new ≡ mid) ⊎ (new ≡ without mid (h.block + 2)) → length new - (h.block + 1) < length h.chain.blocks - h.block
    = λ is.
    let same = same_behind (h.block + 2) h.chain.blocks mid new c.empty_block-vacated.ensures.chain.1 is in
    fewer_behind c.items_before-taken.result c.items_before-accepted.result h.block h.chain.blocks new same h.invariant.left within in
    elim c.if-vacated.branch [
      | then-vacated w ↦ fewer (inr (ap (λ s. s.blocks) w.chain-is ∙ w.lift.ensures.left.1))
      | else-vacated w ↦ fewer (inl (ap (λ s. s.blocks) w.chain-is))
    ]

pub empty_block-vacated-requires-clause-left : goal.empty_block-vacated-requires-clause-left
empty_block-vacated-requires-clause-left g c =
    let h = c.loop-here in
    (h.invariant.left.stays h.block (le_refl _) (here_within h.block h.here c.in-Some.link h.chain.blocks c.in-Some.is h.invariant.here)).block_left

pub give_up-requires : goal.give_up-requires
give_up-requires g c =
    let h = c.loop-here in
    let t = c.lift.ensures.taken in
    let mid = c.empty_block-vacated.new.chain.blocks in
    let old = block h.chain.blocks (h.block + 2) in
    let e = c.empty_block-vacated.ensures in
    let left = h.invariant.left.stays h.block (le_refl _) (here_within h.block h.here c.in-Some.link h.chain.blocks c.in-Some.is h.invariant.here) in
    let vacated = emptied_vacant old (block mid (h.block + 2)) c.lift.result.homes left.block_left.homes
    (subst (λ b. Emptied (λ j. j < SLOTS) b old (block mid (h.block + 2))) c.if-vacated.true e.emptied) t.4 in
    (t.0 ∙ e.chain.0 ∙ h.invariant.heap, t.1, vacated.0, vacated.1)

pub loop-here-preserved : goal.loop-here-preserved
loop-here-preserved g c =
    let h = c.loop-here in
    let e = c.empty_block-vacated.ensures in
    let mid = c.empty_block-vacated.new.chain.blocks in
    let within = here_within h.block h.here c.in-Some.link h.chain.blocks c.in-Some.is h.invariant.here in
    let next = c.next.ensures ∙ e.emptied.next in
    let out : (new : List (Block g.row.T.Denot)) → (new ≡ mid) ⊎ (new ≡ without mid (h.block + 2)) → BlocksLeft c.items_before-taken.result c.items_before-accepted.result (h.block + 1) new × IsHere (h.block + 1) c.get-here.result new
    = λ new is.
    let same = same_behind (h.block + 2) h.chain.blocks mid new e.chain.1 is in (
      left_behind c.items_before-taken.result c.items_before-accepted.result h.block h.chain.blocks new same h.invariant.left,
      here_behind c.items_before-taken.result c.items_before-accepted.result h.block h.chain.blocks new same h.invariant.left c.get-here.result c.next.result.ptr within next c.get-here.ensures.some,
    ) in
    elim c.if-vacated.branch [
      | then-vacated w ↦ let o = out c.if-vacated.chain.blocks (inr (ap (λ s. s.blocks) w.chain-is ∙ w.lift.ensures.left.1)) in record { heap = ap (λ s. s.heap) w.chain-is ∙ w.lift.ensures.left.0 ∙ e.chain.0 ∙ h.invariant.heap; left = o.0; here = o.1 }
      | else-vacated w ↦ let o = out c.if-vacated.chain.blocks (inl (ap (λ s. s.blocks) w.chain-is)) in record { heap = ap (λ s. s.heap) w.chain-is ∙ e.chain.0 ∙ h.invariant.heap; left = o.0; here = o.1 }
    ]
