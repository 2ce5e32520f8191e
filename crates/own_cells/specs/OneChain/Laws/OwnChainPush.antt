-- How a push runs on a chain of blocks: its steps one after another, its reply, and what it leaves.
use Rattle.std.specs.Prelude.{◌==◌}
use Rattle.std.proofs.Common.{◌≡◌, ℕ, suc, ◌+◌, ◌-◌, ◌^◌, ◌<◌, true, false, length, Some, None, refl, arith}
use Rattle.queue_steps.specs.declared.{sizes.TheConstants.LIMIT, sizes.TheConstants.BLOCK_SLOTS, sizes.TheConstants.STEPS_ALONE, steps.ring.TheConstants.MARK, steps.ring.TheConstants.TAIL_STEP, steps.ring.PushKind.PushKind, steps.chain.TheConstants.WRITE, steps.chain.ChainLocal.ChainLocal as chain}
use Rattle.queue_steps.specs.declared.steps.types.{Answer.Answer as answer, Link.Link as link, Next.Next, Op.Op as op, Word.Word as word, Touch.Touch as touch}
use Rattle.queue_steps.specs.{Words.IsWord, Words.position_of, Words.is_shut, ChainWords.offset_of, ChainWords.items_before, RingNext.closed_reply, RingNext.pushed_reply}
use Rattle.queue_steps.specs.ChainNext.{at, loads, ends, is_last_slot, gives_up, tail_block_found, claims, asks, writes, lays}
use Rattle.own_cells.specs.{declared.chain.own_chain.Name.Name, OneRing.Laws.Numbers.same_nat, OneRing.Laws.Numbers.equal_nat, OneRing.Laws.Numbers.apart_nat}
use Rattle.own_cells.specs.OneChain.OwnChainCells.{OwnChain, piece_at, state_in, item_in, place_of, piece_of, Named, laid}
use Rattle.own_cells.specs.OneChain.Laws.OwnChainRuns.{Ending, OwnChainEnds, Named-with, bare_step, ask_step, slot_step, set_cell}
use Rattle.own_cells.specs.OneChain.Laws.{OwnChainChains.laid_behind, OwnChainChains.chained, OwnChainLeaves.marked, OwnChainLeaves.opened}

-- a push that finds a closed queue
pub run-closed : {T : Type 0} (r : OwnChain T) (v : T) (p : PushKind) (P : Ending T) → IsWord r.tail → is_shut r.tail ≡ true
    → P (closed_reply p) None (Some v) r → OwnChainEnds STEPS_ALONE (loads (chain.PushTail p None) word.Tail) r (Some v) P
run-closed r v p P small shut end =
    bare_step (STEPS_ALONE - 1) (chain.PushTail p None) (op.Load word.Tail) r r (Some v) (answer.Found r.tail) (ends (closed_reply p)) P tt (λ x y e. e) refl small (rw shut refl) end

-- a push that finds a queue which has accepted all that it ever will
pub run-spent : {T : Type 0} (r : OwnChain T) (v : T) (p : PushKind) (P : Ending T) → IsWord r.tail → is_shut r.tail ≡ false → (items_before (position_of r.tail) == LIMIT) ≡ true
    → P (closed_reply p) None (Some v) (marked r) → OwnChainEnds STEPS_ALONE (loads (chain.PushTail p None) word.Tail) r (Some v) P
run-spent r v p P small unshut spent end =
    bare_step (STEPS_ALONE - 1) (chain.PushTail p None) (op.Load word.Tail) r r (Some v) (answer.Found r.tail) (at (chain.ClosingAtLimit p None) touch.Nothing (op.Or word.Tail MARK)) P tt (λ x y e. e) refl small (rw (unshut, spent) refl)
    (bare_step (STEPS_ALONE - 2) (chain.ClosingAtLimit p None) (op.Or word.Tail MARK) r (marked r) (Some v) (answer.Found r.tail) (ends (closed_reply p)) P tt (λ x y e. e) refl tt refl end)

-- any other push reads the pushers' block
pub run-block : {T : Type 0} (r : OwnChain T) (v : T) (p : PushKind) (todo : Next (Name T)) (P : Ending T) → IsWord r.tail → is_shut r.tail ≡ false → (items_before (position_of r.tail) == LIMIT) ≡ false
    → (offset_of r.tail == BLOCK_SLOTS) ≡ false → tail_block_found p r.tail r.tail_block None ≡ todo
    → OwnChainEnds (STEPS_ALONE - 2) todo r (Some v) P → OwnChainEnds STEPS_ALONE (loads (chain.PushTail p None) word.Tail) r (Some v) P
run-block {T} r v p todo P small unshut unspent rests found more =
    bare_step (STEPS_ALONE - 1) (chain.PushTail p None) (op.Load word.Tail) r r (Some v) (answer.Found r.tail) (at (chain.PushBlock p r.tail None) touch.Nothing (op.LoadLink link.TailBlock)) P tt (λ x y e. e) refl small (rw (unshut, unspent, rests) refl)
    (bare_step (STEPS_ALONE - 2) (chain.PushBlock p r.tail None) (op.LoadLink link.TailBlock) r r (Some v) (answer.Linked r.tail_block) todo P tt (λ x y e. e) refl (small, λ e. refl) found more)

-- the slot of the claimed position is written
run-write : {T : Type 0} (steps : ℕ) (r : OwnChain T) (b : Name T) (slot : ℕ) (v : T) (p : PushKind) (P : Ending T) → Named r b → slot < BLOCK_SLOTS → state_in (piece_of r b) slot ≡ 0 → item_in (piece_of r b) slot ≡ None
    → P (pushed_reply p) None None (record r { pieces = set_cell r.pieces (place_of r b) slot WRITE (Some v) })
    → OwnChainEnds (suc (suc steps)) (at (chain.Writing p None) (touch.Put slot) (op.Or (word.State b slot) WRITE)) r (Some v) P
run-write {T} steps r b slot v p P named inside free empty end =
    slot_step (suc steps) (chain.Writing p None) (touch.Put slot) b slot WRITE r (Some v) (ends (pushed_reply p)) P named inside (named, inside, empty) refl tt refl (rw (free, empty) end)

-- a push of an item that is not the last of its block
pub run-here : {T : Type 0} (steps : ℕ) (r : OwnChain T) (b : Name T) (v : T) (p : PushKind) (P : Ending T) → IsWord r.tail → offset_of r.tail + 1 < BLOCK_SLOTS
    → Named r b → state_in (piece_of r b) (offset_of r.tail) ≡ 0 → item_in (piece_of r b) (offset_of r.tail) ≡ None
    → P (pushed_reply p) None None (record r { tail = r.tail + TAIL_STEP; pieces = set_cell r.pieces (place_of r b) (offset_of r.tail) WRITE (Some v) })
    → OwnChainEnds (suc (suc (suc steps))) (claims p r.tail b None) r (Some v) P
run-here {T} steps r b v p P small inner named free empty end =
    let ahead : OwnChain T = record r { tail = r.tail + TAIL_STEP } in
    let same : (r.tail == r.tail) ≡ true = same_nat r.tail in
    let other : is_last_slot r.tail ≡ false = apart_nat (offset_of r.tail + 1) BLOCK_SLOTS (omega arith) in
    bare_step (suc (suc steps)) (chain.Claiming p r.tail b None) (op.Exchange word.Tail r.tail (r.tail + TAIL_STEP)) r ahead (Some v) (answer.Found r.tail) (writes p r.tail b None) P
    tt (λ x y e. e) (rw same refl) (small, λ e outer. absurd (omega arith)) (rw (same, other) refl)
    (run-write steps ahead b (offset_of r.tail) v p P named (omega arith) free empty end)

-- a push of the last item of its block, with a spare that is laid behind it
pub run-behind : {T : Type 0} (steps : ℕ) (r : OwnChain T) (b f : Name T) (v : T) (p : PushKind) (P : Ending T) → IsWord r.tail → offset_of r.tail + 1 ≡ BLOCK_SLOTS
    → Named r b → Named (laid r f) b → Named (laid r f) f → f.number ≡ b.number + 1 → r.first + length r.pieces < 2 ^ 63
    → state_in (piece_at (chained (laid_behind r.pieces f) (place_of r b) f) (place_of r b)) (offset_of r.tail) ≡ 0 → item_in (piece_at (chained (laid_behind r.pieces f) (place_of r b) f) (place_of r b)) (offset_of r.tail) ≡ None
    → P (pushed_reply p) None None (record r { tail = r.tail + TAIL_STEP + TAIL_STEP; tail_block = Some f; pieces = set_cell (chained (laid_behind r.pieces f) (place_of r b) f) (place_of r b) (offset_of r.tail) WRITE (Some v); spare = None })
    → OwnChainEnds (suc (suc (suc (suc (suc (suc steps)))))) (claims p r.tail b (Some f)) (record r { spare = Some f }) (Some v) P
run-behind {T} steps r b f v p P small outer named named_b named_f behind few free empty end =
    let r1 : OwnChain T = record r { spare = Some f } in
    let r2 : OwnChain T = record r { tail = r.tail + TAIL_STEP; spare = Some f } in
    let r3 : OwnChain T = record r { tail = r.tail + TAIL_STEP; tail_block = Some f; pieces = laid_behind r.pieces f; spare = None } in
    let r4 : OwnChain T = record r { tail = r.tail + TAIL_STEP + TAIL_STEP; tail_block = Some f; pieces = laid_behind r.pieces f; spare = None } in
    let r5 : OwnChain T = record r { tail = r.tail + TAIL_STEP + TAIL_STEP; tail_block = Some f; pieces = chained (laid_behind r.pieces f) (place_of r b) f; spare = None } in
    let same : (r.tail == r.tail) ≡ true = same_nat r.tail in
    let last : is_last_slot r.tail ≡ true = equal_nat (offset_of r.tail + 1) BLOCK_SLOTS outer in
    bare_step (suc (suc (suc (suc (suc steps))))) (chain.Claiming p r.tail b (Some f)) (op.Exchange word.Tail r.tail (r.tail + TAIL_STEP)) r1 r2 (Some v) (answer.Found r.tail) (lays p r.tail b (Some f)) P
    tt (λ x y e. e) (rw same refl) (small, λ e is. refl) (rw (same, last) refl)
    (bare_step (suc (suc (suc (suc steps)))) (chain.Laying p r.tail b f) (op.StoreLink link.TailBlock f) r2 r3 (Some v) answer.Done (at (chain.Opening p r.tail b f) touch.Nothing (op.Add word.Tail TAIL_STEP)) P
    (refl, few) (λ x y e. e) refl tt refl
    (bare_step (suc (suc (suc steps))) (chain.Opening p r.tail b f) (op.Add word.Tail TAIL_STEP) r3 r4 (Some v) (answer.Found (r.tail + TAIL_STEP)) (at (chain.Chaining p r.tail b f) touch.Nothing (op.StoreLink (link.Next b) f)) P
    (omega arith) (λ x y e. e) refl tt refl
    (bare_step (suc (suc steps)) (chain.Chaining p r.tail b f) (op.StoreLink (link.Next b) f) r4 r5 (Some v) answer.Done (writes p r.tail b None) P
    (named_b, named_f, behind) (λ x y e. e) refl tt refl
    (run-write steps r5 b (offset_of r.tail) v p P (Named-with r4 b (record (piece_of r4 b) { next = Some f }) named_b named_b.2) (omega arith) free empty end))))

-- a push that finds no block lays the first one, or is refused it
pub run-first : {T : Type 0} (steps : ℕ) (r : OwnChain T) (v : T) (p : PushKind) (P : Ending T) → r.spare ≡ None → r.tail_block ≡ None → IsWord r.tail → r.first + length r.pieces < 2 ^ 63
    → P (gives_up p) None (Some v) r
    → ((f : Name T) → f.number ≡ r.first + length r.pieces → OwnChainEnds (suc (suc (suc steps))) (claims p r.tail f None) (opened r f) (Some v) P)
    → OwnChainEnds (suc (suc (suc (suc (suc (suc steps)))))) (asks p r.tail None) r (Some v) P
run-first {T} steps r v p P free none small few refused more =
    ask_step (suc (suc (suc (suc (suc steps))))) (chain.Asking p r.tail None) r (Some v) P free tt refused
    (λ f is.
    let r1 : OwnChain T = record r { spare = Some f } in (
      small,
      bare_step (suc (suc (suc (suc steps)))) (chain.Installing p r.tail f) (op.Install f) r1 (laid r1 f) (Some v) (answer.Linked None) (at (chain.Showing p r.tail f) touch.Nothing (op.StoreLink link.HeadBlock f)) P
          ((refl, few), none) (λ x y e. e) (rw none refl) tt refl
          (bare_step (suc (suc (suc steps))) (chain.Showing p r.tail f) (op.StoreLink link.HeadBlock f) (laid r1 f) (opened r f) (Some v) answer.Done (claims p r.tail f None) P
          tt (λ x y e. e) refl small refl (more f is)),
    ))
