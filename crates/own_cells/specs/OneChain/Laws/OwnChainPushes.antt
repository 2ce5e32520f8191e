-- Every push on a chain of blocks ends with its reply.
use Rattle.std.specs.Prelude.{◌==◌}
use Rattle.std.proofs.Common.{◌≡◌, ◌⊎◌, ℕ, suc, ◌+◌, ◌-◌, ◌/◌, ◌%◌, ◌<◌, Bool, true, false, List, [], ◌∷◌, ◌++◌, length, Option, Some, None, refl, arith, sym, ap, ◌∙◌, subst, inl, inr}
use Rattle.queue_steps.specs.declared.{sizes.TheConstants.LIMIT, sizes.TheConstants.BLOCK_SLOTS, sizes.TheConstants.STEPS_ALONE, steps.types.Word.Word as word, steps.ring.TheConstants.TAIL_STEP, steps.ring.PushKind.PushKind, steps.chain.TheConstants.WRITE, steps.chain.ChainLocal.ChainLocal as chain}
use Rattle.queue_steps.specs.{State.State, Words.is_shut, ChainWords.offset_of, RingNext.pushed_reply, ChainNext.loads, ChainNext.is_last_slot, ChainNext.claims, ChainNext.asks}
use Rattle.own_cells.specs.{declared.chain.own_chain.Name.Name, OneChain.Laws.OwnChainRuns.Ending, OneChain.Laws.OwnChainRuns.OwnChainEnds, OneChain.Laws.OwnChainRuns.ask_step, OneChain.Laws.OwnChainRuns.set_cell, OneChain.Laws.OwnChainKeeps.cell_in}
use Rattle.own_cells.specs.OneRing.Laws.Numbers.{equal_nat, apart_nat, is_below, last_or_not}
use Rattle.own_cells.specs.OneChain.OwnChainCells.{Piece, OwnChain, piece_at, place_of, piece_of, Named, laid}
use Rattle.own_cells.specs.OneChain.OwnChainOwned.{taken, accepted, cell_of, Linked, IsBare, IsIdle}
use Rattle.own_cells.specs.OneChain.Laws.OwnChainChains.{laid_behind, chained, length-laid, laid-old, laid-new, lay-same}
use Rattle.own_cells.specs.OneChain.Laws.OwnChainPush.{run-closed, run-spent, run-block, run-here, run-behind, run-first}
use Rattle.own_cells.specs.OneChain.Laws.OwnChainSequential.{EndsAnswered, push_call, right-closed, right-spent, right-pushed, right-refused}
use Rattle.own_cells.specs.OneChain.Laws.OwnChainLeaves.{Laid, tail-offset, tail-word, room, pushed, opened, idle-pushed, queue-pushed, ready-here, ready-behind, laid-opened, idle-opened, queue-opened}

-- the block at a place is named by its number
pub place-is : {T : Type 0} (r : OwnChain T) (k : ℕ) → Linked r.first r.pieces → k < length r.pieces → place_of r (piece_at r.pieces k).name ≡ k
place-is r k linked below = let is = linked.number k below in omega arith

pub named-at : {T : Type 0} (r : OwnChain T) (k : ℕ) → Linked r.first r.pieces → k < length r.pieces → Named r (piece_at r.pieces k).name
named-at {T} r k linked below =
    let is = linked.number k below in
    let place = place-is r k linked below in
    (omega arith, omega arith, ap (λ j. (piece_at r.pieces j).name) place)

-- the last block and its place
module _ {T : Type 0} (r : OwnChain T) (i : IsIdle r) (l : Laid r) where
  abbrev pub last : ℕ
  last = length r.pieces - 1

  abbrev pub last_name : Name T
  last_name = (piece_at r.pieces last).name

  last-below : last < length r.pieces
  last-below = let count = l.count in let order = i.order in omega arith

  pub last-place : place_of r last_name ≡ accepted r / BLOCK_SLOTS - taken r / BLOCK_SLOTS
  last-place = let place = place-is r last l.linked last-below in let count = l.count in let order = i.order in place ∙ omega arith

  pub last-named : Named r last_name
  last-named = named-at r last l.linked last-below

  pub last-is : r.tail_block ≡ Some last_name
  last-is = let below = last-below in l.back last (omega arith)

  pub last-cell : cell_in (piece_of r last_name) (offset_of r.tail) ≡ (0, None)
  last-cell =
      let At : ℕ → ℕ → Type 0 = λ j s. cell_in (piece_at r.pieces j) s ≡ (0, None) in
      let free : At (accepted r / BLOCK_SLOTS - taken r / BLOCK_SLOTS) (accepted r % BLOCK_SLOTS) = l.holds.free (accepted r) (omega arith) (room r i l) in
      subst (λ j. At j (offset_of r.tail)) (sym last-place) (subst (λ s. At (accepted r / BLOCK_SLOTS - taken r / BLOCK_SLOTS) s) (sym (tail-offset r i)) free)

-- a push into the last block ends
push-here : {T : Type 0} (steps : ℕ) (r : OwnChain T) (v : T) (p : PushKind) (P : Ending T) (i : IsIdle r) (l : Laid r) → accepted r % BLOCK_SLOTS + 1 < BLOCK_SLOTS
    → P (pushed_reply p) None None (pushed r r.pieces r.tail_block (r.tail + TAIL_STEP) r.spare v) → OwnChainEnds (suc (suc (suc steps))) (claims p r.tail (last_name r i l) None) r (Some v) P
push-here {T} steps r v p P i l inner end =
    let b : Name T = last_name r i l in
    let offset = tail-offset r i in
    let cell = last-cell r i l in
    let Done : ℕ → ℕ → Type 0 = λ j s. P (pushed_reply p) None None (record r { tail = r.tail + TAIL_STEP; pieces = set_cell r.pieces j s WRITE (Some v) }) in
    let place = last-place r i l in
    run-here steps r b v p P (tail-word r i) (omega arith) (last-named r i l) (ap (λ (c : ℕ × Option T). c.0) cell) (ap (λ (c : ℕ × Option T). c.1) cell)
    (subst (λ j. Done j (offset_of r.tail)) (sym place) (subst (λ s. Done (accepted r / BLOCK_SLOTS - taken r / BLOCK_SLOTS) s) (sym offset) end))

-- a push of a block's last item ends, with the block that it was granted behind that block
push-behind : {T : Type 0} (steps : ℕ) (r : OwnChain T) (f : Name T) (v : T) (p : PushKind) (P : Ending T) (i : IsIdle r) (l : Laid r) → accepted r % BLOCK_SLOTS + 1 ≡ BLOCK_SLOTS → f.number ≡ r.first + length r.pieces
    → P (pushed_reply p) None None (pushed r (chained (laid_behind r.pieces f) (place_of r (last_name r i l)) f) (Some f) (r.tail + TAIL_STEP + TAIL_STEP) None v)
    → OwnChainEnds (suc (suc (suc (suc (suc (suc steps)))))) (claims p r.tail (last_name r i l) (Some f)) (record r { spare = Some f }) (Some v) P
push-behind {T} steps r f v p P i l outer is end =
    let b : Name T = last_name r i l in
    let few = i.few in
    let below = i.below in
    let offset = tail-offset r i in
    let place = last-place r i l in
    let named = last-named r i l in
    let low = named.0 in
    let high = named.1 in
    let ps : List (Piece T) = chained (laid_behind r.pieces f) (place_of r b) f in
    let long = length-laid r.pieces f in
    let ending : place_of r b + 1 ≡ length r.pieces = let count = l.count in let order = i.order in omega arith in
    let named_b : Named (laid r f) b = (low, omega arith, ap (λ (q : Piece T). q.name) (laid-old r.pieces f (place_of r b) (omega arith)) ∙ named.2) in
    let Place : ℕ → Type 0 = λ j. (piece_at (laid_behind r.pieces f) j).name ≡ f in
    let at_end : length r.pieces ≡ f.number - r.first = omega arith in
    let named_f : Named (laid r f) f = (omega arith, omega arith, subst Place at_end (ap (λ (q : Piece T). q.name) (laid-new r.pieces f))) in
    let At : ℕ → ℕ → Type 0 = λ j s. cell_in (piece_at ps j) s ≡ (0, None) in
    let same : cell_of ps (taken r / BLOCK_SLOTS) (accepted r) ≡ cell_of r.pieces (taken r / BLOCK_SLOTS) (accepted r) = lay-same r.pieces r.first (place_of r b) f ending is (taken r / BLOCK_SLOTS) (accepted r) (room r i l) in
    let free : At (accepted r / BLOCK_SLOTS - taken r / BLOCK_SLOTS) (accepted r % BLOCK_SLOTS) = same ∙ l.holds.free (accepted r) (omega arith) (room r i l) in
    let cell : At (place_of r b) (offset_of r.tail) = subst (λ j. At j (offset_of r.tail)) (sym place) (subst (λ s. At (accepted r / BLOCK_SLOTS - taken r / BLOCK_SLOTS) s) (sym offset) free) in
    let Done : ℕ → ℕ → Type 0 = λ j s. P (pushed_reply p) None None (record r { tail = r.tail + TAIL_STEP + TAIL_STEP; tail_block = Some f; pieces = set_cell ps j s WRITE (Some v); spare = None }) in
    run-behind steps r b f v p P (tail-word r i) (omega arith) named named_b named_f (omega arith) (omega arith) (ap (λ (c : ℕ × Option T). c.0) cell) (ap (λ (c : ℕ × Option T). c.1) cell)
    (subst (λ j. Done j (offset_of r.tail)) (sym place) (subst (λ s. Done (accepted r / BLOCK_SLOTS - taken r / BLOCK_SLOTS) s) (sym offset) end))

-- a push into an open queue that accepts items still
module _ {T : Type 0} (r : OwnChain T) (v : T) (p : PushKind) (i : IsIdle r) (unshut : is_shut r.tail ≡ false) (unspent : (accepted r == LIMIT) ≡ false) where
  limit : accepted r < LIMIT
  limit = is_below (accepted r) LIMIT unspent i.below

  rests : (offset_of r.tail == BLOCK_SLOTS) ≡ false
  rests = apart_nat (offset_of r.tail) BLOCK_SLOTS (let t = i.tail_rests in omega arith)

  -- into a chain with blocks
  into-laid : Laid r → (accepted r % BLOCK_SLOTS + 1 ≡ BLOCK_SLOTS) ⊎ (accepted r % BLOCK_SLOTS + 1 < BLOCK_SLOTS) → OwnChainEnds STEPS_ALONE (loads (chain.PushTail p None) word.Tail) r (Some v) (EndsAnswered (push_call p v) r)
  into-laid l (inl outer) =
      let offset = tail-offset r i in
      let last : is_last_slot r.tail ≡ true = equal_nat (offset_of r.tail + 1) BLOCK_SLOTS (omega arith) in
      let b : Name T = last_name r i l in
      run-block r v p (asks p r.tail (Some b)) (EndsAnswered (push_call p v) r) (tail-word r i) unshut unspent rests (rw (last-is r i l, last) refl)
      (ask_step (STEPS_ALONE - 3) (chain.Asking p r.tail (Some b)) r (Some v) (EndsAnswered (push_call p v) r) i.no_spare tt (right-refused r v i p (refl, unshut, inr (omega arith)) (λ unused. absurd (omega arith)))
      (λ f is.
      let ending : place_of r b + 1 ≡ length r.pieces = let place = last-place r i l in let count = l.count in let order = i.order in omega arith in
      let ps : List (Piece T) = chained (laid_behind r.pieces f) (place_of r b) f in
      let ready = ready-behind r (place_of r b) f i l outer ending is in (
        tail-word r i,
        push-behind (STEPS_ALONE - 9) r f v p (EndsAnswered (push_call p v) r) i l outer is
            (right-pushed r v i p (pushed r ps (Some f) (r.tail + TAIL_STEP + TAIL_STEP) None v) unshut unspent (idle-pushed r ps (Some f) (r.tail + TAIL_STEP + TAIL_STEP) None v i ready limit refl) ready.counted
            (queue-pushed r ps (Some f) (r.tail + TAIL_STEP + TAIL_STEP) None v i ready)),
      )))
  into-laid l (inr inner) =
      let offset = tail-offset r i in
      let other : is_last_slot r.tail ≡ false = apart_nat (offset_of r.tail + 1) BLOCK_SLOTS (omega arith) in
      let ready = ready-here r i l (λ e. omega arith) in
      let done : OwnChain T = pushed r r.pieces r.tail_block (r.tail + TAIL_STEP) r.spare v in
      run-block r v p (claims p r.tail (last_name r i l) None) (EndsAnswered (push_call p v) r) (tail-word r i) unshut unspent rests (rw (last-is r i l, other) refl)
      (push-here (STEPS_ALONE - 5) r v p (EndsAnswered (push_call p v) r) i l inner
      (right-pushed r v i p done unshut unspent (idle-pushed r r.pieces r.tail_block (r.tail + TAIL_STEP) r.spare v i ready limit i.no_spare) ready.counted (queue-pushed r r.pieces r.tail_block (r.tail + TAIL_STEP) r.spare v i ready)))

  -- into a chain without blocks
  into-bare : IsBare r.first r.pieces r.head_block r.tail_block (accepted r) → OwnChainEnds STEPS_ALONE (loads (chain.PushTail p None) word.Tail) r (Some v) (EndsAnswered (push_call p v) r)
  into-bare bare =
      let few = i.few in
      let unused = bare.unused in
      let none : length r.pieces ≡ 0 = ap length bare.none in
      run-block r v p (asks p r.tail None) (EndsAnswered (push_call p v) r) (tail-word r i) unshut unspent rests (rw bare.back refl)
      (run-first (STEPS_ALONE - 8) r v p (EndsAnswered (push_call p v) r) i.no_spare bare.back (tail-word r i) (omega arith) (right-refused r v i p (refl, unshut, inl unused) (λ unused. none))
      (λ f is.
      let s : OwnChain T = opened r f in
      let j = idle-opened r f i bare is in
      let l = laid-opened r f i bare is in
      let ready = ready-here s j l (λ e. omega arith) in
      let done : OwnChain T = pushed s s.pieces s.tail_block (s.tail + TAIL_STEP) s.spare v in
      let Appended : State T → State T = λ q. record q { items = q.items ++ v ∷ []; accepted = q.accepted + 1 } in
      let Claims : Name T → Type 0 = λ b. OwnChainEnds (STEPS_ALONE - 5) (claims p r.tail b None) s (Some v) (EndsAnswered (push_call p v) r) in
      subst Claims (sym (named f (last_name s j l) (last-is s j l)))
      (push-here (STEPS_ALONE - 8) s v p (EndsAnswered (push_call p v) r) j l (omega arith)
      (right-pushed r v i p done unshut unspent (idle-pushed s s.pieces s.tail_block (s.tail + TAIL_STEP) s.spare v j ready limit refl) ready.counted
      (queue-pushed s s.pieces s.tail_block (s.tail + TAIL_STEP) s.spare v j ready ∙ ap Appended (queue-opened r f i bare is))))))
    where
      named : (x y : Name T) → ◌≡◌ {A = Option (Name T)} (Some x) (Some y) → x ≡ y
      named x y e = cc

pub push-answers : {T : Type 0} (r : OwnChain T) (v : T) (p : PushKind) → IsIdle r → OwnChainEnds STEPS_ALONE (loads (chain.PushTail p None) word.Tail) r (Some v) (EndsAnswered (push_call p v) r)
push-answers {T} r v p i = go (is_shut r.tail) (accepted r == LIMIT) refl refl i.blocks
  where
    go : (b1 b2 : Bool) → is_shut r.tail ≡ b1 → (accepted r == LIMIT) ≡ b2 → IsBare r.first r.pieces r.head_block r.tail_block (accepted r) ⊎ Laid r
        → OwnChainEnds STEPS_ALONE (loads (chain.PushTail p None) word.Tail) r (Some v) (EndsAnswered (push_call p v) r)
    go true b2 e1 e2 blocks = run-closed r v p (EndsAnswered (push_call p v) r) (tail-word r i) e1 (right-closed r v i p e1)
    go false true e1 e2 blocks = run-spent r v p (EndsAnswered (push_call p v) r) (tail-word r i) e1 e2 (right-spent r v i p e1 e2)
    go false false e1 e2 (inl bare) = into-bare r v p i e1 e2 bare
    go false false e1 e2 (inr l) = into-laid r v p i e1 e2 l (last_or_not (accepted r % BLOCK_SLOTS) BLOCK_SLOTS (omega arith))
