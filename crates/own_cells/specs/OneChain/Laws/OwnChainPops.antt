-- Every pop on a chain of blocks ends with its reply.
use Rattle.std.specs.Prelude.{◌==◌, slice_set, get_or, bit_or, is_some, IsSome, if◌then◌else◌}
use Rattle.std.proofs.Common.{◌≡◌, ◌≢◌, ◌⊎◌, ℕ, suc, ◌+◌, ◌-◌, ◌*◌, ◌/◌, ◌%◌, ◌<◌, Bool, true, false, List, length, Option, Some, None, Ok, Err, refl, arith, sym, ap, ◌∙◌, subst, inl, inr}
use Rattle.std.proofs.lemmas.List.{get_or-set_same, get_or-set_other, length-set}
use Rattle.queue_steps.specs.declared.{sizes.TheConstants.BLOCK_SLOTS, sizes.TheConstants.STEPS_ALONE, model.Call.Call as call, model.Reply.Reply as reply, errors.PopError.PopError as pop}
use Rattle.queue_steps.specs.declared.steps.{types.Word.Word as word, ring.TheConstants.TAIL_STEP, chain.TheConstants.WRITE, chain.TheConstants.READ, chain.ChainLocal.ChainLocal as chain}
use Rattle.queue_steps.specs.{Effect.rest, Words.position_of, Words.is_shut, ChainNext.loads, ChainNext.takes, ChainWords.block_at, ChainWords.offset_of}
use Rattle.own_cells.specs.{declared.chain.own_chain.Name.Name, OneChain.OwnChainOwned.taken, OneChain.OwnChainOwned.accepted, OneChain.OwnChainOwned.cell_of, OneChain.OwnChainOwned.own_chain_owned, OneChain.OwnChainOwned.IsBare, OneChain.OwnChainOwned.IsIdle}
use Rattle.own_cells.specs.OneRing.Laws.Numbers.{equal_nat, apart_nat, is_equal, is_apart, same_or_not, equal_or_above, last_or_not}
use Rattle.own_cells.specs.OneChain.Laws.{OwnChainRuns.OwnChainEnds, OwnChainRuns.Named-with, OwnChainRuns.place_below, OwnChainRuns.set_cell, OwnChainKeeps.cell_in, OwnChainChains.rest-set, OwnChainChains.IsEmptied-all, OwnChainSequential.EndsAnswered, OwnChainSequential.sequential}
use Rattle.own_cells.specs.OneChain.Laws.{OwnChainPop.run-empty, OwnChainPop.run-known, OwnChainPop.run-tail, OwnChainPop.run-taken, OwnChainPop.run-passed, OwnChainPushes.place-is, OwnChainPushes.named-at, OwnChainPushes.last_name, OwnChainPushes.last-is}
use Rattle.call_driver.specs.EndsIn.{Replied}
use Rattle.own_cells.specs.OneChain.OwnChainCells.{Piece, OwnChain, piece_at, place_of, piece_of, with_piece, Named, CanFollow, IsEmptied}
use Rattle.own_cells.specs.OneChain.Laws.OwnChainLeaves.{Laid, head-offset, head-word, Moved, popped, passed, idle-popped, idle-passed, items-front, queue-popped, queue-passed}

-- the numbers tell of each block whether there is one behind it
pub can-follow : {T : Type 0} (r : OwnChain T) (i : IsIdle r) (l : Laid r) (k : ℕ) → k < length r.pieces → CanFollow r (piece_at r.pieces k).name
can-follow {T} r i l k below = (named-at r k l.linked below, (last_name r i l, last-is r i l, go (last_or_not k (length r.pieces) below)))
  where
    number : ((last_name r i l).number) ≡ r.first + (length r.pieces - 1)
    number = l.linked.number (length r.pieces - 1) (omega arith)

    place : place_of r (piece_at r.pieces k).name ≡ k
    place = place-is r k l.linked below

    go : (k + 1 ≡ length r.pieces) ⊎ (k + 1 < length r.pieces)
        → (((last_name r i l).number ≡ (piece_at r.pieces k).name.number) × ((piece_of r (piece_at r.pieces k).name).next ≡ None)) ⊎ (((last_name r i l).number ≢ (piece_at r.pieces k).name.number) × IsSome (piece_of r (piece_at r.pieces k).name).next)
    go (inl end) =
        let own = l.linked.number k below in
        inl (number ∙ omega arith, ap (λ j. (piece_at r.pieces j).next) place ∙ l.linked.end k end)
    go (inr more) =
        let own = l.linked.number k below in
        let next : (piece_of r (piece_at r.pieces k).name).next ≡ Some (piece_at r.pieces (k + 1)).name = ap (λ j. (piece_at r.pieces j).next) place ∙ l.linked.next k more in
        let There : Option (Name T) → Type 0 = λ o. IsSome o in
        inr (λ e. (let n = number in omega arith), subst There (sym next) refl)

-- the front's block
module _ {T : Type 0} (r : OwnChain T) (i : IsIdle r) (l : Laid r) where
  abbrev first_name : Name T
  first_name = (piece_at r.pieces 0).name

  filled : 0 < length r.pieces
  filled = let count = l.count in let order = i.order in omega arith

  first-place : place_of r first_name ≡ 0
  first-place = place-is r 0 l.linked filled

  first-named : Named r first_name
  first-named = named-at r 0 l.linked filled

  -- the cell of the item n of that block
  first-cell : (n slot : ℕ) → n / BLOCK_SLOTS ≡ taken r / BLOCK_SLOTS → n % BLOCK_SLOTS ≡ slot → cell_in (piece_of r first_name) slot ≡ cell_of r.pieces (taken r / BLOCK_SLOTS) n
  first-cell n slot same is =
      let place : place_of r first_name ≡ n / BLOCK_SLOTS - taken r / BLOCK_SLOTS = first-place ∙ omega arith in
      ap (λ j. cell_in (piece_at r.pieces j) slot) place ∙ ap (λ s. cell_in (piece_at r.pieces (n / BLOCK_SLOTS - taken r / BLOCK_SLOTS)) s) (sym is)

  module _ (some : taken r < accepted r) where
    abbrev front : (x : T) × (cell_of r.pieces (taken r / BLOCK_SLOTS) (taken r) ≡ (WRITE, Some x))
    front = l.holds.written (taken r) (omega arith) some

    front-cell : cell_in (piece_of r first_name) (offset_of r.head) ≡ (WRITE, Some front.0)
    front-cell = first-cell (taken r) (offset_of r.head) refl (sym (head-offset r i)) ∙ front.1

    -- the slots before the last one are read
    read-cell : taken r % BLOCK_SLOTS + 1 ≡ BLOCK_SLOTS → (j : ℕ) → j + 1 < BLOCK_SLOTS → cell_in (piece_of r first_name) j ≡ (bit_or WRITE READ, None)
    read-cell outer j low =
        let n : ℕ = taken r / BLOCK_SLOTS * BLOCK_SLOTS + j in
        first-cell n j (omega arith) (omega arith) ∙ l.holds.read n (omega arith) (omega arith)

    -- a pop of an item that is not the last of its block
    pub take-here : (steps new : ℕ) → taken r % BLOCK_SLOTS + 1 < BLOCK_SLOTS → Moved r new → OwnChainEnds (suc (suc (suc (suc steps)))) (takes r.head first_name new) r None (EndsAnswered call.Pop r)
    take-here steps new inner m =
        let offset = head-offset r i in
        let cell = front-cell in
        let x : T = front.0 in
        let place : place_of r first_name ≡ taken r / BLOCK_SLOTS - taken r / BLOCK_SLOTS = first-place ∙ omega arith in
        let Done : ℕ → ℕ → Type 0 = λ j s. EndsAnswered call.Pop r (reply.Pop (Ok tt)) None (Some x) (record r { head = new; pieces = set_cell r.pieces j s (bit_or WRITE READ) None }) in
        let idle = idle-popped r new i l some m (λ e. omega arith) in
        let items = items-front r new i l some m x front.1 in
        let end : Done (taken r / BLOCK_SLOTS - taken r / BLOCK_SLOTS) (taken r % BLOCK_SLOTS) =
        (idle, (reply.Pop (Ok x), refl, sequential r (popped r new) call.Pop (reply.Pop (Ok x)) idle (rw items refl) (queue-popped r new i l some m x (λ e. omega arith) front.1) (λ none. absurd (omega arith)))) in
        run-taken steps r first_name new x (EndsAnswered call.Pop r) (omega arith) first-named (ap (λ (c : ℕ × Option T). c.0) cell) (ap (λ (c : ℕ × Option T). c.1) cell)
        (subst (λ j. Done j (offset_of r.head)) (sym place) (subst (λ s. Done (taken r / BLOCK_SLOTS - taken r / BLOCK_SLOTS) s) (sym offset) end))

    -- the head moves into the next block
    abbrev final_head : ℕ
    final_head = (position_of r.head + 2) * 2 + (if is_some (piece_of r (piece_at r.pieces 1).name).next then 1 else 0)

    second-below : taken r % BLOCK_SLOTS + 1 ≡ BLOCK_SLOTS → 1 < length r.pieces
    second-below outer = let count = l.count in omega arith

    moved-final : taken r % BLOCK_SLOTS + 1 ≡ BLOCK_SLOTS → Moved r final_head
    moved-final outer = go (piece_of r (piece_at r.pieces 1).name).next refl
      where
        below : 1 < length r.pieces
        below = second-below outer

        go : (o : Option (Name T)) → (piece_of r (piece_at r.pieces 1).name).next ≡ o → Moved r ((position_of r.head + 2) * 2 + (if is_some o then 1 else 0))
        go None is = let rests = i.head_rests in record { rests = omega arith; counted = omega arith; known = λ bit. absurd (omega arith) }
        go (Some b) is =
            let rests = i.head_rests in
            let count = l.count in
            let more : 2 < length r.pieces = longer (last_or_not 1 (length r.pieces) below) in
            record { rests = omega arith; counted = omega arith; known = λ bit. omega arith }
          where
            place : place_of r (piece_at r.pieces 1).name ≡ 1
            place = place-is r 1 l.linked below

            longer : (2 ≡ length r.pieces) ⊎ (2 < length r.pieces) → 2 < length r.pieces
            longer (inr more) = more
            longer (inl two) =
                let none : (piece_of r (piece_at r.pieces 1).name).next ≡ None = ap (λ j. (piece_at r.pieces j).next) place ∙ l.linked.end 1 two in
                absurd (differ b (sym is ∙ none))
              where
                differ : (x : Name T) → ◌≡◌ {A = Option (Name T)} (Some x) None → ⊥
                differ x e = cc

    -- the front's block after its last item was taken
    abbrev emptied : Piece T
    emptied = record (piece_of r first_name) { slots = slice_set (piece_of r first_name).slots (offset_of r.head) None }

    all-empty : taken r % BLOCK_SLOTS + 1 ≡ BLOCK_SLOTS → IsEmptied emptied.slots
    all-empty outer = IsEmptied-all emptied.slots (λ j below. go j below (same_or_not j (offset_of r.head)))
      where
        go : (j : ℕ) → j < length emptied.slots → (j ≡ offset_of r.head) ⊎ (j ≢ offset_of r.head) → get_or emptied.slots j None ≡ None
        go j below (inl e) =
            let long = length-set (piece_of r first_name).slots (offset_of r.head) None in
            rw e (get_or-set_same (piece_of r first_name).slots (offset_of r.head) None None (omega arith))
        go j below (inr differs) =
            let long = length-set (piece_of r first_name).slots (offset_of r.head) None in
            let whole : length (piece_of r first_name).slots ≡ BLOCK_SLOTS = ap (λ k. length (piece_at r.pieces k).slots) first-place ∙ l.linked.slots 0 filled in
            let offset = head-offset r i in
            let read = read-cell outer j (omega arith) in
            get_or-set_other (piece_of r first_name).slots (offset_of r.head) j None None differs ∙ ap (λ (c : ℕ × Option T). c.1) read

    -- the block is given up, and the call has its reply
    pass-ends : taken r % BLOCK_SLOTS + 1 ≡ BLOCK_SLOTS
        → EndsAnswered call.Pop r (reply.Pop (Ok tt)) (Some first_name) (Some front.0) (record r { head = final_head; head_block = Some (piece_at r.pieces 1).name; pieces = slice_set r.pieces (place_of r first_name) emptied })
    pass-ends outer =
        let left : OwnChain T = record r { head = final_head; head_block = Some (piece_at r.pieces 1).name } in
        let done : OwnChain T = with_piece left first_name emptied in
        let x : T = front.0 in
        let got : piece_of done first_name ≡ emptied = get_or-set_same r.pieces (place_of r first_name) emptied _ (place_below r first_name first-named) in
        let Empty : Piece T → Type 0 = λ p. IsEmptied p.slots in
        let number = l.linked.number 0 filled in
        let m = moved-final outer in
        let idle = idle-passed r final_head i l some m outer in
        let items = items-front r final_head i l some m x front.1 in
        let After : OwnChain T → Type 0 = λ y. Replied IsIdle own_chain_owned call.Pop r (reply.Pop (Ok tt)) (Some x) y in
        let Of : Option (Name T) → List (Piece T) → OwnChain T = λ b ps. record r { head = final_head; head_block = b; first = r.first + 1; pieces = ps } in
        let block : ◌≡◌ {A = Option (Name T)} (Some (piece_at r.pieces 1).name) (piece_at r.pieces 0).next = sym (l.linked.next 0 (second-below outer)) in
        let fewer : rest (slice_set r.pieces (place_of r first_name) emptied) ≡ rest r.pieces = ap (λ j. rest (slice_set r.pieces j emptied)) first-place ∙ rest-set r.pieces emptied in
        let same : Of (Some (piece_at r.pieces 1).name) (rest (slice_set r.pieces (place_of r first_name) emptied)) ≡ passed r final_head =
        ap (λ b. Of b (rest (slice_set r.pieces (place_of r first_name) emptied))) block ∙ ap (Of (piece_at r.pieces 0).next) fewer in
        let replied : After (passed r final_head) = (idle, (reply.Pop (Ok x), refl, sequential r (passed r final_head) call.Pop (reply.Pop (Ok x)) idle (rw items refl) (queue-passed r final_head i l some m x outer front.1) (λ none. absurd (omega arith)))) in
        ((Named-with left first_name emptied first-named first-named.2, number ∙ omega arith, subst Empty (sym got) (all-empty outer)), λ y is. subst After (sym (is ∙ same)) replied)

    -- a pop of the last item of its block
    take-last : (steps new : ℕ) → BLOCK_SLOTS - 2 < steps → taken r % BLOCK_SLOTS + 1 ≡ BLOCK_SLOTS → OwnChainEnds (suc (suc (suc (suc (suc (suc (suc steps))))))) (takes r.head first_name new) r None (EndsAnswered call.Pop r)
    take-last steps new enough outer =
        let offset = head-offset r i in
        let cell = front-cell in
        let below = second-below outer in
        let next : (piece_of r first_name).next ≡ Some (piece_at r.pieces 1).name = ap (λ j. (piece_at r.pieces j).next) first-place ∙ l.linked.next 0 below in
        run-passed steps r first_name (piece_at r.pieces 1).name new front.0 (piece_of r (piece_at r.pieces 1).name).next (EndsAnswered call.Pop r) enough (head-word r i) (omega arith)
        first-named (can-follow r i l 0 filled) next (can-follow r i l 1 below) refl
        (ap (λ (c : ℕ × Option T). c.0) cell) (ap (λ (c : ℕ × Option T). c.1) cell) (λ j low. ap (λ (c : ℕ × Option T). c.0) (read-cell outer j low)) (pass-ends outer)

    -- a pop that claims the front, whatever bit the head gets
    take-ends : (steps new : ℕ) → BLOCK_SLOTS - 2 < steps → position_of new ≡ position_of r.head + 1 → (new % 2 ≡ 1 → taken r / BLOCK_SLOTS < accepted r / BLOCK_SLOTS)
        → OwnChainEnds (suc (suc (suc (suc (suc (suc (suc steps))))))) (takes r.head first_name new) r None (EndsAnswered call.Pop r)
    take-ends steps new enough up known = go (last_or_not (taken r % BLOCK_SLOTS) BLOCK_SLOTS (omega arith))
      where
        go : (taken r % BLOCK_SLOTS + 1 ≡ BLOCK_SLOTS) ⊎ (taken r % BLOCK_SLOTS + 1 < BLOCK_SLOTS) → OwnChainEnds (suc (suc (suc (suc (suc (suc (suc steps))))))) (takes r.head first_name new) r None (EndsAnswered call.Pop r)
        go (inl outer) = take-last steps new enough outer
        go (inr inner) =
            let rests = i.head_rests in
            take-here (suc (suc (suc steps))) new inner (record { rests = omega arith; counted = omega arith; known = λ bit. let more = known bit in omega arith })

    take-answers : OwnChainEnds STEPS_ALONE (loads chain.PopHead word.Head) r None (EndsAnswered call.Pop r)
    take-answers = go (r.head % 2 == 1) (block_at (position_of r.tail) == block_at (position_of r.head)) refl refl
      where
        rests : (offset_of r.head == BLOCK_SLOTS) ≡ false
        rests = apart_nat (offset_of r.head) BLOCK_SLOTS (let h = i.head_rests in omega arith)

        differ : (position_of r.tail == position_of r.head) ≡ false
        differ = apart_nat (position_of r.tail) (position_of r.head) (let h = i.head_rests in let t = i.tail_rests in omega arith)

        go : (odd same : Bool) → (r.head % 2 == 1) ≡ odd → (block_at (position_of r.tail) == block_at (position_of r.head)) ≡ same → OwnChainEnds STEPS_ALONE (loads chain.PopHead word.Head) r None (EndsAnswered call.Pop r)
        go true same e1 e2 =
            let bit = is_equal (r.head % 2) 1 e1 in
            run-known r first_name (EndsAnswered call.Pop r) (head-word r i) rests e1 l.front (take-ends (STEPS_ALONE - 9) (r.head + TAIL_STEP) (omega arith) (omega arith) (λ e. i.known bit))
        go false true e1 e2 =
            let even = is_apart (r.head % 2) 1 e1 in
            run-tail r first_name (r.head + TAIL_STEP) (EndsAnswered call.Pop r) (head-word r i) rests e1 l.front differ (rw e2 refl)
            (take-ends (STEPS_ALONE - 10) (r.head + TAIL_STEP) (omega arith) (omega arith) (λ e. absurd (even (omega arith))))
        go false false e1 e2 =
            let even = is_apart (r.head % 2) 1 e1 in
            let other = is_apart (block_at (position_of r.tail)) (block_at (position_of r.head)) e2 in
            let h = i.head_rests in
            let t = i.tail_rests in
            run-tail r first_name (r.head + TAIL_STEP + 1) (EndsAnswered call.Pop r) (head-word r i) rests e1 l.front differ (rw e2 refl)
            (take-ends (STEPS_ALONE - 10) (r.head + TAIL_STEP + 1) (omega arith) (omega arith) (λ e. omega arith))

pub pop-answers : {T : Type 0} (r : OwnChain T) → IsIdle r → OwnChainEnds STEPS_ALONE (loads chain.PopHead word.Head) r None (EndsAnswered call.Pop r)
pop-answers {T} r i = go (equal_or_above (taken r) (accepted r) i.order) i.blocks
  where
    none-found : accepted r ≡ taken r → OwnChainEnds STEPS_ALONE (loads chain.PopHead word.Head) r None (EndsAnswered call.Pop r)
    none-found empty =
        let h = i.head_rests in
        let t = i.tail_rests in
        let known = i.known in
        let none : accepted r - taken r ≡ 0 = omega arith in
        let odd : r.head % 2 ≢ 1 = λ e. let more = known e in omega arith in
        run-empty r (EndsAnswered call.Pop r) (head-word r i) (apart_nat (offset_of r.head) BLOCK_SLOTS (omega arith)) (apart_nat (r.head % 2) 1 odd) odd (equal_nat (position_of r.tail) (position_of r.head) (omega arith))
        (i, (reply.Pop (Err (if is_shut r.tail then pop.Closed else pop.Empty)), refl, sequential r r call.Pop (reply.Pop (Err (if is_shut r.tail then pop.Closed else pop.Empty))) i (rw none refl) (rw none refl) (λ x. refl)))

    go : (accepted r ≡ taken r) ⊎ (taken r < accepted r) → IsBare r.first r.pieces r.head_block r.tail_block (accepted r) ⊎ Laid r → OwnChainEnds STEPS_ALONE (loads chain.PopHead word.Head) r None (EndsAnswered call.Pop r)
    go (inl empty) blocks = none-found empty
    go (inr some) (inl bare) = let unused = bare.unused in absurd (omega arith)
    go (inr some) (inr l) = take-answers r i l some
