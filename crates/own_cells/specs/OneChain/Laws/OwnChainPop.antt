-- How a pop runs on a chain of blocks: its steps one after another, its reply, and what it leaves.
use Rattle.std.specs.Prelude.{◌==◌, slice_set, bit_or, nat_lt, is_some, if◌then◌else◌}
use Rattle.std.proofs.Common.{◌≡◌, ◌≢◌, ℕ, zero, suc, ◌+◌, ◌-◌, ◌*◌, ◌%◌, ◌<◌, Bool, true, false, Option, Some, None, Ok, Err, refl, arith, ap, ◌∙◌}
use Rattle.std.proofs.lemmas.List.{get_or-set_same}
use Rattle.queue_steps.specs.declared.{sizes.TheConstants.BLOCK_SLOTS, sizes.TheConstants.STEPS_ALONE, steps.types.Answer.Answer as answer, steps.types.Link.Link as link, steps.types.Next.Next, steps.types.Op.Op as op, steps.types.Word.Word as word, steps.types.Touch.Touch as touch}
use Rattle.queue_steps.specs.declared.{model.Reply.Reply as reply, errors.PopError.PopError as pop, steps.ring.TheConstants.TAIL_STEP, steps.chain.TheConstants.WRITE, steps.chain.TheConstants.READ, steps.chain.ChainLocal.ChainLocal as chain}
use Rattle.queue_steps.specs.{Words.IsWord, Words.position_of, Words.is_shut, ChainWords.block_at, ChainWords.offset_of}
use Rattle.queue_steps.specs.ChainNext.{at, loads, ends, is_last_slot, takes, follows, awaits, walks, walks_on}
use Rattle.own_cells.specs.{declared.chain.own_chain.Name.Name, OneRing.Laws.Numbers.same_nat, OneRing.Laws.Numbers.equal_nat, OneRing.Laws.Numbers.apart_nat, OneRing.Laws.Numbers.less}
use Rattle.own_cells.specs.OneChain.Laws.OwnChainRuns.{Ending, OwnChainEnds, place_below, Named-with, own_chain_step, bare_step, slot_step, set_cell}
use Rattle.own_cells.specs.OneChain.OwnChainCells.{Piece, OwnChain, state_in, item_in, place_of, piece_of, with_piece, Named, CanFollow}

-- a pop that finds neither an item nor a head whose block is known not to be the last
pub run-empty : {T : Type 0} (r : OwnChain T) (P : Ending T) → IsWord r.head → (offset_of r.head == BLOCK_SLOTS) ≡ false → (r.head % 2 == 1) ≡ false → r.head % 2 ≢ 1 → (position_of r.tail == position_of r.head) ≡ true
    → P (reply.Pop (Err (if is_shut r.tail then pop.Closed else pop.Empty))) None None r → OwnChainEnds STEPS_ALONE (loads chain.PopHead word.Head) r None P
run-empty r P small rests even odd met end =
    bare_step (STEPS_ALONE - 1) chain.PopHead (op.Load word.Head) r r None (answer.Found r.head) (at (chain.PopBlock r.head) touch.Nothing (op.LoadLink link.HeadBlock)) P tt (λ x y e. e) refl tt (rw rests refl)
    (bare_step (STEPS_ALONE - 2) (chain.PopBlock r.head) (op.LoadLink link.HeadBlock) r r None (answer.Linked r.head_block) (loads (chain.PopTail r.head r.head_block) word.Tail) P tt (λ x y e. e) refl (small, λ e. absurd (odd e)) (rw even refl)
    (bare_step (STEPS_ALONE - 3) (chain.PopTail r.head r.head_block) (op.Load word.Tail) r r None (answer.Found r.tail) (ends (reply.Pop (Err (if is_shut r.tail then pop.Closed else pop.Empty)))) P tt (λ x y e. e) refl small (rw met refl) end))

-- a pop that finds an item at a head whose block is known not to be the last
pub run-known : {T : Type 0} (r : OwnChain T) (b : Name T) (P : Ending T) → IsWord r.head → (offset_of r.head == BLOCK_SLOTS) ≡ false → (r.head % 2 == 1) ≡ true → r.head_block ≡ Some b
    → OwnChainEnds (STEPS_ALONE - 2) (takes r.head b (r.head + TAIL_STEP)) r None P → OwnChainEnds STEPS_ALONE (loads chain.PopHead word.Head) r None P
run-known {T} r b P small rests odd front more =
    bare_step (STEPS_ALONE - 1) chain.PopHead (op.Load word.Head) r r None (answer.Found r.head) (at (chain.PopBlock r.head) touch.Nothing (op.LoadLink link.HeadBlock)) P tt (λ x y e. e) refl tt (rw rests refl)
    (bare_step (STEPS_ALONE - 2) (chain.PopBlock r.head) (op.LoadLink link.HeadBlock) r r None (answer.Linked (Some b)) (takes r.head b (r.head + TAIL_STEP)) P tt (λ x y e. e) (rw front refl) (small, λ e. refl) (rw odd refl) more)

-- a pop that finds an item, and by the tail whether there is another block
pub run-tail : {T : Type 0} (r : OwnChain T) (b : Name T) (new : ℕ) (P : Ending T) → IsWord r.head → (offset_of r.head == BLOCK_SLOTS) ≡ false → (r.head % 2 == 1) ≡ false → r.head_block ≡ Some b
    → (position_of r.tail == position_of r.head) ≡ false → (if block_at (position_of r.tail) == block_at (position_of r.head) then r.head + TAIL_STEP else r.head + TAIL_STEP + 1) ≡ new
    → OwnChainEnds (STEPS_ALONE - 3) (takes r.head b new) r None P → OwnChainEnds STEPS_ALONE (loads chain.PopHead word.Head) r None P
run-tail {T} r b new P small rests even front apart is more =
    bare_step (STEPS_ALONE - 1) chain.PopHead (op.Load word.Head) r r None (answer.Found r.head) (at (chain.PopBlock r.head) touch.Nothing (op.LoadLink link.HeadBlock)) P tt (λ x y e. e) refl tt (rw rests refl)
    (bare_step (STEPS_ALONE - 2) (chain.PopBlock r.head) (op.LoadLink link.HeadBlock) r r None (answer.Linked (Some b)) (loads (chain.PopTail r.head (Some b)) word.Tail) P tt (λ x y e. e) (rw front refl) (small, λ e. refl) (rw even refl)
    (bare_step (STEPS_ALONE - 3) (chain.PopTail r.head (Some b)) (op.Load word.Tail) r r None (answer.Found r.tail) (takes r.head b new) P tt (λ x y e. e) refl small (rw apart (moves (block_at (position_of r.tail) == block_at (position_of r.head)) is)) more))
  where
    moves : (same : Bool) → (if same then r.head + TAIL_STEP else r.head + TAIL_STEP + 1) ≡ new → ◌≡◌ {A = Next (Name T)} (if same then takes r.head b (r.head + TAIL_STEP) else takes r.head b (r.head + TAIL_STEP + 1)) (takes r.head b new)
    moves true e = ap (takes r.head b) e
    moves false e = ap (takes r.head b) e

-- a pop of an item that is not the last of its block
pub run-taken : {T : Type 0} (steps : ℕ) (r : OwnChain T) (b : Name T) (new : ℕ) (x : T) (P : Ending T) → offset_of r.head + 1 < BLOCK_SLOTS → Named r b
    → state_in (piece_of r b) (offset_of r.head) ≡ WRITE → item_in (piece_of r b) (offset_of r.head) ≡ Some x
    → P (reply.Pop (Ok tt)) None (Some x) (record r { head = new; pieces = set_cell r.pieces (place_of r b) (offset_of r.head) (bit_or WRITE READ) None })
    → OwnChainEnds (suc (suc (suc (suc steps)))) (takes r.head b new) r None P
run-taken {T} steps r b new x P inner named written full end =
    let slot : ℕ = offset_of r.head in
    let ahead : OwnChain T = record r { head = new } in
    let same : (r.head == r.head) ≡ true = same_nat r.head in
    let other : is_last_slot r.head ≡ false = apart_nat (slot + 1) BLOCK_SLOTS (omega arith) in
    bare_step (suc (suc (suc steps))) (chain.Taking r.head b) (op.Exchange word.Head r.head new) r ahead None (answer.Found r.head) (awaits r.head b) P tt (λ x y e. e) (rw same refl) tt (rw (same, other) refl)
    (bare_step (suc (suc steps)) (chain.Awaiting r.head b) (op.Load (word.State b slot)) ahead ahead None (answer.Found WRITE) (at (chain.Reading b slot) (touch.Take slot) (op.Or (word.State b slot) READ)) P
    (named, omega arith) (λ x y e. e) (rw written refl) tt (rw other refl)
    (slot_step (suc steps) (chain.Reading b slot) (touch.Take slot) b slot READ ahead None (ends (reply.Pop (Ok tt))) P named (omega arith) (named, omega arith, (x, full)) refl (omega arith) (rw written refl) (rw (written, full) end)))

-- the walk over a block of which all slots before the last are read, after this one
walks_on-ends : {T : Type 0} (r : OwnChain T) (b : Name T) (carried : Option T) (P : Ending T) → Named r b → ((j : ℕ) → j + 1 < BLOCK_SLOTS → state_in (piece_of r b) j ≡ bit_or WRITE READ)
    → P (reply.Pop (Ok tt)) (Some b) carried r → (k slot n : ℕ) → slot + k + 2 ≡ BLOCK_SLOTS → k < n → OwnChainEnds n (walks_on b slot) r carried P
walks_on-ends {T} r b carried P named read end zero slot zero sum low = absurd (omega arith)
walks_on-ends {T} r b carried P named read end zero slot (suc n) sum low =
    let last : nat_lt (slot + 2) BLOCK_SLOTS ≡ false = grind arith in
    rw last end
walks_on-ends {T} r b carried P named read end (suc k) slot zero sum low = absurd (omega arith)
walks_on-ends {T} r b carried P named read end (suc k) slot (suc n) sum low =
    let more : nat_lt (slot + 2) BLOCK_SLOTS ≡ true = less (slot + 2) BLOCK_SLOTS (omega arith) in
    let state = read (slot + 1) (omega arith) in
    let rest = walks_on-ends r b carried P named read end k (slot + 1) n (omega arith) (omega arith) in
    rw more
    (bare_step n (chain.Walking b (slot + 1)) (op.Load (word.State b (slot + 1))) r r carried (answer.Found (bit_or WRITE READ)) (walks_on b (slot + 1)) P (named, omega arith) (λ x y e. e) (rw state refl) (omega arith) refl rest)

-- a pop of the last item of its block passes to the next one, and gives the block up
pub run-passed : {T : Type 0} (steps : ℕ) (r : OwnChain T) (b after : Name T) (new : ℕ) (x : T) (further : Option (Name T)) (P : Ending T) → BLOCK_SLOTS - 2 < steps → IsWord r.head → offset_of r.head + 1 ≡ BLOCK_SLOTS
    → Named r b → CanFollow r b → (piece_of r b).next ≡ Some after → CanFollow r after → (piece_of r after).next ≡ further
    → state_in (piece_of r b) (offset_of r.head) ≡ WRITE → item_in (piece_of r b) (offset_of r.head) ≡ Some x → ((j : ℕ) → j + 1 < BLOCK_SLOTS → state_in (piece_of r b) j ≡ bit_or WRITE READ)
    → P (reply.Pop (Ok tt)) (Some b) (Some x) (record r {
      head = (position_of r.head + 2) * 2 + (if is_some further then 1 else 0);
      head_block = Some after;
      pieces = slice_set r.pieces (place_of r b) (record (piece_of r b) { slots = slice_set (piece_of r b).slots (offset_of r.head) None });
    })
    → OwnChainEnds (suc (suc (suc (suc (suc (suc (suc steps))))))) (takes r.head b new) r None P
run-passed {T} steps r b after new x further P enough small outer named follow next follow_after next_after written full read end =
    let slot : ℕ = offset_of r.head in
    let final : ℕ = (position_of r.head + 2) * 2 + (if is_some further then 1 else 0) in
    let p : Piece T = record (piece_of r b) { slots = slice_set (piece_of r b).slots slot None } in
    let r1 : OwnChain T = record r { head = new } in
    let r2 : OwnChain T = record r { head = new; head_block = Some after } in
    let r3 : OwnChain T = record r { head = final; head_block = Some after } in
    let r4 : OwnChain T = with_piece r3 b p in
    let named4 : Named r4 b = Named-with r3 b p named named.2 in
    let got : piece_of r4 b ≡ p = get_or-set_same r.pieces (place_of r b) p _ (place_below r b named) in
    let read4 : (j : ℕ) → j + 1 < BLOCK_SLOTS → state_in (piece_of r4 b) j ≡ bit_or WRITE READ = λ j low. ap (λ q. state_in q j) got ∙ read j low in
    let same : (r.head == r.head) ≡ true = same_nat r.head in
    let last : is_last_slot r.head ≡ true = equal_nat (slot + 1) BLOCK_SLOTS outer in
    bare_step (suc (suc (suc (suc (suc (suc steps)))))) (chain.Taking r.head b) (op.Exchange word.Head r.head new) r r1 None (answer.Found r.head) (follows r.head b) P tt (λ x y e. e) (rw same refl) tt (rw (same, last) refl)
    (bare_step (suc (suc (suc (suc (suc steps))))) (chain.Following r.head b) (op.LoadLink (link.Next b)) r1 r1 None (answer.Linked (Some after)) (at (chain.Peeking r.head b after) touch.Nothing (op.LoadLink (link.Next after))) P
    follow (λ x y e. e) (rw next refl) tt refl
    (bare_step (suc (suc (suc (suc steps)))) (chain.Peeking r.head b after) (op.LoadLink (link.Next after)) r1 r1 None (answer.Linked further) (at (chain.Passing r.head b (is_some further)) touch.Nothing (op.StoreLink link.HeadBlock after)) P
    follow_after (λ x y e. e) (rw next_after refl) tt refl
    (bare_step (suc (suc (suc steps))) (chain.Passing r.head b (is_some further)) (op.StoreLink link.HeadBlock after) r1 r2 None answer.Done (at (chain.Entering r.head b) touch.Nothing (op.Store word.Head final)) P
    tt (λ x y e. e) refl small refl
    (bare_step (suc (suc steps)) (chain.Entering r.head b) (op.Store word.Head final) r2 r3 None answer.Done (awaits r.head b) P tt (λ x y e. e) refl tt refl
    (bare_step (suc steps) (chain.Awaiting r.head b) (op.Load (word.State b slot)) r3 r3 None (answer.Found WRITE) (walks b 0 (touch.Take slot)) P
    (named, omega arith) (λ x y e. e) (rw written refl) tt (rw last refl)
    (own_chain_step steps (chain.Walking b 0) (touch.Take slot) (op.Load (word.State b 0)) r3 r4 r4 None (Some x) (answer.Found (bit_or WRITE READ)) (walks_on b 0) P
    (named, omega arith, (x, full)) (rw full refl) (named4, omega arith) (λ x y e. e) (rw (read4 0 (omega arith)) refl) (omega arith) refl
    (walks_on-ends r4 b (Some x) P named4 read4 end (BLOCK_SLOTS - 2) 0 steps refl enough)))))))
