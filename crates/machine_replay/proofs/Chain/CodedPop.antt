-- The shared memory at each step of a pop on a chain that reads the link or the state of a block.
use Rattle.std.proofs.Common.{ℕ, ◌+◌, ◌/◌, ◌<◌, ◌≤◌, ◌≡◌, ◌≢◌, ◌∙◌, Bool, IsSome, List, refl, sym, ap, subst, arith}
use Rattle.machine_replay.specs.Vocabulary.{Answer, BLOCK_SLOTS}
use Rattle.queue_steps.specs.{State.State, ChainWords.offset_of}
use Rattle.queue_laws.specs.Chain.{ChainAnswers.linked_of, ChainAnswers.IsState, ChainFacts.head_of, ChainFacts.IsNamed, ChainFacts.Got, ChainAt.Only, ChainAt.Either, ChainAt.IsBehind, ChainAt.following, ChainAt.peeking, ChainAt.awaiting}
use Rattle.queue_laws.specs.Chain.ChainCells.{Writer, Writing, Wrote, Reader, Reading, Done, Passing, GivenUp, Chain, FrontOk, ChainOk, Read, Head, HoldsOnly, item_at, Free, ItemOk}
use Rattle.machine_memory.specs.{Blocks.block_of, Blocks.behind, Blocks.behind_in, Blocks.state_of, SharedMemory.MemoryState}
use Rattle.machine_replay.proofs.Chain.{Blocks.state_is, Gives.block_at, Gives.has_place, Coded.CodesShared, Coded.Coded, Coded.coded_by}
use Rattle.queue_laws.proofs.Chain.{ChainAnswers.head_offset, ChainReads.not_given_up, ChainStates.one_block, ChainStates.state_answers}

-- an item that is being read is not read
unread_got : {A : Type 0} (c : Chain A) (n who : ℕ) → c.readers n ≡ Reading who → c.readers n ≢ Done
unread_got c n who is e = let z : Reading who ≡ Done = sym is ∙ e in cc

-- what the link of a block answers
link_answers : {A : Type 0} {c : Chain A} (s : MemoryState A) (b name : ℕ) → ChainOk c → IsNamed c b name → c.walks b ≢ GivenUp → CodesShared s c
    → IsSome (block_of s.blocks name) × ((i : ℕ) → IsNamed c i name → Answer.Linked (behind s.blocks name) ≡ Answer.Linked (linked_of (c.links i) (c.names (i + 1))))
link_answers {c = c} s b name right named on codes =
    let x = block_at b name right named on codes in (
      subst (λ y. IsSome y) (sym x.1) refl,
      λ i other. ap (λ y. Answer.Linked (behind_in y)) x.1 ∙ ap (λ y. Answer.Linked y) (x.2.linked ∙ ap (λ j. linked_of (c.links j) (c.names (j + 1))) (sym (one_block c b i name right named other))),
    )

module _ {A : Type 0} (c : Chain A) (who : ℕ) (ms : List (State A)) (ok : Bool) (s : MemoryState A) where
  -- V5: the link to the next block is read, which may be unset yet
  pub coded_following : (x : A) (n name : ℕ) (more : Bool) (holds : HoldsOnly c who (Either (Read n) Head)) (got : Got c who n x name) (pass : (c.passer ≡ Passing who) × (c.head ≡ n + 1))
      → ChainOk c → CodesShared s c → Coded c who ms ok s (following x n name more holds got pass)
  coded_following x n name more holds got pass right codes =
      let links = link_answers s (n / BLOCK_SLOTS) name right got.named (not_given_up c n right (unread_got c n who got.mine)) codes in
      coded_by (following x n name more holds got pass) tt links.0 links.1 refl codes

-- the items behind the head are not read
unread_ahead : {A : Type 0} (c : Chain A) (n : ℕ) → ChainOk c → c.head ≤ n → c.readers n ≢ Done
unread_ahead {A} c n right low = go (c.writers n) (c.readers n) (right.item n)
  where
    go : (w : Writer A) (r : Reader) → ItemOk c.head c.tail c.items n w r → r ≢ Done
    go Free Done h e = absurd h
    go (Writing p v) Done h e = absurd h
    go (Wrote v) Done h e = absurd (omega arith)
    go w r h e = cc

module _ {A : Type 0} (c : Chain A) (who : ℕ) (ms : List (State A)) (ok : Bool) (s : MemoryState A) where
  -- V6: the link behind the next block is read
  pub coded_peeking : (x : A) (n name after : ℕ) (more : Bool) (holds : HoldsOnly c who (Either (Read n) Head)) (got : Got c who n x name) (pass : (c.passer ≡ Passing who) × (c.head ≡ n + 1)) (behind_it : IsBehind c n after)
      → ChainOk c → CodesShared s c → Coded c who ms ok s (peeking x n name after more holds got pass behind_it)
  coded_peeking x n name after more holds got pass behind_it right codes =
      let front : FrontOk c.head c.front (Passing who) = subst (λ p. FrontOk c.head c.front p) pass.0 right.fronted in
      let at_n = pass.1 in
      let next_block : c.head / BLOCK_SLOTS ≡ n / BLOCK_SLOTS + 1 = omega arith in
      let on = subst (λ b. c.walks b ≢ GivenUp) next_block (not_given_up c c.head right (unread_ahead c c.head right (omega arith))) in
      let links = link_answers s (n / BLOCK_SLOTS + 1) after right behind_it.1 on codes in
      coded_by (peeking x n name after more holds got pass behind_it) tt links.0 links.1 refl codes

  -- V9: the slot's state is read, until its item is written
  pub coded_awaiting : (x : A) (n name : ℕ) (more : Bool) (holds : HoldsOnly c who (Only (Read n))) (got : Got c who n x name)
      → ChainOk c → CodesShared s c → Coded c who ms ok s (awaiting x n name more holds got)
  coded_awaiting x n name more holds got right codes =
      let unread = unread_got c n who got.mine in
      let block = block_at (n / BLOCK_SLOTS) name right got.named (not_given_up c n right unread) codes in
      let i = offset_of (head_of n more) in
      let slot = head_offset n more in
      let low : i < BLOCK_SLOTS = omega arith in
      let at : item_at (n / BLOCK_SLOTS) i ≡ n = omega arith in
      let state : IsState c (n / BLOCK_SLOTS) i (state_of s.blocks name i) = subst (λ m. IsState c (n / BLOCK_SLOTS) i m) (sym (state_is s.blocks name i block.0 block.1)) (block.2.state i low (λ last e. unread (ap c.readers (sym at) ∙ e))) in
      coded_by (awaiting x n name more holds got) tt (has_place s.blocks (n / BLOCK_SLOTS) name i block.0 block.1 block.2 low) (state_answers c (n / BLOCK_SLOTS) name i (state_of s.blocks name i) right got.named state) refl codes
