-- The shared memory at each step of a push on a chain that changes a block or gives a name another use.
use Rattle.std.proofs.Common.{ℕ, ◌+◌, ◌/◌, ◌%◌, ◌<◌, ◌≡◌, ◌≢◌, ◌∙◌, inr, zero, suc, Bool, true, false, if◌then◌else◌, Option, Some, None, IsSome, List, length, refl, sym, ap, subst, arith, get_or, bit_or}
use Rattle.std.proofs.lemmas.List.{length-set}
use Rattle.machine_replay.specs.Vocabulary.{Answer, PushKind, BLOCK_SLOTS, WRITE, Link, Op}
use Rattle.queue_steps.specs.{State.State, ChainWords.offset_of}
use Rattle.queue_laws.specs.{Common.Puts.put, Chain.ChainAnswers.linked_of, Chain.ChainAnswers.is_wrote, Chain.ChainAnswers.is_done, Chain.ChainAnswers.IsState, Chain.ChainAfter.if_installed, Chain.ChainTransitions.chained, Chain.ChainTransitions.written}
use Rattle.queue_laws.specs.Chain.{ChainFacts.open_tail_of, ChainFacts.IsNamed, ChainFacts.HasSpare, ChainFacts.SawTail, ChainFacts.Claimed, ChainAt.Only, ChainAt.Either, ChainAt.installing, ChainAt.laying, ChainAt.chaining, ChainAt.writing}
use Rattle.queue_laws.specs.Chain.ChainCells.{Reader, Done, Wrote, Laying, Linked, Linking, Spare, Chain, ChainOk, Write, Tail, Next as Behind, HoldsOnly, Nothing, item_at}
use Rattle.queue_laws.proofs.{Common.Puts.put_same, Chain.ChainReads.not_given_up, Chain.ChainStates.unread_item, Chain.ChainStates.state_answers, Chain.ChainStates.state_written, Chain.ChainSlots.lies, Chain.ChainSlots.step_block, Chain.ChainSlots.install_fresh, Chain.ChainSlots.lay_fresh}
use Rattle.queue_laws.proofs.Chain.ChainEnds.{Ends, ends_of, ends_made, step_ends}
use Rattle.machine_memory.specs.{declared.blocks.BlockPlace.BlockPlace, Blocks.blank, Blocks.places_in, Blocks.state_of, Blocks.put_item, SharedMemory.MemoryState}
use Rattle.machine_replay.proofs.Chain.{Codes.block_same, Codes.block_set, Names.Codes, Blocks.placed, Blocks.place_in, Blocks.item_put, Blocks.next_put, Blocks.state_left, Blocks.both_put, Gives.block_at, Gives.has_place, Coded.CodesShared, Coded.Coded, Coded.coded_by}
use Rattle.machine_replay.proofs.Chain.{CodesPush.codes_grown, CodesAt.codes_altered}

pub not_done : (r : Reader) → r ≢ Done → is_done r ≡ false
not_done Done ne = absurd (ne refl)
not_done r ne = refl

module _ {A : Type 0} (c : Chain A) (who : ℕ) (ms : List (State A)) (ok : Bool) (s : MemoryState A) where
  -- U4: the first block is installed
  pub coded_installing : (d : PushKind) (v : A) (f : ℕ) (none : HoldsOnly c who Nothing) (saw : SawTail c 0 ms) (fresh : c.uses f ≡ Spare who)
      → ChainOk c → CodesShared s c → Coded c who ms ok s (installing d v f none saw fresh)
  coded_installing d v f none saw fresh right codes =
      coded_by (installing d v f none saw fresh) tt tt (ap (λ e. Answer.Linked e.last) codes.ends) refl
      (go c.blocks refl (ap (ends_made (Op.Install f)) codes.ends ∙ sym (step_ends {ms = ms} (installing d v f none saw fresh) (Answer.Linked s.tail_block) right)))
    where
      go : (b : ℕ) → c.blocks ≡ b → {e : Ends} → e ≡ ends_of (if_installed c who f b) → Codes (if_installed c who f b) e s.blocks
      go zero empty ends = codes_grown who f c.blocks fresh refl refl refl (install_fresh c who f right) (λ i lt. absurd (omega (arith, empty, lt))) codes ends
      go (suc b) some ends = record { ends = ends; unused = codes.unused; name = codes.name }

  -- U6: the spare becomes the pushers' block
  pub coded_laying : (d : PushKind) (v : A) (n name f : ℕ) (holds : HoldsOnly c who (Either (Write n) Tail)) (mine : Claimed c who n v name) (lays : (c.mover ≡ Laying who) × (c.tail ≡ n + 1)) (fresh : c.uses f ≡ Spare who)
      → ChainOk c → CodesShared s c → Coded c who ms ok s (laying d v n name f holds mine lays fresh)
  coded_laying d v n name f holds mine lays fresh right codes =
      coded_by (laying d v n name f holds mine lays fresh) tt tt refl refl
      (codes_grown who f c.blocks fresh refl refl refl (lay_fresh c who f right lays.0) (λ i lt. step_block {ms = ms} (laying d v n name f holds mine lays fresh) Answer.Done right i lt (λ e. let z : None ≡ Some i = e in cc)) codes
      (ap (ends_made (Op.StoreLink Link.TailBlock f)) codes.ends ∙ sym (step_ends {ms = ms} (laying d v n name f holds mine lays fresh) Answer.Done right)))

  -- U8: the block is linked to the next one
  pub coded_chaining : (d : PushKind) (v : A) (n name f : ℕ) (holds : HoldsOnly c who (Either (Write n) (Behind (n / BLOCK_SLOTS)))) (mine : Claimed c who n v name) (links : c.links (n / BLOCK_SLOTS) ≡ Linking who) (named : IsNamed c (n / BLOCK_SLOTS + 1) f)
      → ChainOk c → CodesShared s c → Coded c who ms ok s (chaining d v n name f holds mine links named)
  coded_chaining d v n name f holds mine links named right codes =
      let b = n / BLOCK_SLOTS in
      let on = not_given_up c n right (unread_item c n who v right mine.mine) in
      let x = block_at b name right mine.named on codes in
      let leads : Some f ≡ linked_of (put c.links b Linked b) (c.names (b + 1)) = ap (λ m. Some m) named.1 ∙ sym (ap (λ l. linked_of l (c.names (b + 1))) (put_same c.links b Linked)) in
      coded_by (chaining d v n name f holds mine links named) tt (subst (λ y. IsSome y) (sym x.1) refl) refl refl
      (codes_altered {ms = ms} (chaining d v n name f holds mine links named) Answer.Done right refl codes b name (Some (record x.0 { next = Some f })) refl mine.named (next_put s.blocks name (Some f) x.0 x.1)
      (inr (on, block_same c (chained c b) b x.0.places x.0.next (Some f) x.2 (λ j lt. record { wrote = refl; done = refl; waits = refl }) leads)))

  -- U9: the item is written into its slot
  pub coded_writing : (d : PushKind) (v : A) (n name : ℕ) (spare : Option ℕ) (holds : HoldsOnly c who (Only (Write n))) (mine : Claimed c who n v name) (spare_is : HasSpare c who spare)
      → ChainOk c → CodesShared s c → Coded c who ms ok s (writing d v n name spare holds mine spare_is)
  coded_writing d v n name spare holds mine spare_is right codes =
      let b = n / BLOCK_SLOTS in
      let on = not_given_up c n right unread in
      let x = block_at b name right mine.named on codes in
      let wide : i < length x.0.places = subst (λ m. i < m) (sym x.2.wide) low in
      let word = state_left s.blocks name i (Some v) x.0 x.1 wide in
      let put_it = item_put s.blocks name i (Some v) x.0 x.1 in
      let st = state_of (put_item s.blocks name i (Some v)) name i in
      let p : BlockPlace A = record { state = bit_or st WRITE; item = Some v } in
      let state : IsState c b i st = subst (λ m. IsState c b i m) (sym word) (x.2.state i low (λ last e. unread (ap c.readers (sym at) ∙ e))) in
      coded_by (writing d v n name spare holds mine spare_is) (has_place s.blocks b name i x.0 x.1 x.2 low)
      (subst (λ y. i < length (places_in y)) (sym put_it.here) (subst (λ m. i < m) (sym (length-set x.0.places i (record (place_in x.0 i) { item = Some v }))) wide))
      (state_answers c b name i st right mine.named state)
      (ap (λ y. (get_or (places_in y) i blank).item) x.1 ∙ (x.2.slot i low ∙ empty))
      (codes_altered {ms = ms} (writing d v n name spare holds mine spare_is) (Answer.Found st) right refl codes b name (Some (placed x.0 i p)) refl mine.named
      (both_put s.blocks name i (bit_or st WRITE) (Some v) x.0 x.1 wide)
      (inr (
        on,
        block_set {ms = ms} (writing d v n name spare holds mine spare_is) (Answer.Found st) right b x.0.places x.0.next x.2 refl i p low (ap (λ m. Some m) (sym at))
            (λ unread_now. state_written c (written c n v) b i st (ap (λ w. is_wrote w) (ap (put c.writers n (Wrote v)) at ∙ put_same c.writers n (Wrote v))) refl refl state) lies_now,
      )))
    where
      i : ℕ
      i = offset_of (open_tail_of n)

      slot : offset_of (open_tail_of n) ≡ n % BLOCK_SLOTS
      slot = omega arith

      low : offset_of (open_tail_of n) < BLOCK_SLOTS
      low = let e = slot in omega arith

      at : item_at (n / BLOCK_SLOTS) (offset_of (open_tail_of n)) ≡ n
      at = let e = slot in omega arith

      unread : c.readers n ≢ Done
      unread = unread_item c n who v right mine.mine

      empty : lies (c.writers (item_at (n / BLOCK_SLOTS) (offset_of (open_tail_of n)))) (c.readers (item_at (n / BLOCK_SLOTS) (offset_of (open_tail_of n)))) ≡ None
      empty = ap (λ m. lies (c.writers m) (c.readers m)) at ∙ (ap (λ w. lies w (c.readers n)) mine.mine ∙ none_lies (is_done (c.readers n)))
        where
          none_lies : (b : Bool) → (let nothing : Option A = None in (if b then nothing else nothing) ≡ nothing)
          none_lies true = refl
          none_lies false = refl

      lies_now : Some v ≡ lies (put c.writers n (Wrote v) (item_at (n / BLOCK_SLOTS) (offset_of (open_tail_of n)))) (c.readers (item_at (n / BLOCK_SLOTS) (offset_of (open_tail_of n))))
      lies_now = sym (rw (at, put_same c.writers n (Wrote v), not_done (c.readers n) unread) refl)
