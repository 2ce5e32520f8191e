-- The write of an item: its slot goes back full.
use Rattle.shared_chain.proofs.Frames.{States.GaveBack, States.gave_back, States.SlotAt, States.slot_at, States.or_step, Leaves.none_holds, Leaves.acts_first, Leaves.idles_free, Homes.one_item, Homes.turns_word, Homes.codes_turned, Homes.word_set}
use Rattle.queue_laws.specs.{Chain.ChainAt.has_appended, Common.Vocabulary.Answer, Chain.ChainAt.At}
use Rattle.std.proofs.Common.{ℕ, ◌+◌, ◌/◌, ◌≡◌, ◌≢◌, ◌∙◌, Bool, true, false, Option, Some, List, refl, sym, ap, subst, arith, bit_or}
use mathlib.Core.Option.{some}
use denote.RawPtr.{Ptr}
use Rattle.queue_laws.specs.{Common.Puts.put, Chain.ChainTransitions.written, Chain.ChainFacts.open_tail_of, Chain.ChainFacts.Claimed, Chain.ChainFacts.HasSpare, Chain.ChainAt.Only, Chain.ChainAt.writing, Chain.ChainAnswers.IsState, Chain.ChainAnswers.is_wrote}
use Rattle.queue_laws.proofs.{Common.Puts.put_same, Chain.ChainHolds.after_write, Chain.ChainStates.unread_item, Chain.ChainStates.state_written}
use Rattle.queue_laws.specs.Common.Vocabulary.{Word, Op, Touch, Local, Next, PushKind, BLOCK_SLOTS, WRITE}
use Rattle.queue_steps.specs.{State.State, RingNext.pushed_reply, ChainWords.offset_of, declared.steps.chain.ChainLocal.ChainLocal as chain}
use Rattle.queue_laws.specs.Chain.ChainCells.{Writing, Wrote, Reader, Unread, Reading, Done, ChainOk, Write, HoldsOnly, item_at}
use Rattle.mem_blocks.specs.Web.{Block, Sitter, gives, word_of, with_word, with_home, full, sitter_acted}
use Rattle.shared_parties.specs.{declared.known.CallState.CallState, Calling.touched_list}
use Rattle.shared_chain.specs.{ChainCalls.OutChain, Rule.home_of, Rule.plain_state, Rule.Codes, Steps.BlockStep, Steps.HoldsBy}

-- the reader of an item has its slot only once it is written
abbrev pub OutWrote : {A : Type 0} → OutChain A → Type 0
OutWrote {A} g = (j n : ℕ) → g.chain.readers n ≡ Reading j → g.out n ≡ true → (v : A) × (g.chain.writers n ≡ Wrote v)

-- once it is written its slot is full, and its state says so
home_written : {A : Type 0} (v : A) (r : Reader) (b : Bool) → r ≢ Done → ((j : ℕ) → r ≡ Reading j → b ≡ false) → home_of (Wrote v) r b ≡ full v
home_written v Unread b ne out = refl
home_written v (Reading p) b ne out = rw (out p refl) refl
home_written v Done b ne out = absurd (ne refl)

plain_written : {A : Type 0} (v : A) (r : Reader) → r ≢ Done → plain_state (Wrote v) r ≡ WRITE
plain_written v Done ne = absurd (ne refl)
plain_written v r ne = refl

-- U9: the item is written
module _ {A : Type 0} (te he : Ptr) (g : OutChain A) (who : ℕ) (bs : List (Block A)) (m : Sitter A (CallState A)) (ms : List (State A)) where
  pub step_writing : (d : PushKind) (x : A) (n name : ℕ) (spare : Option ℕ) (holds : HoldsOnly g.chain who (Only (Write n))) (mine : Claimed g.chain who n x name) (spare_is : HasSpare g.chain who spare)
      → ChainOk g.chain → Codes te he g bs → (xs : List (ℕ × Option A))
      → HoldsBy (Local.Chain (chain.Writing d spare)) (Op.Or (Word.State name (offset_of (open_tail_of n))) WRITE) (touched_list (Touch.Put (offset_of (open_tail_of n))) (Some x) xs) m → OutWrote g
      → BlockStep te he g who bs m {ms = ms} (writing d x n name spare holds mine spare_is)
  step_writing d x n name spare holds mine spare_is ok codes xs has ready =
      or_step te he g who bs m b name i WRITE here ok codes mine.named is.on is.state
      (acts_first (gives (b + 2) i (Some x)) gave.may
      (idles_free coded (after_write g.chain who n x holds) (none_holds (Next.Reply (pushed_reply d) spare) spare (sitter_acted cs m (gives (b + 2) i (Some x))) refl (refl, has.1))))
    where
      b : ℕ
      b = n / BLOCK_SLOTS

      i : ℕ
      i = offset_of (open_tail_of n)

      here : At g.chain who ms (has_appended (chain.Writing d spare) (Touch.Put (offset_of (open_tail_of n))) (Op.Or (Word.State name (offset_of (open_tail_of n))) WRITE) d x)
      here = writing d x n name spare holds mine spare_is

      is : SlotAt te he g bs n i name
      is = slot_at te he ok codes mine.named (omega arith) (unread_item g.chain n who x ok mine.mine)

      w : ℕ
      w = word_of bs (b + 2) i

      r : OutChain A
      r = record { chain = written g.chain n x; out = g.out }

      cs : List (Block A)
      cs = with_word bs (b + 2) i (bit_or (word_of bs (b + 2) i) WRITE)

      ds : List (Block A)
      ds = with_home cs (b + 2) i (full x)

      mine_here : g.chain.writers (item_at b i) ≡ Writing who x
      mine_here = ap g.chain.writers is.at ∙ mine.mine

      not_out : (j : ℕ) → g.chain.readers (item_at b i) ≡ Reading j → g.out (item_at b i) ≡ false
      not_out j reads = go (g.out (item_at b i)) refl
        where
          go : (t : Bool) → g.out (item_at b i) ≡ t → t ≡ false
          go false e = refl
          go true e = absurd (let h = ready j (item_at b i) reads e in let z : Writing who x ≡ Wrote h.0 = sym mine_here ∙ h.1 in cc)

      wrote : put g.chain.writers n (Wrote x) (item_at b i) ≡ Wrote x
      wrote = ap (put g.chain.writers n (Wrote x)) is.at ∙ put_same g.chain.writers n (Wrote x)

      gave : GaveBack bs cs m (b + 2) i (Some x)
      gave = gave_back is (turns_word (b + 2) i (bit_or w WRITE) bs is.long) has.0

      set : word_of ds (b + 2) i ≡ bit_or w WRITE
      set = gave.word ∙ word_set bs (b + 2) i (bit_or w WRITE) is.long (omega (arith, is.block_is.words, is.low))

      coded : Codes te he (record { chain = written g.chain n x; out = g.out }) (with_home cs (b + 2) i (full x))
      coded = codes_turned te he g here (Answer.Found w) (written g.chain n x) refl g.out ok bs ds b i is.low (one_item is.at refl refl (refl, refl) (refl, refl, refl) (λ j ne. refl)) codes is.named.0
          gave.turns is.on is.on (λ e. e)
          (record {
            state = λ last. subst (λ z. IsState r.chain b i z) (sym set) (state_written g.chain r.chain b i w (ap (λ z. is_wrote z) wrote) refl refl is.state);
            plain = λ before. set ∙ ap (λ z. bit_or z WRITE) (is.block_is.plain before i is.low ∙ ap (λ z. plain_state z (g.chain.readers (item_at b i))) mine_here)
                ∙ sym (ap (λ z. plain_state z (g.chain.readers (item_at b i))) wrote ∙ plain_written x (g.chain.readers (item_at b i)) is.unread);
            slot = gave.home
                ∙ ap (λ h. some h) (sym (ap (λ z. home_of z (g.chain.readers (item_at b i)) (g.out (item_at b i))) wrote ∙ home_written x (g.chain.readers (item_at b i)) (g.out (item_at b i)) is.unread not_out));
          })
