-- The wait for an item: once its slot's state says that it is written, its reader takes the slot.
use Rattle.queue_laws.specs.{Chain.ChainAt.has_taken, Common.Vocabulary.Answer, Chain.ChainAt.At}
use Rattle.std.proofs.Common.{ℕ, ◌+◌, ◌/◌, ◌%◌, ◌≡◌, ◌==◌, ◌∙◌, not, inl, inr, Bool, true, false, if◌then◌else◌, Option, Some, None, List, [], ◌∷◌, refl, sym, ap, subst, arith, bit_and, get_or}
use mathlib.Core.Option.{some}
use denote.RawPtr.{Ptr}
use Rattle.queue_laws.specs.Common.{Puts.put, Vocabulary.Word, Vocabulary.Op, Vocabulary.Touch, Vocabulary.Local, Vocabulary.Next, Vocabulary.BLOCK_SLOTS, Vocabulary.WRITE, Vocabulary.READ}
use Rattle.queue_laws.specs.Chain.{ChainFacts.head_of, ChainFacts.Got, ChainAt.Only, ChainAt.awaiting, ChainAnswers.IsState, ChainAnswers.is_wrote, ChainPasses.spare_in}
use Rattle.queue_laws.proofs.{Common.Puts.put_same, Common.Puts.put_other, Chain.ChainAnswers.head_offset}
use Rattle.queue_steps.specs.{State.State, ChainWords.offset_of, ChainNext.at, ChainNext.walks, ChainNext.awaits, ChainNext.is_last_slot, declared.steps.chain.ChainLocal.ChainLocal as chain}
use Rattle.queue_laws.specs.Chain.ChainCells.{Writer, Wrote, Reading, Done, ChainOk, Write, Read, HoldsOnly, value, reader_of, item_at}
use Rattle.mem_blocks.specs.Web.{Block, Sitter, takes, word_of, with_home, away}
use Rattle.shared_parties.specs.declared.known.CallState.{CallState}
use Rattle.shared_chain.specs.{Spots.spot, ChainCalls.OutChain, ChainCalls.has_slot, ChainCalls.HasOut, ChainCalls.ChainLent, ChainCalls.SlotsAs, Rule.home_of, Rule.Codes, Steps.BlockStep, Steps.HoldsBy, Steps.slot_block, Steps.carried_by}
use Rattle.shared_chain.proofs.Frames.{Homes.none_other, Homes.turns_home, Homes.codes_turned, Homes.home_set, Homes.word_kept, States.SlotAt, States.slot_at, States.load_step, Leaves.others_out, Leaves.Leaves, Leaves.no_lent, Leaves.idles}
use Rattle.shared_chain.specs.Steps.{hand_by}

-- an item that is x, and is written
wrote_is : {A : Type 0} (w : Writer A) (x : A) → value w ≡ Some x → is_wrote w ≡ true → w ≡ Wrote x
wrote_is (Wrote v) x e t = ap (λ y. Wrote y) (cc)
wrote_is w x e t = cc

module _ {A : Type 0} (g : OutChain A) (who n : ℕ) (holds : HoldsOnly g.chain who (Only (Read n))) where
  -- no other item is the party's
  only : (k : ℕ) → g.chain.readers k ≡ Reading who → k ≡ n
  only k e = let z : Read k ≡ Read n = holds (Read k) (ap reader_of e) in cc

  none : g.out n ≡ false → (k : ℕ) → ¬ (HasOut g who k)
  none not_yet k (inl e) = let z : Write k ≡ Read n = holds (Write k) e in cc
  none not_yet k (inr e) = let z : true ≡ false = sym e.1 ∙ (ap g.out (only k e.0) ∙ not_yet) in cc

-- V9: the slot's state is read
module _ {A : Type 0} (te he : Ptr) (g : OutChain A) (who : ℕ) (bs : List (Block A)) (m : Sitter A (CallState A)) (ms : List (State A)) where
  pub step_awaiting : (x : A) (n name : ℕ) (more : Bool) (holds : HoldsOnly g.chain who (Only (Read n))) (got : Got g.chain who n x name)
      → ChainOk g.chain → Codes te he g bs → SlotsAs g who (Local.Chain (chain.Awaiting (head_of n more) name)) → (xs : List (ℕ × Option A)) → ChainLent g who xs
      → HoldsBy (Local.Chain (chain.Awaiting (head_of n more) name)) (Op.Load (Word.State name (offset_of (head_of n more)))) xs m → BlockStep te he g who bs m {ms = ms} (awaiting x n name more holds got)
  step_awaiting x n name more holds got ok codes slots xs lent has = load_step te he g who bs m b name i here ok codes got.named is.on is.state (go (is_wrote (g.chain.writers (item_at b i))) refl)
    where
      b : ℕ
      b = n / BLOCK_SLOTS

      i : ℕ
      i = offset_of (head_of n more)

      here : At g.chain who ms (has_taken (chain.Awaiting (head_of n more) name) Touch.Nothing (Op.Load (Word.State name (offset_of (head_of n more)))) None x)
      here = awaiting x n name more holds got

      is : SlotAt te he g bs n i name
      is = slot_at te he ok codes got.named (head_offset n more) (λ e. let z : Reading who ≡ Done = sym got.mine ∙ e in cc)

      not_yet : g.out n ≡ false
      not_yet = slots n got.mine

      free : (m.hand ≡ None) × (m.spare ≡ None)
      free = (has.0 ∙ ap (λ ys. hand_by 0 ys) (no_lent g who xs (none g who n holds not_yet) lent), has.1)

      -- the item is there, and the call has the slot then
      took : g.chain.writers n ≡ Wrote x → (l : Local ℕ) (t : Touch) (o : Op ℕ) → has_slot l ≡ true → slot_block l o ≡ name → spare_in l ≡ None → Leaves te he g who bs m g.chain (Next.Step l t o)
      took wrote l t o slot block_is spare =
          let out = put g.out n true in
          let cs = with_home bs (b + 2) i away in
          let wrote_here : g.chain.writers (item_at b i) ≡ Wrote x = ap g.chain.writers is.at ∙ wrote in
          let mine : g.chain.readers (item_at b i) ≡ Reading who = ap g.chain.readers is.at ∙ got.mine in
          let same = word_kept bs (b + 2) i away is.long in
          record {
            out = out;
            acts = takes (b + 2) i (Some x) ∷ [];
            mays = ((is.lives.0, is.block_is.slot i is.low ∙ (λ j. some (home_of (wrote_here j) (mine j) ((ap g.out is.at ∙ not_yet) j)))), tt);
            codes = codes_turned te he g here (Answer.Found (word_of bs (b + 2) i)) g.chain refl out ok bs cs b i is.low
                (record { unused = refl; ends = refl; shape = (refl, refl); altered = λ j ne. none_other refl; moved = λ j ne. none_other refl; set = λ j ne. none_other refl; kept = λ j ne. put_other g.out n j true (λ e. ne (e ∙ sym is.at)) })
                codes is.named.0 (turns_home (b + 2) i away bs is.long) is.on is.on (λ e. e) (record {
                  state = λ last. subst (λ ns. IsState g.chain b i (get_or ns i 0)) (sym same) is.state;
                  plain = λ before. ap (λ ns. get_or ns i 0) same ∙ is.block_is.plain before i is.low;
                  slot = home_set bs (b + 2) i away is.long (omega (arith, is.block_is.homes, is.low)) ∙ (λ j. some (home_of (sym wrote_here j) (sym mine j) (sym (ap out is.at ∙ put_same g.out n true) j)));
                });
            others = others_out g who n true got.mine;
            slots = λ j e. ap out (only g who n holds j e) ∙ put_same g.out n true ∙ sym slot;
            lends = (n % BLOCK_SLOTS, Some x) ∷ [];
            lent = inr (n, Some x, inr (got.mine, put_same g.out n true, (x, wrote, refl)), refl);
            holds = ((λ j. Some ((is.lives.1 ∙ ap spot (sym block_is)) j, head_offset n more j, Some x)), free.1 ∙ ap carried_by (sym spare));
          }

      -- the call goes on by what the state says, and by whether the slot is the last
      found : Bool → Bool → Type 0
      found t u = Leaves te he g who bs m g.chain (if t then awaits (head_of n more) name else (if u then walks name 0 (Touch.Take i)
          else at (chain.Reading name i) (Touch.Take i) (Op.Or (Word.State name i) READ)))

      last : g.chain.writers n ≡ Wrote x → (u : Bool) → found false u
      last wrote true = took wrote (Local.Chain (chain.Walking name 0)) (Touch.Take i) (Op.Load (Word.State name 0)) refl refl refl
      last wrote false = took wrote (Local.Chain (chain.Reading name i)) (Touch.Take i) (Op.Or (Word.State name i) READ) refl refl refl

      go : (t : Bool) → is_wrote (g.chain.writers (item_at b i)) ≡ t → found (bit_and (word_of bs (b + 2) i) WRITE == 0) (is_last_slot (head_of n more))
      go false e = subst (λ t. found t (is_last_slot (head_of n more))) (sym (is.state.written ∙ ap not e))
          (idles g.out codes (λ j ne k z. refl) (λ k z. ap g.out (only g who n holds k z) ∙ not_yet) (none g who n holds not_yet) free)
      go true e = subst (λ t. found t (is_last_slot (head_of n more))) (sym (is.state.written ∙ ap not e))
          (last (wrote_is (g.chain.writers n) x got.item (ap (λ j. is_wrote (g.chain.writers j)) (sym is.at) ∙ e)) (is_last_slot (head_of n more)))
