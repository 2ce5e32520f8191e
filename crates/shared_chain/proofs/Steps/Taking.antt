-- The exchange of the head's word: a pop that wins claims the front, whose slot stays where it is.
use Rattle.shared_chain.proofs.Frames.{Leaves.Leaves, Blocks.home_in, Stepping.home_stays, Homes.some_other, Stepping.codes_ends, Leaves.idles, Leaves.none_holds, Leaves.nothing_held, Leaves.op_step}
use Rattle.shared_chain.specs.Steps.{blocks_made}
use Rattle.queue_laws.proofs.{Chain.ChainReads.front_is, Chain.ChainTransitions.item_free, Chain.ChainSlots.step_item, Common.Puts.put_other, Common.Puts.put_same}
use Rattle.std.proofs.{Common.◌≤◌, Common.◌<◌, Common.lit<, lemmas.Bool.Decides.eqb_tells}
use Rattle.queue_laws.specs.Chain.{ChainCells.item_at, ChainAfter.if_taken, ChainPasses.spare_in, ChainAt.At, ChainAt.taking, ChainAnswers.head_word, ChainCells.Chain, ChainCells.Done, ChainCells.Reader, ChainCells.Wrote, ChainAfter.taken_if, ChainCells.writer_of}
use Rattle.std.proofs.Common.{ℕ, ◌+◌, ◌*◌, ◌<◌, ◌≡◌, ◌==◌, ◌∙◌, ◌⊎◌, inl, inr, Bool, true, false, if◌then◌else◌, Option, None, List, refl, sym, ap, subst, arith}
use denote.RawPtr.{Ptr}
use Rattle.queue_laws.specs.Common.Vocabulary.{Call, Word, Op, Answer, Local, Next, BLOCK_SLOTS, TAIL_STEP}
use Rattle.queue_steps.specs.{State.State, ChainWords.offset_of, ChainNext.chain_next, declared.steps.chain.ChainLocal.ChainLocal as chain, ChainNext.awaits, ChainNext.follows, ChainNext.is_last_slot}
use Rattle.queue_laws.specs.{Common.Puts.put, Common.Stand.empty_handed, Chain.ChainFacts.place, Chain.ChainFacts.head_of, Chain.ChainFacts.HeadIs, Chain.ChainFacts.HeadBlockIs, Chain.ChainFacts.IsMore}
use Rattle.queue_laws.specs.Chain.ChainCells.{Writer, Unread, Reading, ChainOk, Write, Read, HoldsOnly, Nothing, reader_of, item_at}
use Rattle.mem_blocks.specs.{Web.Block, Web.Sitter, Web.word_of, declared.hub.TheConstants.HEAD}
use Rattle.shared_parties.specs.declared.known.CallState.{CallState}
use Rattle.shared_chain.specs.{ChainCalls.OutChain, ChainCalls.HasOut, ChainCalls.ChainLent, ChainCalls.has_slot, Rule.home_of, Rule.Codes, Steps.HoldsBy, Steps.BlockStep}

-- what the exchange makes of the items: the front is with its reader, or as it was
taken_items : {A : Type 0} (c : Chain A) (who : ℕ) (new t last : Bool) → let s : Chain A = taken_if c who new t last in (s.writers ≡ c.writers) × ((s.readers c.head ≡ c.readers c.head) ⊎ (s.readers c.head ≡ Reading who))
taken_items c who new true true = (refl, inr (put_same c.readers c.head (Reading who)))
taken_items c who new true false = (refl, inr (put_same c.readers c.head (Reading who)))
taken_items c who new false last = (refl, inl refl)

-- a slot that a pop claims stays where it is
home_claimed : {A : Type 0} (w : Writer A) (r : Reader) (who : ℕ) (b : Bool) → (r ≡ Unread) ⊎ (r ≡ Reading who) → home_of w r false ≡ home_of w Unread b
home_claimed (Wrote v) Unread who b is = refl
home_claimed (Wrote v) (Reading p) who b is = refl
home_claimed (Wrote v) Done who b is = absurd (elim is [ inl e ↦ cc | inr e ↦ cc ])
home_claimed w r who b is = refl

-- the call goes on with no slot and no spare
abbrev GoesBare : Next ℕ → Type 0
GoesBare (Next.Step l t o) = (has_slot l ≡ false) × (spare_in l ≡ None)
GoesBare (Next.Reply x spare) = ⊥

goes_bare : (h name x : ℕ) → GoesBare (chain_next (chain.Taking h name) (Answer.Found x))
goes_bare h name x = elim (eqb_tells x h) [
  | inl e ↦ rw (e.0) (elim (is_last_slot h) as (λ t. GoesBare (if t then follows h name else awaits h name)) [ true ↦ (refl, refl) | false ↦ (refl, refl) ])
  | inr e ↦ rw (e.0) (elim (eqb_tells (offset_of x) BLOCK_SLOTS) [ inl t ↦ rw (t.0) (refl, refl) | inr t ↦ rw (t.0) (refl, refl) ])
]

module _ {A : Type 0} (te he : Ptr) (g : OutChain A) (who : ℕ) (bs : List (Block A)) (m : Sitter A (CallState A)) (ms : List (State A)) where
  pub step_taking : (n name after : ℕ) (more new : Bool) (none : HoldsOnly g.chain who Nothing) (is : HeadIs g.chain n) (front : HeadBlockIs g.chain n name) (there : n < g.chain.tail)
      (word_is : after ≡ place n * 2 + TAIL_STEP + (if new then 1 else 0)) (room : IsMore g.chain n new)
      → ChainOk g.chain → Codes te he g bs → (xs : List (ℕ × Option A)) → ChainLent g who xs → HoldsBy (Local.Chain (chain.Taking (head_of n more) name)) (Op.Exchange Word.Head (head_of n more) after) xs m
      → BlockStep te he g who bs m {ms = ms} (taking n name after more new none is front there word_is room)
  step_taking n name after more new none is front there word_is room ok codes xs lent held =
      op_step here 1 codes.head.lives (λ z. refl) tt (ap (λ w. Answer.Found w) codes.head.word) (leaves (chain_next (chain.Taking (head_of n more) name) a) (goes_bare (head_of n more) name (word_of bs 1 HEAD)))
    where
      here : At g.chain who ms (empty_handed (Local.Chain (chain.Taking (head_of n more) name)) (Op.Exchange Word.Head (head_of n more) after) Call.Pop)
      here = taking n name after more new none is front there word_is room

      a : Answer ℕ
      a = Answer.Found (word_of bs 1 HEAD)

      -- the front's slot is at home, whether the pop takes it or not
      out : ℕ → Bool
      out = put g.out g.chain.head false

      r : OutChain A
      r = record { chain = if_taken g.chain who n more new; out = put g.out g.chain.head false }

      free : g.chain.readers g.chain.head ≡ Unread
      free =
          let order : (g.chain.head < g.chain.tail) ⊎ (g.chain.tail ≤ g.chain.head) = grind arith in
          elim order [ inl lt ↦ (front_is g.chain ok lt).0 | inr le ↦ (item_free g.chain g.chain.head ok le).1 ]

      items : (r.chain.writers ≡ g.chain.writers) × ((r.chain.readers g.chain.head ≡ g.chain.readers g.chain.head) ⊎ (r.chain.readers g.chain.head ≡ Reading who))
      items = taken_items g.chain who new (head_word g.chain == head_of n more) (offset_of (head_of n more) + 1 == BLOCK_SLOTS)

      front_home : home_of (r.chain.writers g.chain.head) (r.chain.readers g.chain.head) (out g.chain.head) ≡ home_of (g.chain.writers g.chain.head) (g.chain.readers g.chain.head) (g.out g.chain.head)
      front_home = (λ j. home_of (items.0 j g.chain.head) (r.chain.readers g.chain.head) (put_same g.out g.chain.head false j))
          ∙ (home_claimed (g.chain.writers g.chain.head) (r.chain.readers g.chain.head) who (g.out g.chain.head) (elim (items.1) [ inl e ↦ inl (e ∙ free) | inr e ↦ inr e ])
          ∙ ap (λ z. home_of (g.chain.writers g.chain.head) z (g.out g.chain.head)) (sym free))

      home_same : (b i : ℕ) → home_in r b i ≡ home_in g b i
      home_same b i = elim (eqb_tells (item_at b i) g.chain.head) [
        | inl t ↦ subst (λ j. home_of (r.chain.writers j) (r.chain.readers j) (out j) ≡ home_of (g.chain.writers j) (g.chain.readers j) (g.out j)) (sym t.1) front_home
        | inr t ↦ home_stays te he g here a r.chain refl out b i (some_other refl t.1) (put_other g.out g.chain.head (item_at b i) false t.1)
      ]

      -- the party has no slot
      away : (i : ℕ) → r.chain.readers i ≡ Reading who → out i ≡ false
      away i e = elim (eqb_tells i g.chain.head) [
        | inl t ↦ ap out t.1 ∙ put_same g.out g.chain.head false
        | inr t ↦ absurd (none (Read i) (ap reader_of (sym (step_item here a i (some_other refl t.1)).1 ∙ e)))
      ]

      no_slot : (i : ℕ) → ¬ (HasOut r who i)
      no_slot i (inl e) = none (Write i) (ap (λ (f : ℕ → Writer A). writer_of (f i)) (sym items.0) ∙ e)
      no_slot i (inr e) = let z : false ≡ true = sym (away i e.0) ∙ e.1 in cc

      leaves : (x : Next ℕ) → GoesBare x → Leaves te he g who (blocks_made (Op.Exchange Word.Head (head_of n more) after) 1 bs) m r.chain x
      leaves (Next.Step l t o) on = idles out (codes_ends te he g here a r.chain refl out ok bs codes refl 1 (lit< tt) tt refl home_same)
          (λ j ne i e. put_other g.out g.chain.head i false (λ same. absurd (let y : Unread ≡ Reading j = sym free ∙ (ap g.chain.readers (sym same) ∙ e) in cc)))
          (λ i e. away i e ∙ sym on.0) no_slot
          (none_holds (Next.Step l t o) None m on.1 (nothing_held g who (Local.Chain (chain.Taking (head_of n more) name)) (Op.Exchange Word.Head (head_of n more) after) xs m none lent held))
      leaves (Next.Reply x spare) on = absurd on
