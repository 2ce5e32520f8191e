-- What a shared chain owes of its calls: no step of another party takes away what a call knows, and where each call begins.
use Rattle.std.proofs.Common.{ℕ, ◌%◌, ◌≡◌, ◌≢◌, ◌∙◌, inl, inr, true, false, List, [], ◌∷◌, Option, Some, None, refl, sym, ap, subst}
use Rattle.queue_laws.specs.Common.{Vocabulary.Call, Vocabulary.Kind, Vocabulary.Op, Vocabulary.Local, Vocabulary.Next, Vocabulary.BLOCK_SLOTS, Effects.IsBetween, Stand.Stand}
use Rattle.queue_laws.specs.Chain.{ChainFacts.place, ChainFacts.open_tail_of, ChainAt.Only, ChainAt.At, ChainAt.push_tail, ChainAt.writing, ChainAt.reading, ChainAt.beginning, ChainPasses.Spares, ChainPasses.spare_in}
use Rattle.queue_steps.specs.{State.State, ChainWords.offset_at, ChainWords.offset_of}
use Rattle.queue_laws.proofs.{Common.Tails.position_tail, Chain.ChainPlaces.place_offset, Chain.ChainFacts.holds_stays, Chain.ChainAnswers.head_offset, Chain.ChainAt.at_stays, Chain.ChainGiven.spares_stay, Chain.ChainStart.Begins, Chain.ChainStart.OnPosition, Chain.ChainStart.at_begun}
use Rattle.queue_laws.specs.Chain.ChainCells.{Wrote, Reader, Reading, Chain, Part, Write, Read, HoldsOnly, Nothing, writer_of, reader_of}
use Rattle.shared_parties.specs.Calling.{CallLaws, HasTouched, first_of, Opens}
use Rattle.shared_chain.specs.ChainCalls.{OutChain, HasOut, Out, ChainLent, ChainIdle, SlotsAs, PassesOut, chain_calls}
use Rattle.shared_chain.proofs.Frames.Leaves.{nothing_out, nothing_lent}

pub reader_is : (r : Reader) (j : ℕ) → reader_of r ≡ Some j → r ≡ Reading j
reader_is (Reading p) j e = ap (λ i. Reading i) (cc)
reader_is r j e = cc

pub tail_offset : (n : ℕ) → offset_of (open_tail_of n) ≡ n % BLOCK_SLOTS
tail_offset n = ap offset_at (position_tail (place n) false) ∙ place_offset n

abbrev part_item : Part → ℕ
part_item (Write n) = n
part_item (Read n) = n
part_item _ = 0

-- every operation but the question for a block is on a block of the web
abbrev pub OnBlocks : Op ℕ → Type 0
OnBlocks Op.Ask = ⊥
OnBlocks _ = Unit {0}

on_blocks : (o : Op ℕ) → OnPosition o → OnBlocks o
on_blocks Op.Ask on = on
on_blocks o on = tt

module _ {T : Type 0} where
  -- a slot that another party has stays its own, and with what lies in it
  out_back : (g s : OutChain T) (who j n : ℕ) → j ≢ who → PassesOut who g s → HasOut s j n → HasOut g j n
  out_back g s who j n ne pass (inl e) = inl (pass.0.owned (Write n) j ne e)
  out_back g s who j n ne pass (inr h) =
      let before : g.chain.readers n ≡ Reading j = reader_is (g.chain.readers n) j (pass.0.owned (Read n) j ne (ap reader_of h.0)) in inr (before, sym (pass.1 j n ne before) ∙ h.1)

  out_stays : (g s : OutChain T) (who j n : ℕ) (y : Option T) → j ≢ who → PassesOut who g s → Out g j n y → Out s j n y
  out_stays g s who j n y ne pass (inl h) = inl (ap writer_of (pass.0.held (Write n) j ne h.0) ∙ h.0, h.1)
  out_stays g s who j n y ne pass (inr h) = inr (
    pass.0.held (Read n) j ne (ap reader_of h.0) ∙ h.0,
    pass.1 j n ne h.0 ∙ h.1,
    (h.2.0, pass.0.wrote n h.2.0 h.2.1, h.2.2),
  )

  lent_stays : (g s : OutChain T) (who j : ℕ) (xs : List (ℕ × Option T)) → j ≢ who → PassesOut who g s → ChainLent g j xs → ChainLent s j xs
  lent_stays g s who j xs ne pass (inl none) = inl (none.0, λ n h. none.1 n (out_back g s who j n ne pass h))
  lent_stays g s who j xs ne pass (inr (n, y, out, is)) = inr (n, y, out_stays g s who j n y ne pass out, is)

  slots_stay : (g s : OutChain T) (who j : ℕ) (l : Local ℕ) → j ≢ who → PassesOut who g s → SlotsAs g j l → SlotsAs s j l
  slots_stay g s who j l ne pass slots n e =
      let before : g.chain.readers n ≡ Reading j = reader_is (g.chain.readers n) j (pass.0.owned (Read n) j ne (ap reader_of e)) in pass.1 j n ne before ∙ slots n before

  -- a chain has no displacement
  no_front : {c : Chain T} {j : ℕ} {ms : List (State T)} {k : Stand T} → At c j ms k → IsBetween k.effects → ⊥
  no_front (push_tail d v spare a b) h = h
  no_front x h = h

  -- the one slot of a party that holds this writer's part, or this reader's, alone
  pub of_writer : (g : OutChain T) (j n : ℕ) (xs : List (ℕ × Option T)) → HoldsOnly g.chain j (Only (Write n)) → writer_of (g.chain.writers n) ≡ Some j → ChainLent g j xs → xs ≡ (n % BLOCK_SLOTS, None) ∷ []
  of_writer g j n xs holds mine (inl none) = absurd (none.1 n (inl mine))
  of_writer g j n xs holds mine (inr (m, y, inl h, is)) = let same : m ≡ n = ap part_item (holds (Write m) h.0) in is ∙ (λ i. (same i % BLOCK_SLOTS, h.1 i) ∷ [])
  of_writer g j n xs holds mine (inr (m, y, inr h, is)) = absurd (let e = holds (Read m) (ap reader_of h.0) in cc)

  pub of_reader : (g : OutChain T) (j n : ℕ) (x : T) (xs : List (ℕ × Option T)) → HoldsOnly g.chain j (Only (Read n)) → g.chain.readers n ≡ Reading j → g.out n ≡ true → g.chain.writers n ≡ Wrote x → ChainLent g j xs
      → xs ≡ (n % BLOCK_SLOTS, Some x) ∷ []
  of_reader g j n x xs holds mine out wrote (inl none) = absurd (none.1 n (inr (mine, out)))
  of_reader g j n x xs holds mine out wrote (inr (m, y, inl h, is)) = absurd (let e = holds (Write m) h.0 in cc)
  of_reader g j n x xs holds mine out wrote (inr (m, y, inr h, is)) =
      let same : m ≡ n = ap part_item (holds (Read m) (ap reader_of h.0)) in
      let z : Wrote h.2.0 ≡ Wrote x = sym h.2.1 ∙ (ap g.chain.writers same ∙ wrote) in
      let item : h.2.0 ≡ x = cc in
      is ∙ (λ i. (same i % BLOCK_SLOTS, (h.2.2 ∙ ap (λ q. Some q) item) i) ∷ [])

  -- the slot that a call touches is the one that it has, and then it carries what lay there
  touches_own : (g : OutChain T) (j : ℕ) {ms : List (State T)} {k : Stand T} (xs : List (ℕ × Option T)) → At g.chain j ms k → SlotsAs g j k.local → ChainLent g j xs → HasTouched k.touch xs
  touches_own g j xs (writing d v n name spare holds mine b) slots lent = λ i at.
      let w : writer_of (g.chain.writers n) ≡ Some j = ap writer_of mine.mine in
      (None, of_writer g j n xs holds w lent ∙ ap (λ z. (z, None) ∷ []) (sym (tail_offset n) ∙ at))
  touches_own g j xs (reading x n name more holds got wrote inner) slots lent = λ i at. (Some x, of_reader g j n x xs holds got.mine (slots n got.mine) wrote lent ∙ ap (λ z. (z, Some x) ∷ []) (sym (head_offset n more) ∙ at))
  touches_own g j xs (beginning x n name more holds got wrote last) slots lent = λ i at. (Some x, of_reader g j n x xs holds got.mine (slots n got.mine) wrote lent ∙ ap (λ z. (z, Some x) ∷ []) (sym (head_offset n more) ∙ at))
  touches_own g j xs x slots lent = λ i at. absurd at

  pub chain_call_laws : CallLaws {T = T} chain_calls
  chain_call_laws = record {
    at_stays = λ g s who j ms was c ok ok2 ne pass here. (at_stays ok ok2 ne pass.0 here.0, spares_stay who j (spare_in c.local) ne pass.0 here.1, slots_stay g s who j c.local ne pass here.2);
    lent_stays = λ g s who j xs ne pass lent. lent_stays g s who j xs ne pass lent;
    idle_stays = λ g s who j ne pass idle. (holds_stays who j Nothing ne pass.0 idle.0, spares_stay who j None ne pass.0 idle.1);
    idle_none = λ g j xs idle lent. nothing_lent g j xs idle.0 lent;
    idle_lent = λ g j idle. inl (refl, nothing_out g j idle.0);
    coming = λ g j ms was c ok here between. absurd (no_front here.0 between);
    touches = λ g j ms was c xs here lent. touches_own g j xs here.0 here.2 lent;
  }

  -- a party that holds nothing reads nothing
  no_slots : (g : OutChain T) (j : ℕ) (l : Local ℕ) → ChainIdle g j → SlotsAs g j l
  no_slots g j l idle n e = absurd (idle.0 (Read n) (ap reader_of e))

  opens : (c : Call T) (n : Next ℕ) → Begins c n → Opens {T = T} chain_calls OnBlocks c n
  opens c (Next.Step l t o) (steps, touch, light, on, here) = (touch, on_blocks o on, λ g j idle. (here g.chain j [] idle.0, subst (λ s. Spares g.chain j s) (sym light) idle.1, no_slots g j l idle))
  opens c (Next.Reply x spare) (steps, none, right) = (none, right)

  pub chain_opens : (c : Call T) → Opens {T = T} chain_calls OnBlocks c (first_of Kind.Unbounded c)
  chain_opens c = opens c (first_of Kind.Unbounded c) (at_begun c)
