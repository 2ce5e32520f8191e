-- A reader has its slot only once the item is written: what each party knows says so.
use Rattle.std.proofs.Common.{ℕ, ◌≡◌, ◌∙◌, true, List, refl, sym, ap}
use mathlib.Core.Option.{some, some-injective, some-ne-none}
use mathlib.Core.Option as maybe
use lib.ListN.{get_elem?}
use Rattle.queue_laws.specs.{Common.Vocabulary.Effect, Common.Stand.Stand, Chain.ChainCells.Wrote, Chain.ChainCells.Reading, Chain.ChainCells.Chain, Chain.ChainCells.Read, Chain.ChainCells.reader_of, Chain.ChainAt.At, Chain.ChainAt.reading, Chain.ChainAt.beginning, Chain.ChainAt.walking}
use Rattle.queue_steps.specs.State.{State}
use Rattle.shared_parties.specs.{declared.known.CallState.CallState, declared.known.Work.Work, CallStates.is_busy, CallsAt.CallsAt}
use Rattle.shared_chain.{specs.ChainCalls.OutChain, specs.ChainCalls.has_slot, specs.ChainCalls.chain_calls, proofs.Steps.Writing.OutWrote}

module _ {A : Type 0} where
  abbrev IsWritten : Chain A → ℕ → Type 0
  IsWritten c n = (x : A) × (c.writers n ≡ Wrote x)

  -- a call that has a reader's slot reads a written item
  wrote_by : {c : Chain A} {j : ℕ} {ms : List (State A)} {k : Stand A} (n : ℕ) → At c j ms k → c.readers n ≡ Reading j → has_slot k.local ≡ true → IsWritten c n
  wrote_by {c = c} n (reading x m name more holds got wrote inner) mine has = (x, ap c.writers (let e = holds (Read n) (ap reader_of mine) in cc) ∙ wrote)
  wrote_by {c = c} n (beginning x m name more holds got wrote last) mine has = (x, ap c.writers (let e = holds (Read n) (ap reader_of mine) in cc) ∙ wrote)
  wrote_by n (walking x b name slot holds is named) mine has = absurd (let e = holds (Read n) (ap reader_of mine) in cc)
  wrote_by n x mine has = absurd (cc)

  module _ (g : OutChain A) (h : List (Effect A)) (count : ℕ) (views : List (CallState A)) (all : CallsAt chain_calls g h count views) where
    -- a party that reads is at a call
    by_work : (j n : ℕ) (d : CallState A) (w : Work A) → get_elem? views j ≡ some d → d.work ≡ w → g.chain.readers n ≡ Reading j → g.out n ≡ true → IsWritten g.chain n
    by_work j n d Work.Nothing at is mine out =
        absurd ((all.free j (λ e there. ap (λ (z : CallState A). is_busy z.work) (some-injective e d (sym there ∙ at)) ∙ ap is_busy is)).0 (Read n) (ap reader_of mine))
    by_work j n d (Work.Calls c) at is mine out = let st = all.calls j d c at is in wrote_by n st.here.0 mine (sym (st.here.2 n mine) ∙ out)

    by_view : (j n : ℕ) (v : maybe.Option (CallState A)) → get_elem? views j ≡ v → g.chain.readers n ≡ Reading j → g.out n ≡ true → IsWritten g.chain n
    by_view j n maybe.none at mine out = absurd ((all.free j (λ e there. absurd (some-ne-none e (sym there ∙ at)))).0 (Read n) (ap reader_of mine))
    by_view j n (some d) at mine out = by_work j n d d.work at refl mine out

    pub out_wrote : OutWrote g
    out_wrote j n mine out = by_view j n (get_elem? views j) refl mine out
