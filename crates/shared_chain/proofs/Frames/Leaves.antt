-- What is left to say of a step once its operation is done, and what it is where the party has no slot.
use Rattle.std.proofs.Common.{ℕ, ◌<◌, ◌≡◌, ◌≢◌, ◌∙◌, inl, inr, Bool, Option, Some, None, List, [], ◌∷◌, replicate, zero, suc, refl, sym, ap}
use denote.RawPtr.{Ptr}
use Rattle.queue_laws.specs.Common.{Vocabulary.Op, Vocabulary.Local, Vocabulary.Next, Vocabulary.BLOCK_SLOTS, Puts.put, Stand.Stand, Operations.op_word}
use Rattle.queue_laws.specs.Chain.{ChainAt.At, ChainAfter.chain_of, ChainAfter.after_of, ChainAfter.left_by, ChainPasses.spare_in, ChainAnswers.Answers}
use Rattle.queue_steps.specs.{State.State, ChainNext.chain_next}
use Rattle.queue_laws.specs.Chain.ChainCells.{Reading, Chain, Part, Write, Read, reader_of, HoldsOnly, Nothing}
use Rattle.queue_laws.proofs.Common.Puts.{put_other}
use Rattle.mem_blocks.specs.Web.{Block, Sitter, Act, acted, May, Mays, blocks_after, sitter_acted, sitter_after, Lives, vacant, AllVacant}
use Rattle.shared_parties.specs.declared.known.CallState.{CallState}
use Rattle.shared_chain.specs.{Spots.spot, ChainCalls.OutChain, ChainCalls.HasOut, ChainCalls.ChainLent, Rule.Codes}
use Rattle.shared_chain.specs.Steps.{fresh_at, carried_by, slot_block, hand_by, HoldsBy, HoldsFor, op_place, word_index, blocks_made, answered, LeadsThere, SlotsFor, BlockStep}
use Rattle.shared_chain.proofs.Frames.Blocks.{codes_left}

-- the spare that a call goes on with, or gives up
abbrev pub spare_on : Next ℕ → Option ℕ
spare_on (Next.Step l t o) = spare_in l
spare_on (Next.Reply x spare) = spare

all_vacant : (A : Type 0) (n : ℕ) → AllVacant (replicate n (vacant {S = A}))
all_vacant A zero = tt
all_vacant A (suc n) = (refl, all_vacant A n)

module _ {A : Type 0} where
  -- a party that holds no item has no slot
  pub none_out : (g : OutChain A) (who : ℕ) (P : Part → Type 0) → HoldsOnly g.chain who P → ((n : ℕ) → ¬ (P (Write n))) → ((n : ℕ) → ¬ (P (Read n))) → (n : ℕ) → ¬ (HasOut g who n)
  none_out g who P holds unwritten unread n (inl e) = unwritten n (holds (Write n) e)
  none_out g who P holds unwritten unread n (inr e) = unread n (holds (Read n) (ap reader_of e.0))

  pub no_lent : (g : OutChain A) (who : ℕ) (xs : List (ℕ × Option A)) → ((n : ℕ) → ¬ (HasOut g who n)) → ChainLent g who xs → xs ≡ []
  no_lent g who xs none (inl h) = h.0
  no_lent g who xs none (inr (n, y, inl h, e)) = absurd (none n (inl h.0))
  no_lent g who xs none (inr (n, y, inr h, e)) = absurd (none n (inr (h.0, h.1)))

  -- nor has one that holds nothing
  pub nothing_out : (g : OutChain A) (who : ℕ) → HoldsOnly g.chain who Nothing → (n : ℕ) → ¬ (HasOut g who n)
  nothing_out g who none = none_out g who Nothing none (λ n no. no) (λ n no. no)

  pub nothing_lent : (g : OutChain A) (who : ℕ) (xs : List (ℕ × Option A)) → HoldsOnly g.chain who Nothing → ChainLent g who xs → xs ≡ []
  nothing_lent g who xs none lent = no_lent g who xs (nothing_out g who none) lent

  -- what the seat of such a party holds
  pub nothing_held : (g : OutChain A) (who : ℕ) (l : Local ℕ) (o : Op ℕ) (xs : List (ℕ × Option A)) (m : Sitter A (CallState A)) → HoldsOnly g.chain who Nothing → ChainLent g who xs → HoldsBy l o xs m
      → (m.hand ≡ None) × (m.spare ≡ carried_by (spare_in l))
  nothing_held g who l o xs m none lent holds = (holds.0 ∙ ap (λ ys. hand_by (slot_block l o) ys) (nothing_lent g who xs none lent), holds.1)

  -- a seat with no slot in hand goes on with the block that it carries
  pub none_holds : (n : Next ℕ) (spare : Option ℕ) (m : Sitter A (CallState A)) → spare_on n ≡ spare → (m.hand ≡ None) × (m.spare ≡ carried_by spare) → HoldsFor [] n m
  none_holds (Next.Reply x (Some f)) spare m same holds = (holds.0, (fresh_at (spot f), holds.1 ∙ ap carried_by (sym same), refl, refl, refl, all_vacant A BLOCK_SLOTS))
  none_holds n spare m same holds = (holds.0, holds.1 ∙ ap carried_by (sym same))

  -- the slot of an item is with its reader or not, and that of every other item that another party reads is where it was
  pub others_out : (g : OutChain A) (who n : ℕ) (v : Bool) → g.chain.readers n ≡ Reading who → (j : ℕ) → j ≢ who → (k : ℕ) → g.chain.readers k ≡ Reading j → put g.out n v k ≡ g.out k
  others_out g who n v mine j ne k reads = put_other g.out n k v (λ same. let z : Reading j ≡ Reading who = sym reads ∙ (ap g.chain.readers same ∙ mine) in absurd (ne (let y : j ≡ who = cc in y)))

  -- what is left to say of a step once its operation is done: what the acts beside it make of the blocks cs and of the seat m, where the chain is r then and the call goes on as x says
  pub record Leaves (te he : Ptr) (g : OutChain A) (who : ℕ) (cs : List (Block A)) (m : Sitter A (CallState A)) (r : Chain A) (x : Next ℕ) : Type 0 where
    pub out : ℕ → Bool
    pub acts : List (Act A)
    pub mays : Mays cs m acts
    pub codes : Codes te he (record { chain = left_by r x; out = out }) (blocks_after cs acts)
    pub others : (j : ℕ) → j ≢ who → (n : ℕ) → g.chain.readers n ≡ Reading j → out n ≡ g.out n
    pub slots : SlotsFor (record { chain = left_by r x; out = out }) who x
    pub lends : List (ℕ × Option A)
    pub lent : ChainLent (record { chain = left_by r x; out = out }) who lends
    pub holds : HoldsFor lends x (sitter_after cs m acts)

  module _ {te he : Ptr} {g : OutChain A} {who : ℕ} {cs : List (Block A)} {m : Sitter A (CallState A)} {r : Chain A} {x : Next ℕ} where
    -- one act, and what it leaves
    pub acts_first : (a : Act A) → May cs m a → Leaves te he g who (acted cs a) (sitter_acted cs m a) r x → Leaves te he g who cs m r x
    acts_first a may left = record {
      out = left.out;
      acts = a ∷ left.acts;
      mays = (may, left.mays);
      codes = left.codes;
      others = left.others;
      slots = left.slots;
      lends = left.lends;
      lent = left.lent;
      holds = left.holds;
    }

    -- nothing more is done, and the slots are where they were
    pub keeps : Codes te he (record { chain = r; out = g.out }) cs → SlotsFor (record { chain = left_by r x; out = g.out }) who x → (xs : List (ℕ × Option A)) → ChainLent (record { chain = left_by r x; out = g.out }) who xs
        → HoldsFor xs x m → Leaves te he g who cs m r x
    keeps codes slots xs lent holds = record { out = g.out; acts = []; mays = tt; codes = codes_left te he r g.out cs x codes; others = λ j ne n e. refl; slots = slots; lends = xs; lent = lent; holds = holds }

    -- nothing more is done, and the seat has no slot
    pub idles : (out : ℕ → Bool) → Codes te he (record { chain = r; out = out }) cs → ((j : ℕ) → j ≢ who → (n : ℕ) → g.chain.readers n ≡ Reading j → out n ≡ g.out n)
        → SlotsFor (record { chain = left_by r x; out = out }) who x → ((n : ℕ) → ¬ (HasOut (record { chain = r; out = out }) who n)) → HoldsFor [] x m → Leaves te he g who cs m r x
    idles out codes others slots none holds = record {
      out = out;
      acts = [];
      mays = tt;
      codes = codes_left te he r out cs x codes;
      others = others;
      slots = slots;
      lends = [];
      lent = inl (refl, none_left x);
      holds = holds;
    }
      where
        none_left : (n : Next ℕ) → (i : ℕ) → ¬ (HasOut (record { chain = left_by r n; out = out }) who i)
        none_left (Next.Step l t o) = none
        none_left (Next.Reply y None) = none
        none_left (Next.Reply y (Some f)) = none

    -- nor does the party hold anything
    pub idles_free : Codes te he (record { chain = r; out = g.out }) cs → HoldsOnly r who Nothing → HoldsFor [] x m → Leaves te he g who cs m r x
    idles_free codes none holds = idles g.out codes (λ j ne n e. refl) (slots x) (nothing_out (record { chain = r; out = g.out }) who none) holds
      where
        slots : (n : Next ℕ) → SlotsFor (record { chain = left_by r n; out = g.out }) who n
        slots (Next.Step l t o) = λ i e. absurd (none (Read i) (ap reader_of e))
        slots (Next.Reply y spare) = tt

  -- an operation, and what it leaves
  pub op_step : {te he : Ptr} {g : OutChain A} {who : ℕ} {bs : List (Block A)} {m : Sitter A (CallState A)} {ms : List (State A)} {k : Stand A} (here : At g.chain who ms k) (number : ℕ)
      → Lives bs number (op_place te he k.op) → (number < 2 → word_index (op_word k.op) ≡ 0) → LeadsThere g.chain bs k.op number → Answers g.chain k.op (answered g.chain bs k.op number)
      → Leaves te he g who (blocks_made k.op number bs) m (after_of here (answered g.chain bs k.op number)) (chain_next (chain_of k.local) (answered g.chain bs k.op number)) → BlockStep te he g who bs m here
  op_step here number lives counts leads found left = record {
    number = number;
    lives = lives;
    counts = counts;
    leads = leads;
    found = found;
    out = left.out;
    acts = left.acts;
    mays = left.mays;
    codes = left.codes;
    others = left.others;
    slots = left.slots;
    lends = left.lends;
    lent = left.lent;
    holds = left.holds;
  }
