-- No step of another party takes away what a call on a chain carries between its steps.
use Rattle.std.proofs.Common.{ℕ, ◌+◌, ◌/◌, ◌<◌, ◌≤◌, ◌≡◌, ◌≢◌, ◌∙◌, ◌⊎◌, inl, inr, Bool, Option, Some, None, List, length, refl, sym, arith}
use Rattle.queue_laws.specs.{Common.Vocabulary.BLOCK_SLOTS, Common.Moments.SeenIn, Common.Moments.seen_by, Common.Moments.HeadWas, Common.Moments.HasItems, Chain.ChainPasses.Passes}
use Rattle.queue_steps.specs.State.{State}
use Rattle.queue_laws.proofs.Common.Moments.{seen_map, seen_later, seen_now, started_later}
use Rattle.queue_laws.specs.Chain.ChainFacts.{HeadIs, TailIs, IsNamed, TailBlockIs, HeadBlockIs, HeadBlockRead, IsMore, HasSpare, WasOpenAt, SawEmpty, SawTail, Claimed, Got}
use Rattle.queue_laws.specs.Chain.ChainCells.{Laying, Opening, Passing, Entering, Linking, Showing, Walker, Chain, queue_of, ChainOk, Part, Write, Read, Tail, Head, Next, First, Passed, HoldsOnly}

pub tail_grows : {A : Type 0} {r s : Chain A} (who : ℕ) → Passes who r s → r.tail ≤ s.tail
tail_grows who pass = elim pass.tails [ inl e ↦ omega arith | inr e ↦ omega arith ]

pub head_grows : {A : Type 0} {r s : Chain A} (who : ℕ) → Passes who r s → r.head ≤ s.head
head_grows who pass = elim pass.heads [ inl e ↦ omega arith | inr e ↦ omega arith ]

pub head_is_stays : {A : Type 0} {r s : Chain A} (who n : ℕ) → Passes who r s → HeadIs r n → HeadIs s n
head_is_stays who n pass (inl lt) = let g = head_grows who pass in inl (omega arith)
head_is_stays {r = r} {s = s} who n pass (inr (at, stands)) = elim pass.heads [ inl e ↦ inr (e ∙ at, elim (pass.stands stands) [ inl lt ↦ absurd (omega arith) | inr st ↦ st ]) | inr e ↦ inl (omega arith) ]

pub tail_is_stays : {A : Type 0} {r s : Chain A} (who q : ℕ) → Passes who r s → TailIs r q → TailIs s q
tail_is_stays who q pass (inl lt) = let g = tail_grows who pass in inl (omega arith)
tail_is_stays {r = r} {s = s} who q pass (inr (at, rests)) = elim pass.tails [ inl e ↦ inr (e ∙ at, elim (pass.rests rests) [ inl lt ↦ absurd (omega arith) | inr st ↦ st ]) | inr e ↦ inl (omega arith) ]

pub named_stays : {A : Type 0} {r s : Chain A} (who b name : ℕ) → Passes who r s → IsNamed r b name → IsNamed s b name
named_stays who b name pass (lt, e) = let g = pass.grows in (omega arith, e ∙ sym (pass.names b lt))

pub tail_block_stays : {A : Type 0} {r s : Chain A} (who q name : ℕ) → Passes who r s → TailBlockIs r q name → TailBlockIs s q name
tail_block_stays who q name pass (inl lt) = let g = tail_grows who pass in inl (omega arith)
tail_block_stays who q name pass (inr named) = inr (named_stays who (q / BLOCK_SLOTS) name pass named)

pub head_block_stays : {A : Type 0} {r s : Chain A} (who n name : ℕ) → Passes who r s → HeadBlockIs r n name → HeadBlockIs s n name
head_block_stays who n name pass (shown, inl lt) = let g = head_grows who pass in (pass.sees shown, inl (omega arith))
head_block_stays who n name pass (shown, inr named) = (pass.sees shown, inr (named_stays who (n / BLOCK_SLOTS) name pass named))

pub head_read_stays : {A : Type 0} {r s : Chain A} (who n : ℕ) (block : Option ℕ) → Passes who r s → HeadBlockRead r n block → HeadBlockRead s n block
head_read_stays who n None pass h = tt
head_read_stays who n (Some name) pass h = head_block_stays who n name pass h

pub more_stays : {A : Type 0} {r s : Chain A} (who n : ℕ) (more : Bool) → Passes who r s → IsMore r n more → IsMore s n more
more_stays who n more pass is = λ e. let h = is e in let g = tail_grows who pass in (pass.sees h.0, omega arith)

pub spare_stays : {A : Type 0} {r s : Chain A} (who other : ℕ) (spare : Option ℕ) → other ≢ who → Passes who r s → HasSpare r other spare → HasSpare s other spare
spare_stays who other None ne pass h = tt
spare_stays who other (Some f) ne pass h = let g = pass.grows in (pass.spares f other ne h.0, (let some = h.1 in omega arith))

-- what a party holds at most is not touched by another
pub holds_stays : {A : Type 0} {r s : Chain A} (who other : ℕ) (P : Part → Type 0) → other ≢ who → Passes who r s → HoldsOnly r other P → HoldsOnly s other P
holds_stays who other P ne pass holds = λ x e. holds x (pass.owned x other ne e)

pub saw_stays : {A : Type 0} {r s : Chain A} (who q : ℕ) (ms : List (State A)) (now : State A) → Passes who r s → SawTail r q ms → SawTail s q (seen_by now ms)
saw_stays who q ms now pass saw = record { below = saw.below; is = tail_is_stays who q pass saw.is; moment = seen_later ms now (WasOpenAt q) saw.moment }

pub head_was_stays : {A : Type 0} {r s : Chain A} (who h q : ℕ) (ms : List (State A)) (now : State A) → Passes who r s → SeenIn ms (HeadWas None h q r.tail) → SeenIn (seen_by now ms) (HeadWas None h q s.tail)
head_was_stays {r = r} {s = s} who h q ms now pass seen =
    let g = tail_grows who pass in
    seen_later ms now (HeadWas None h q s.tail) (seen_map ms (λ m p. (p.0, p.1, p.2, (let high = p.3 in omega arith))) seen)

pub saw_empty_stays : {A : Type 0} {r s : Chain A} (who h : ℕ) (ms : List (State A)) → ChainOk r → ChainOk s → Passes who r s → SawEmpty h r ms → SawEmpty h s (seen_by (queue_of s) ms)
saw_empty_stays {r = r} {s = s} who h ms ok ok' pass (started, low, inl seen) =
    let g = head_grows who pass in (started_later ms (queue_of s) started, omega arith, inl (seen_later ms (queue_of s) HasItems seen))
saw_empty_stays {r = r} {s = s} who h ms ok ok' pass (started, low, inr is) =
    let g = head_grows who pass in (
      started_later ms (queue_of s) started,
      omega arith,
      elim pass.tails [
        | inl e ↦ inr (e ∙ is)
        | inr e ↦ inl (seen_now ms (queue_of s) HasItems started (grown e pass.one))
      ],
    )
  where
    grown : s.tail ≡ r.tail + 1 → (s.head ≡ r.head) ⊎ (s.tail ≡ r.tail) → 0 < length s.items
    grown e (inl same) = let a = ok.count in let b = ok'.count in omega arith
    grown e (inr same) = absurd (omega arith)

pub claimed_stays : {A : Type 0} {r s : Chain A} (who other n : ℕ) (v : A) (name : ℕ) → other ≢ who → Passes who r s → Claimed r other n v name → Claimed s other n v name
claimed_stays who other n v name ne pass h = record {
  mine = pass.held (Write n) other ne (rw (h.mine) refl) ∙ h.mine;
  named = named_stays who (n / BLOCK_SLOTS) name pass h.named;
}

pub got_stays : {A : Type 0} {r s : Chain A} (who other n : ℕ) (x : A) (name : ℕ) → other ≢ who → Passes who r s → Got r other n x name → Got s other n x name
got_stays who other n x name ne pass h = record {
  mine = pass.held (Read n) other ne (rw (h.mine) refl) ∙ h.mine;
  item = pass.valued n x h.item;
  named = named_stays who (n / BLOCK_SLOTS) name pass h.named;
}

-- who moves the tail over the end of the block of the item n
pub lays_stays : {A : Type 0} {r s : Chain A} (who other n : ℕ) → other ≢ who → Passes who r s → (r.mover ≡ Laying other) × (r.tail ≡ n + 1) → (s.mover ≡ Laying other) × (s.tail ≡ n + 1)
lays_stays who other n ne pass (is, at) = let k = pass.held Tail other ne (rw is refl) in (k.0 ∙ is, k.1 ∙ at)

pub opens_stays : {A : Type 0} {r s : Chain A} (who other n : ℕ) → other ≢ who → Passes who r s → (r.mover ≡ Opening other) × (r.tail ≡ n + 1) → (s.mover ≡ Opening other) × (s.tail ≡ n + 1)
opens_stays who other n ne pass (is, at) = let k = pass.held Tail other ne (rw is refl) in (k.0 ∙ is, k.1 ∙ at)

pub passing_stays : {A : Type 0} {r s : Chain A} (who other n : ℕ) → other ≢ who → Passes who r s → (r.passer ≡ Passing other) × (r.head ≡ n + 1) → (s.passer ≡ Passing other) × (s.head ≡ n + 1)
passing_stays who other n ne pass (is, at) = let k = pass.held Head other ne (rw is refl) in (k.0 ∙ is, k.1 ∙ at)

pub entering_stays : {A : Type 0} {r s : Chain A} (who other n : ℕ) → other ≢ who → Passes who r s → (r.passer ≡ Entering other) × (r.head ≡ n + 1) → (s.passer ≡ Entering other) × (s.head ≡ n + 1)
entering_stays who other n ne pass (is, at) = let k = pass.held Head other ne (rw is refl) in (k.0 ∙ is, k.1 ∙ at)

pub linking_stays : {A : Type 0} {r s : Chain A} (who other b : ℕ) → other ≢ who → Passes who r s → r.links b ≡ Linking other → s.links b ≡ Linking other
linking_stays who other b ne pass is = pass.held (Next b) other ne (rw is refl) ∙ is

pub showing_stays : {A : Type 0} {r s : Chain A} (who other : ℕ) → other ≢ who → Passes who r s → r.shown ≡ Showing other → s.shown ≡ Showing other
showing_stays who other ne pass is = pass.held First other ne (rw is refl) ∙ is

pub walker_stays : {A : Type 0} {r s : Chain A} (who other b slot : ℕ) → other ≢ who → Passes who r s → r.walks b ≡ Walker other slot → s.walks b ≡ Walker other slot
walker_stays who other b slot ne pass is = pass.held (Passed b) other ne (rw is refl) ∙ is
