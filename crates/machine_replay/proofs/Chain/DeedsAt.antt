-- What each call on a chain has claimed, wherever it stands.
use Rattle.std.proofs.Common.{ℕ, ◌+◌, ◌/◌, ◌≡◌, ◌∙◌, ◌⊎◌, inl, inr, Some, List, sym, ap, subst, arith}
use Rattle.machine_replay.specs.Vocabulary.{BLOCK_SLOTS}
use Rattle.queue_steps.specs.State.{State}
use Rattle.queue_laws.specs.Common.Stand.{Stand}
use Rattle.queue_laws.specs.Chain.ChainCells.{Laying, Opening, Chain, ChainOk, BlocksOk, Part, Write, Tail, Next, writer_of, reader_of, mover_of, passer_of, linker_of, Read, Head}
use Rattle.queue_laws.specs.Chain.ChainAt.{Either, At, push_tail, push_block, asking, installing, showing, claiming, laying, opening, chaining, writing, spending, pop_head, pop_block, pop_tail, taking, following, peeking, passing, entering, awaiting, reading, beginning, walking, destroying}
use Rattle.queue_laws.specs.Chain.ChainAt.{count_tail, count_head, count_again, empty_head, empty_tail, closing, closed_tail}
use Rattle.machine_steps.specs.ChainLeft.{front_at}
use Rattle.machine_replay.proofs.Chain.Deeds.{deed_of, DeedIs, idle, walks, reads_alone, reads_and_passes, writes_it, lays_it}

-- of three parts one
three : {x p q r : Part} (X : Type 0) → (x ≡ p) ⊎ (x ≡ q) ⊎ (x ≡ r) → (x ≡ p → X) → (x ≡ q → X) → (x ≡ r → X) → X
three X (inl e) a b c = a e
three X (inr (inl e)) a b c = b e
three X (inr (inr e)) a b c = c e

laying_blocks : (tail blocks n who : ℕ) → BlocksOk tail blocks (Laying who) → tail ≡ n + 1 → n / BLOCK_SLOTS + 1 ≡ blocks
laying_blocks tail blocks n who h e = let some = h.0 in let full = h.1 in omega arith

pub at_deed : {A : Type 0} {c : Chain A} {who : ℕ} {ms : List (State A)} {k : Stand A} → ChainOk c → At c who ms k → DeedIs c who (deed_of k.local k.touch k.op k.carried) (front_at k.local)
at_deed {c = c} {who = who} ok (push_tail d x spare none spare_is) = idle c who none
at_deed {c = c} {who = who} ok (push_block d x spare q none spare_is saw) = idle c who none
at_deed {c = c} {who = who} ok (asking d x q block none saw asked) = idle c who none
at_deed {c = c} {who = who} ok (installing d x f none saw fresh) = idle c who none
at_deed {c = c} {who = who} ok (showing d x name first saw is named) = record {
  puts = λ n v e. absurd (let z = first (Write n) (ap writer_of e) in cc);
  reads = λ n e. absurd (let z = first (Read n) (ap reader_of e) in cc);
  links = λ b e. absurd (let z = first (Next b) (ap linker_of e) in cc);
  lays = λ e. absurd (let z = first Tail (ap mover_of e) in cc);
  passes = λ e. absurd (let z = first Head (ap passer_of e) in cc);
  shows = λ e y. ap (λ f. Some f) named.1;
  claimed = tt;
  fronts = λ y. inr (is, ap (λ f. Some f) named.1);
}
at_deed {c = c} {who = who} ok (claiming d x q name spare none spare_is saw block enough) = idle c who none
at_deed {c = c} {who = who} ok (laying d x n name f holds mine lays fresh) =
    let last = laying_blocks c.tail c.blocks n who (subst (λ m. BlocksOk c.tail c.blocks m) lays.0 ok.laid) lays.1 in
    lays_it c who n x name f (Either (Write n) Tail) holds mine (inr (lays.0, fresh, last))
    (λ m z. elim z [ inl e ↦ cc | inr e ↦ absurd (cc) ]) (λ m z. elim z [ inl e ↦ cc | inr e ↦ cc ]) (λ b z is. absurd (elim z [ inl e ↦ cc | inr e ↦ cc ])) (λ e. (fresh, last)) (λ z. elim z [ inl e ↦ cc | inr e ↦ cc ]) (λ z. elim z [ inl e ↦ cc | inr e ↦ cc ])
at_deed {c = c} {who = who} ok (opening d x n name f holds mine opens links named) =
    lays_it c who n x name f (λ x. (x ≡ Write n) ⊎ (x ≡ Tail) ⊎ (x ≡ Next (n / BLOCK_SLOTS))) holds mine (inl (links, named.1))
    (λ m z. three (m ≡ n) z (λ e. cc) (λ e. absurd (cc)) (λ e. absurd (cc))) (λ m z. three ⊥ z (λ e. cc) (λ e. cc) (λ e. cc))
    (λ b z is. three ((b ≡ n / BLOCK_SLOTS) × (f ≡ c.names (b + 1))) z (λ e. absurd (cc)) (λ e. absurd (cc)) (λ e. let at : b ≡ n / BLOCK_SLOTS = cc in (at, named.1 ∙ ap (λ j. c.names (j + 1)) (sym at))))
    (λ e. absurd (let z : Opening who ≡ Laying who = sym opens.0 ∙ e in cc)) (λ z. three ⊥ z (λ e. cc) (λ e. cc) (λ e. cc)) (λ z. three ⊥ z (λ e. cc) (λ e. cc) (λ e. cc))
at_deed {c = c} {who = who} ok (chaining d x n name f holds mine links named) =
    lays_it c who n x name f (Either (Write n) (Next (n / BLOCK_SLOTS))) holds mine (inl (links, named.1))
    (λ m z. elim z [ inl e ↦ cc | inr e ↦ absurd (cc) ]) (λ m z. elim z [ inl e ↦ cc | inr e ↦ cc ])
    (λ b z is. elim z [ inl e ↦ absurd (cc) | inr e ↦ let at : b ≡ n / BLOCK_SLOTS = cc in (at, named.1 ∙ ap (λ j. c.names (j + 1)) (sym at)) ])
    (λ e. absurd (elim (holds Tail (ap mover_of e)) [ inl z ↦ cc | inr z ↦ cc ])) (λ z. elim z [ inl e ↦ cc | inr e ↦ cc ]) (λ z. elim z [ inl e ↦ cc | inr e ↦ cc ])
at_deed {c = c} {who = who} ok (writing d x n name spare holds mine spare_is) = writes_it c who n x name holds mine
at_deed {c = c} {who = who} ok (spending d x spare none spare_is spent) = idle c who none
at_deed {c = c} {who = who} ok (pop_head none) = idle c who none
at_deed {c = c} {who = who} ok (pop_block n more none is room) = idle c who none
at_deed {c = c} {who = who} ok (pop_tail n block none is front) = idle c who none
at_deed {c = c} {who = who} ok (taking n name next more new none is front there word_is room) = idle c who none
at_deed {c = c} {who = who} ok (following x n name more holds got pass) = reads_and_passes c who n x name more holds got pass.1
at_deed {c = c} {who = who} ok (peeking x n name after more holds got pass behind) = reads_and_passes c who n x name more holds got pass.1
at_deed {c = c} {who = who} ok (passing x n name after more further holds got pass behind room) = reads_and_passes c who n x name more holds got pass.1
at_deed {c = c} {who = who} ok (entering x n name more further holds got enters room) = reads_and_passes c who n x name more holds got enters.1
at_deed {c = c} {who = who} ok (awaiting x n name more holds got) = reads_alone c who n x name more holds got
at_deed {c = c} {who = who} ok (reading x n name more holds got wrote inner) = reads_alone c who n x name more holds got
at_deed {c = c} {who = who} ok (beginning x n name more holds got wrote last) = reads_alone c who n x name more holds got
at_deed {c = c} {who = who} ok (walking x b name slot holds is named) = walks c who b holds
at_deed {c = c} {who = who} ok (destroying x b name slot holds is named) = walks c who b holds
at_deed {c = c} {who = who} ok (count_tail l count none) = idle c who none
at_deed {c = c} {who = who} ok (count_head l w count none small low) = idle c who none
at_deed {c = c} {who = who} ok (count_again l w h count none small seen) = idle c who none
at_deed {c = c} {who = who} ok (empty_head none) = idle c who none
at_deed {c = c} {who = who} ok (empty_tail h none small saw) = idle c who none
at_deed {c = c} {who = who} ok (closing none) = idle c who none
at_deed {c = c} {who = who} ok (closed_tail none) = idle c who none
