-- What a tail, or a head with a mark, tells: its position, and whether it has the mark.
use Rattle.std.proofs.Common.{ℕ, ◌+◌, ◌*◌, ◌%◌, ◌≡◌, ◌∙◌, inl, inr, Bool, true, false, sym, ap, arith, bit_and, bit_or}
use Rattle.std.specs.Int.Bits.{or_add_and}
use Rattle.std.proofs.lemmas.{Bool.ne_eqb, Bool.eq-eqb, Bool.Decides.eqb_tells, Nat.and_mask}
use Rattle.queue_steps.specs.Words.{position_of, is_shut, tail_of}
use Rattle.queue_laws.specs.Common.Vocabulary.{MARK, TAIL_STEP}

pub position_tail : (q : ℕ) (c : Bool) → position_of (tail_of q c) ≡ q
position_tail q true = omega arith
position_tail q false = omega arith

pub shut_tail : (q : ℕ) (c : Bool) → is_shut (tail_of q c) ≡ c
shut_tail q true = eq-eqb ((q * 2 + 1) % 2) 1 (omega arith)
shut_tail q false = ne_eqb ((q * 2) % 2) 1 (λ e. absurd (let z : (q * 2) % 2 ≡ 0 = omega arith in omega arith))

-- a word that is no closed queue's tail is twice its position
pub open_tail : (t : ℕ) → is_shut t ≡ false → t ≡ tail_of (position_of t) false
open_tail t e = elim (eqb_tells (t % 2) 1) [ inl h ↦ (let f : true ≡ false = sym h.0 ∙ e in cc) | inr h ↦ let ne = h.1 in omega arith ]

pub or_one : (n : ℕ) → bit_or n 1 + n % 2 ≡ n + 1
or_one n = let a = or_add_and n 1 in let b : bit_and n 1 ≡ n % 2 = and_mask n 1 in omega arith

-- the mark closes the tail
pub mark_tail : (q : ℕ) (c : Bool) → bit_or (tail_of q c) MARK ≡ tail_of q true
mark_tail q true = let a = or_one (q * 2 + 1) in let b : (q * 2 + 1) % 2 ≡ 1 = omega arith in omega arith
mark_tail q false = let a = or_one (q * 2) in let b : (q * 2) % 2 ≡ 0 = omega arith in omega arith

-- one position on
pub next_tail : (q : ℕ) (c : Bool) → tail_of q c + TAIL_STEP ≡ tail_of (q + 1) c
next_tail q true = omega arith
next_tail q false = omega arith

-- a tail that was read open at t, and is t still: the queue is open at that position
pub same_tail : (q : ℕ) (c : Bool) (t : ℕ) → is_shut t ≡ false → tail_of q c ≡ t → (c ≡ false) × (q ≡ position_of t)
same_tail q c t opened e = (sym (shut_tail q c) ∙ (ap is_shut e ∙ opened), sym (position_tail q c) ∙ ap position_of e)
