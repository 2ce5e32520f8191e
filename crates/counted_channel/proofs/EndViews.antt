-- What is known of an end as contracts see it, of its inside: a party and a seat.
use Rattle.std.proofs.Common.{◌≡◌, ℕ, zero, suc, [], refl, ap, sym, ◌∙◌, subst}
use Rattle.atomic_table.specs.Seated.{TableId}
use Rattle.queue_steps.specs.Shares.{Share, half}
use Rattle.concurrent_queue.specs.Shared.{PartyView, Parts}
use Rattle.counted_channel.specs.{declared.counting.Side.Side, Channel.End, Channel.EndParts, Channel.GivenBack, Channel.end_at, Counting.Seated, Counting.IsEndSeat, Counting.IsHalfEnd, Counting.side, Counting.at_side, Counting.stake_at}

stake_there : (i : ℕ) (x : Side) → stake_at i (at_side i x) ≡ x.stake
stake_there zero x = refl
stake_there (suc i) x = refl

half_stake : (i : ℕ) (m n : Seated) → IsHalfEnd i m n → stake_at i n.0 ≡ half (stake_at i m.0)
half_stake i m n is = ap (λ z. stake_at i z.0) is ∙ stake_there i (side 1 0 (half (stake_at i m.0)))

-- each of the two seats that the seat of an end becomes is the seat of an end
pub half_is_end : (i : ℕ) (m n : Seated) → IsHalfEnd i m n → IsEndSeat i n
half_is_end i m n is = subst (λ (s : Share). n ≡ (at_side i (side 1 0 s), [])) (sym (half_stake i m n is)) is

module _ {T : Type 0} (d a b : End T) where
  pub parted : (i : ℕ) (p q r : PartyView T) (t u v : TableId) (m n k : Seated) → end_at i p t m.0 ≡ d → a ≡ end_at i q u n.0 → b ≡ end_at i r v k.0 → Parts p q r → u ≡ t → v ≡ t → IsHalfEnd i m n → IsHalfEnd i m k → EndParts d a b
  parted i p q r t u v m n k is is₁ is₂ parts same₁ same₂ half₁ half₂ =
      let old = end_at i p t m.0 in let new = end_at i q u n.0 in
      subst {A = End T} (λ x. EndParts x a b) is
      (subst {A = End T} (λ x. EndParts old x b) (sym is₁)
      (subst {A = End T} (λ x. EndParts old new x) (sym is₂) (parts, same₁, same₂, half_stake i m n half₁, half_stake i m k half₂)))

  pub given_back : (e : End T) → e ≡ d → a ≡ b → GivenBack e b → GivenBack d a
  given_back e is is₁ given = subst {A = End T} (λ x. GivenBack x a) is (subst {A = End T} (λ x. GivenBack e x) (sym is₁) given)
