-- The parties of a channel's first two ends have halves of the share, which are together all of it.
use Rattle.std.proofs.Common.{◌≡◌, ℕ, refl, ap, sym, ◌∙◌, subst}
use Rattle.queue_steps.specs.Shares.{Share, IsEntire, entire, half, plus}
use Rattle.concurrent_queue.specs.Shared.{PartyView, Parts}

pub halves_again : (v s r : PartyView ℕ) (t : Share) → Parts v s r → v.view.share ≡ entire → t ≡ plus s.view.share r.view.share → IsEntire t
halves_again v s r t parts all is =
    let one : s.view.share ≡ half entire = parts.2.share.0 ∙ ap half all in
    let two : r.view.share ≡ half entire = parts.2.share.1 ∙ ap half all in
    subst {A = Share} (λ z. IsEntire z) (sym (is ∙ (λ i. plus (one i) (two i)))) refl

-- the same where the sender was parted again: the parties of both senders are joined, and then the receiver's
pub gathered_again : (v s r one two first second third both t : Share) → v ≡ entire → s ≡ half v → r ≡ half v → one ≡ half s → two ≡ half s
    → first ≡ one → second ≡ two → third ≡ r → both ≡ plus first second → t ≡ plus both third → IsEntire t
gathered_again v s r one two first second third both t all s_is r_is one_is two_is first_is second_is third_is both_is is =
    let halved : s ≡ half entire = s_is ∙ ap half all in
    let a : first ≡ half (half entire) = first_is ∙ (one_is ∙ ap half halved) in
    let b : second ≡ half (half entire) = second_is ∙ (two_is ∙ ap half halved) in
    let c : third ≡ half entire = third_is ∙ (r_is ∙ ap half all) in
    let sent : both ≡ plus (half (half entire)) (half (half entire)) = both_is ∙ (λ i. plus (a i) (b i)) in
    subst {A = Share} (λ z. IsEntire z) (sym (is ∙ (λ i. plus (sent i) (c i)))) refl
